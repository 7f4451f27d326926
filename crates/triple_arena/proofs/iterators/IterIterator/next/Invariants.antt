use Rattle.std.specs.Prelude.{◌≡◌, ◌-◌, length, map}
use Rattle.triple_arena_ptr.specs.Index.{max_index_of}
use Rattle.triple_arena.specs.Iterators.{IsCursor, listed_behind, with_part}
use Rattle.triple_arena.proofs.iterators.IterIterator.next.Given as goal

-- what is passed held no entry
abbrev pub invariant-loop-slot : goal.invariant-loop-slot
invariant-loop-slot g l =
    record {
      cursor : IsCursor g.E.LentEntry.shown l.self-inside.slots.now l.self-inside.passed
          l.self-inside.left (max_index_of g.P.Inx.PtrInxCore.greatest);
      same : map (with_part g.M.Part.part)
          (listed_behind l.self-inside.passed (map g.E.LentEntry.shown l.self-inside.slots.now))
          ≡ l.fn.self;
    }

abbrev pub decreases-loop-slot : goal.decreases-loop-slot
decreases-loop-slot g l = length l.self-inside.slots.now - l.self-inside.passed

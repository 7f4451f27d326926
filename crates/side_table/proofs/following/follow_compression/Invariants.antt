use Rattle.std.specs.Prelude.{◌≡◌, ℕ, ◌+◌, ◌-◌, ◌≤◌, false, IsSome}
use Rattle.triple_arena.specs.DirectContent.{entry_at, IsWellFormed}
use Rattle.side_table.proofs.SideTableLemmas.{IsCarriedTo}
use Rattle.side_table.proofs.following.follow_compression.Given as goal

-- the values at the indexes that are passed are carried over, and the others are as they were
abbrev pub invariant-loop-old : goal.invariant-loop-old
invariant-loop-old g l =
    record {
      rises : l.walk.falls ≡ false;
      reaches : (j : ℕ) → IsSome (entry_at l.table j) → j ≤ l.walk.high;
      carried : IsCarriedTo g.P.PtrCore.index g.P.PtrCore.generation (entry_at l.map)
          (entry_at l.fn.table) l.walk.low (entry_at l.table);
      room : l.table.room ≡ l.fn.table.room;
      formed : IsWellFormed l.table;
    }

abbrev pub decreases-loop-old : goal.decreases-loop-old
decreases-loop-old g l = l.walk.high + 1 - l.walk.low

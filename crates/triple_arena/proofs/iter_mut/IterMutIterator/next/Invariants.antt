use Rattle.std.proofs.Common.{◌≡◌, ◌≤◌, ◌+◌, length}
use Rattle.triple_arena_ptr.specs.Index.{max_index_of}
use Rattle.triple_arena.specs.IterMut.{entries_of}
use Rattle.triple_arena.proofs.iter_mut.IterMutIterator.next.Given as goal

abbrev pub invariant-loop-self : goal.invariant-loop-self
invariant-loop-self g l =
    let inside = l.self-inside in
    let entries = entries_of g.E.SlotKey.key_number g.E.LentValue.held (inside.passed + 1)
    inside.slots.run in
    (inside.left ≡ length entries)
    × (inside.passed + length inside.slots.run ≤ max_index_of g.P.Inx.PtrInxCore.greatest)
    × (l.fn.self.0 ≡ entries) × (l.fn.self.1 ≡ inside.slots.tie)

abbrev pub decreases-loop-self : goal.decreases-loop-self
decreases-loop-self g l = length l.self-inside.slots.run

use Rattle.std.proofs.Common.{◌≡◌, map, length}
use Rattle.triple_arena.proofs.CopyLemmas.{Copying}
use Rattle.triple_arena.proofs.copy.append_copies.Given as goal

abbrev pub invariant-loop-slot : goal.invariant-loop-slot
invariant-loop-slot g l =
    goal.F-IsAlwaysCallable g l.map
    × Copying g.P.PtrCore.index g.P.PtrCore.generation (goal.F-step g) l.fn.map
    (map g.E.LentEntry.shown l.fn.source) l.map
    (map g.E.LentEntry.shown l.left)
    (map g.L.EntrySlot.entry (g.S.NonZeroInxGenericStack.items l.slots)) l.live
    × (g.S.NonZeroInxGenericStack.room l.slots ≡ g.S.NonZeroInxGenericStack.room l.fn.slots)

abbrev pub decreases-loop-slot : goal.decreases-loop-slot
decreases-loop-slot g l = length l.left

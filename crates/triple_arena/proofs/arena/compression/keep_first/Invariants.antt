use Rattle.std.proofs.Common.{◌≡◌, ◌≤◌, length, take}
use Rattle.triple_arena.proofs.arena.compression.keep_first.Given as goal

abbrev pub invariant-loop-slots : goal.invariant-loop-slots
invariant-loop-slots g l =
    (l.len ≤ length (g.S.NonZeroInxGenericStack.items l.slots))
    × (take l.len (g.S.NonZeroInxGenericStack.items l.slots)
    ≡ take l.fn.len (g.S.NonZeroInxGenericStack.items l.fn.slots))
    × (l.len ≡ l.fn.len)
    × (g.S.NonZeroInxGenericStack.room l.slots ≡ g.S.NonZeroInxGenericStack.room l.fn.slots)

abbrev pub decreases-loop-slots : goal.decreases-loop-slots
decreases-loop-slots g l = length (g.S.NonZeroInxGenericStack.items l.slots)

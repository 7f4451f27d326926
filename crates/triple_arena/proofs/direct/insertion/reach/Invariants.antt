use Rattle.std.proofs.Common.{◌≡◌, ◌≤◌, ◌-◌, length, max}
use Rattle.triple_arena.specs.DirectContent.{reaching}
use Rattle.triple_arena.proofs.direct.insertion.reach.Given as goal

-- so far free slots were appended alone, and none past the last that is asked for
abbrev pub invariant-loop-slots : goal.invariant-loop-slots
invariant-loop-slots g l =
    (g.S.NonZeroInxGenericStack.items l.slots
    ≡ reaching (length (g.S.NonZeroInxGenericStack.items l.slots))
    (g.S.NonZeroInxGenericStack.items l.fn.slots))
    × (length (g.S.NonZeroInxGenericStack.items l.slots)
    ≤ max (length (g.S.NonZeroInxGenericStack.items l.fn.slots)) l.n)
    × (length (g.S.NonZeroInxGenericStack.items l.fn.slots)
    ≤ length (g.S.NonZeroInxGenericStack.items l.slots))
    × (l.n ≡ l.fn.n)
    × (g.S.NonZeroInxGenericStack.room l.slots ≡ g.S.NonZeroInxGenericStack.room l.fn.slots)

abbrev pub decreases-loop-slots : goal.decreases-loop-slots
decreases-loop-slots g l = l.n - length (g.S.NonZeroInxGenericStack.items l.slots)

use Rattle.std.proofs.Common.{◌≡◌}
use Rattle.triple_arena.proofs.FreeSlotsLemmas.{Risen}
use Rattle.triple_arena.proofs.arena.free_slots.link_rising.Given as goal

abbrev pub invariant-loop-i : goal.invariant-loop-i
invariant-loop-i g l =
    Risen (g.S.NonZeroInxGenericStack.items l.fn.slots) (g.S.NonZeroInxGenericStack.items l.slots)
    l.head l.left
    × (g.S.NonZeroInxGenericStack.room l.slots ≡ g.S.NonZeroInxGenericStack.room l.fn.slots)

abbrev pub decreases-loop-i : goal.decreases-loop-i
decreases-loop-i g l = l.left

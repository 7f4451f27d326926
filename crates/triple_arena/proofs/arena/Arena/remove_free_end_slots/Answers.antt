use Rattle.std.proofs.Common.{◌<◌, length, sym, ap, subst, ◌∙◌}
use Rattle.triple_arena.specs.Content.{without_free_end}
use Rattle.triple_arena.specs.FreeListLaws.{no_free_end}
use Rattle.triple_arena.proofs.FreeSlotsLemmas.{without_last-end, without_last-fewer}
use Rattle.triple_arena.proofs.arena.Arena.remove_free_end_slots.Goals as goal

pub loop-preserved : goal.loop-preserved
loop-preserved g c =
    let popped = c.pop_free_slot.ensures in
    ap without_free_end (popped.popped c.loop-test.true)
    ∙ without_last-end _ (popped.free c.loop-test.true) ∙ c.loop.invariant

pub loop-smaller : goal.loop-smaller
loop-smaller g c =
    let popped = c.pop_free_slot.ensures in
    subst (λ d. length d.slots < length c.loop.self.slots) (sym (popped.popped c.loop-test.true))
    (without_last-fewer _ (popped.free c.loop-test.true))

pub returns-clause-value : goal.returns-clause-value
returns-clause-value g c =
    let left = c.pop_free_slot.ensures in
    left.kept c.loop-test.false ∙ sym (no_free_end _ left.formed (left.live c.loop-test.false))
    ∙ c.loop.invariant

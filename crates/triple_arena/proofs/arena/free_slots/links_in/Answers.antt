use Rattle.std.proofs.Common.{option_copied, sym, ap, ◌∙◌}
use Rattle.std.specs.Int.NonZero.{non_zero_usize_get}
use Rattle.triple_arena.proofs.FreeListLemmas.{links_of_slot}
use Rattle.triple_arena.proofs.FreeSlotsLemmas.{links_of_none}
use Rattle.triple_arena.proofs.arena.free_slots.links_in.Goals as goal

pub returns-in-Some : goal.returns-in-Some
returns-in-Some g c =
    c.links.ensures ∙ sym
    (links_of_slot _ _ _ c.args.i.ok (sym c.get.ensures ∙ ap option_copied c.in-Some.is))

pub returns-in-None : goal.returns-in-None
returns-in-None g c =
    sym (links_of_none (g.S.NonZeroInxGenericStack.items c.args.slots.now)
    (non_zero_usize_get c.args.i) (sym c.get.ensures ∙ ap option_copied c.in-None.is))

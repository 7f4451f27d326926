use Rattle.std.proofs.Common.{◌∙◌, ap, sym, Some}
use Rattle.route_lines.specs.Cuts.{last_item}
use Rattle.route_book.proofs.NeighborLemmas.{TellsBeside, previous_tells}
use Rattle.route_book.proofs.place_arena.ticket_before.Given.{Over}
use Rattle.route_book.proofs.place_arena.ticket_before.Goals.{In-Some}
use Rattle.route_book.proofs.place_arena.ticket_before.Goals as goal

tells : (g : Over) (c : In-Some g) → TellsBeside c.args.places.now
    (g.P.PtrCore.index c.args.at) (g.P.PtrCore.generation c.args.at) c.in-Some.entry.1.prev
    (λ front back. last_item front)
tells g c =
    previous_tells g.P.PtrCore.index g.P.PtrCore.generation g.P.Gen.PtrGenCore.number
    c.args.places.now c.in-Some.ensures.ordered c.requires.rise c.args.at c.requires.live
    (λ i some. c.entries_stand_in_the_list.ensures c.args.places.now i c.in-Some.ensures.ordered
    some) c.in-Some.entry _ c.inx.ensures c.in-Some.ensures.link

pub get_inx_unwrap-requires : goal.get_inx_unwrap-requires
get_inx_unwrap-requires g c =
    (tells g (goal.at.get_inx_unwrap-requires g c).In-Some).live
    (g.P.Inx.PtrInxCore.number c.in-Some-prev.i) (sym c.in-Some-prev.ensures)

pub returns-in-Some-prev : goal.returns-in-Some-prev
returns-in-Some-prev g c front back p value whole =
    ap Some c.ticket.ensures
    ∙ (tells g (goal.at.returns-in-Some-prev g c).In-Some).ticket
    (g.P.Inx.PtrInxCore.number c.in-Some-prev.i) c.get_inx_unwrap.result.now
    (sym c.in-Some-prev.ensures) c.get_inx_unwrap.ensures front back p value whole

pub returns-in-None : goal.returns-in-None
returns-in-None g c front back p value whole =
    (tells g (goal.at.returns-in-None g c).In-Some).missing (sym c.in-None.ensures) front back p
    value whole

use Rattle.std.proofs.Common.{◌∙◌, ap, sym, Some}
use Rattle.route_lines.specs.Cuts.{first_item}
use Rattle.route_book.proofs.NeighborLemmas.{TellsBeside, next_tells}
use Rattle.route_book.proofs.place_arena.ticket_after.Given.{Over}
use Rattle.route_book.proofs.place_arena.ticket_after.Goals.{In-Some}
use Rattle.route_book.proofs.place_arena.ticket_after.Goals as goal

tells : (g : Over) (c : In-Some g) → TellsBeside c.args.places.now
    (g.P.PtrCore.index c.args.at) (g.P.PtrCore.generation c.args.at) c.in-Some.entry.1.next
    (λ front back. first_item back)
tells g c =
    next_tells g.P.PtrCore.index g.P.PtrCore.generation g.P.Gen.PtrGenCore.number c.args.places.now
    c.in-Some.ensures.ordered c.requires.rise c.args.at c.requires.live
    (λ i some. c.entries_stand_in_the_list.ensures c.args.places.now i c.in-Some.ensures.ordered
    some) c.in-Some.entry _ c.inx.ensures c.in-Some.ensures.link

pub get_inx_unwrap-requires : goal.get_inx_unwrap-requires
get_inx_unwrap-requires g c =
    (tells g (goal.at.get_inx_unwrap-requires g c).In-Some).live
    (g.P.Inx.PtrInxCore.number c.in-Some-next.i) (sym c.in-Some-next.ensures)

pub returns-in-Some-next : goal.returns-in-Some-next
returns-in-Some-next g c front back p value whole =
    ap Some c.ticket.ensures
    ∙ (tells g (goal.at.returns-in-Some-next g c).In-Some).ticket
    (g.P.Inx.PtrInxCore.number c.in-Some-next.i) c.get_inx_unwrap.result.now
    (sym c.in-Some-next.ensures) c.get_inx_unwrap.ensures front back p value whole

pub returns-in-None : goal.returns-in-None
returns-in-None g c front back p value whole =
    (tells g (goal.at.returns-in-None g c).In-Some).missing (sym c.in-None.ensures) front back p
    value whole

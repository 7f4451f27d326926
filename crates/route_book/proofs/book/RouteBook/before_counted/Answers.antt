use Rattle.route_book.proofs.NeighborLemmas.{answers_before}
use Rattle.route_book.proofs.book.RouteBook.before_counted.Goals as goal

pub returns-clause-result : goal.returns-clause-result
returns-clause-result g c =
    let b = c.self.invariant.book in
    answers_before _ _ _ _ _ c.self.view_is b.places_rise b.held.in_order c.args.ticket _ _
    c.in_ok-at.ensures.found
    (λ some. c.entries_stand_in_the_list.ensures c.self.inside.places _ c.len.ensures.formed.ordered
    some) _ c.ticket_before.ensures

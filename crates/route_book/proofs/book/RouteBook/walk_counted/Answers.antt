use Rattle.route_book.proofs.WalkedLemmas.{walked_along}
use Rattle.route_book.proofs.book.RouteBook.walk_counted.Goals as goal

pub returns-clause-result : goal.returns-clause-result
returns-clause-result g c =
    let s = c.self.inside.held.state in
    let sound = c.self.invariant.sound in
    walked_along _ _ s _ _ _ _ c.self.invariant.book c.len.ensures.formed.agreed
    (λ x y. c.stops_follow_their_previous_ones.ensures s x y sound)
    (λ front behind t known leads first. c.lists_are_walked_both_ways.ensures s front behind t sound
    (record { known = known; leads = leads; first = first }))
    (λ t behind known leads once. c.rings_are_walked_once.ensures s t behind sound
    (record { known = known; leads = leads; once = once }))
    _ c.self.view_is c.args.stop _ _ c.in_ok-at.ensures.found _ c.in-Some.ensures.along

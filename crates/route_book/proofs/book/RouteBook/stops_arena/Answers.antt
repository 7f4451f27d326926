use Rattle.std.proofs.Common.{subst}
use Rattle.triple_arena_chain.specs.Links.{ends_in, values_in}
use Rattle.route_lines.specs.Routes.{next_stop}
use Rattle.route_book.specs.Book.{Book, found_of}
use Rattle.route_book.specs.Follows.{AreRoutes, LeadAs}
use Rattle.route_book.specs.Item.{StopView}
use Rattle.route_book.specs.Walked.{stop_in}
use Rattle.route_book.proofs.WalkedLemmas.{routes_chained}
use Rattle.route_book.proofs.book.RouteBook.stops_arena.Goals as goal

pub returns-clause-routes : goal.returns-clause-routes
returns-clause-routes g c =
    let s = c.self.inside.held.state in
    let sound = c.self.invariant.sound in
    subst (λ (b : Book). AreRoutes (stop_in (found_of b))
    (ends_in c.self.inside.stops) b.state.routes) c.self.view_is
    (routes_chained _ _ s _ _ _ _ c.self.invariant.book c.len.ensures.formed.agreed
    (λ x y. c.stops_follow_their_previous_ones.ensures s x y sound)
    (c.routes_lead_along.ensures.next s sound) (c.routes_lead_along.ensures.first s sound)
    (c.routes_lead_along.ensures.stops s sound) sound.routes.once)

pub returns-clause-next : goal.returns-clause-next
returns-clause-next g c =
    subst (λ (b : Book). LeadAs (λ (t : StopView). t.ticket)
    (values_in c.self.inside.stops) (ends_in c.self.inside.stops)
    (next_stop b.state.routes))
    c.self.view_is c.self.invariant.book.held.routes

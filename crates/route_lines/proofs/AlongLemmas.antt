-- Where the stops along each route lead.
use Rattle.std.proofs.Common.{◌≡◌, ◌∙◌, ap, refl, false, List, [], ◌∷◌, Some, None, IfSome}
use Rattle.std.proofs.Common.{if◌then◌else◌}
use Rattle.std.specs.List.{AllByRecursion}
use Rattle.std.specs.Option.{option_or, option_and_then}
use Rattle.std.proofs.lemmas.Bool.{eq-eqb}
use Rattle.route_lines.specs.Cuts.{before, first_item, last_item}
use Rattle.route_lines.specs.Leads.{Leads, closes_at}
use Rattle.route_lines.specs.Routes.{has_ticket, ticket_of, previous_in, route_of, next_stop}
use Rattle.route_lines.specs.Routes.{previous_stop}
use Rattle.route_lines.specs.Sound.{AreWritten}
use Rattle.route_lines.specs.State.{Stop, Route, stop_list, stop_of}
use Rattle.route_lines.specs.CutLaws.{all_weaker}
use Rattle.route_lines.proofs.LinkLemmas.{Links-next_stop, own_route}
use Rattle.route_lines.proofs.UndoLemmas.{own_stop}

module _ (routes : List Route) (written : AreWritten routes) where
  pub lead_along : AllByRecursion (λ r. Leads (next_stop routes) (closes_at r) r.stops) routes
  lead_along = Links-next_stop routes written.once

  -- none comes before the first stop of a route that is no ring
  first_along : (r : Route) (xs : List Stop) → r.stops ≡ xs
      → AllByRecursion (λ t. route_of routes t.ticket ≡ Some r) xs → r.is_ring ≡ false
      → IfSome (first_item xs) (λ t. previous_stop routes t.ticket ≡ None)
  first_along r [] is own linear = tt
  first_along r (t ∷ xs) is own linear =
      let none : before (has_ticket t.ticket) (t ∷ xs) ≡ [] =
      rw (eq-eqb t.ticket t.ticket refl) refl in
      ap (option_and_then (previous_in t.ticket)) own.0
      ∙ ap (λ ys. ticket_of
      (option_or (last_item (before (has_ticket t.ticket) ys))
      (if r.is_ring then last_item ys else None))) is
      ∙ ap (λ ys. ticket_of
      (option_or (last_item ys) (if r.is_ring then last_item (t ∷ xs) else None))) none
      ∙ ap (λ b. ticket_of (if b then last_item (t ∷ xs) else None)) linear

  pub none_before_first : AllByRecursion
      (λ r. r.is_ring ≡ false
      → IfSome (first_item r.stops) (λ t. previous_stop routes t.ticket ≡ None)) routes
  none_before_first =
      all_weaker (λ r. AllByRecursion (λ t. route_of routes t.ticket ≡ Some r) r.stops)
      (λ r. r.is_ring ≡ false
      → IfSome (first_item r.stops) (λ t. previous_stop routes t.ticket ≡ None)) routes
      (λ r own. first_along r r.stops refl own) (own_route routes written.once)

  pub stops_stand : AllByRecursion (λ t. stop_of routes t.ticket ≡ Some t) (stop_list routes)
  stops_stand = own_stop (stop_list routes) written.once

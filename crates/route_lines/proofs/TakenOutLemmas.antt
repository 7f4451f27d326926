-- Routes with a stop less: they stay written as they should be, with all other stops.
use Rattle.std.proofs.Common.{◌≡◌, ◌∙◌, sym, ap, subst, refl, Bool, true, false, ◌⊎◌, inl, inr, ℕ}
use Rattle.std.proofs.Common.{◌+◌, ◌<◌, ◌≤◌, List, [], ◌∷◌, Option, Some, None, cond, not, filter}
use Rattle.std.proofs.Common.{arith}
use Rattle.std.specs.List.{AllByRecursion}
use Rattle.std.proofs.lemmas.Bool.{cases_lt}
use Rattle.route_lines.specs.Routes.{has_ticket, linear, ring, has_stop, route_of, without}
use Rattle.route_lines.specs.Routes.{put_route, taken_out}
use Rattle.route_lines.specs.Sound.{total, count_of, AreWritten}
use Rattle.route_lines.specs.State.{Stop, Route, stop_list}
use Rattle.route_lines.specs.CutLaws.{all_filter, found_passes, count-any}
use Rattle.route_lines.proofs.LinkLemmas.{found_if_counted}
use Rattle.route_lines.proofs.RemovedLemmas.{total-filter}
use Rattle.route_lines.proofs.RouteLemmas.{all_stops_put, all_stops_with, all_stops_without}
use Rattle.route_lines.proofs.RouteLemmas.{all_ring, total-put, total-ring, total-without}
use Rattle.route_lines.proofs.RouteLemmas.{with_found, AreWritten-put, AreWritten-without}
use Rattle.route_lines.proofs.RouteLemmas.{IsWritten-linear, IsWritten-ring}

-- a route without the stops of a ticket
abbrev pub rest_of_route : ℕ → Route → List Stop
rest_of_route s r = filter (λ t. not (has_ticket s t)) r.stops

pub AreWritten-taken_out : (s : ℕ) (routes : List Route) → AreWritten routes
    → AreWritten (taken_out s routes)
AreWritten-taken_out s routes written = by (route_of routes s) refl
  where
    others : List Route
    others = without s routes

    whole : AreWritten others
    whole = AreWritten-without s routes written

    by : (o : Option Route) → route_of routes s ≡ o → AreWritten (taken_out s routes)
    by None e = rw e written
    by (Some r) e = rw e (at r.is_ring)
      where
        rest : List Stop
        rest = rest_of_route s r

        few : (k : ℕ) → count_of (has_ticket k) rest + count_of (has_ticket k) (stop_list others)
            ≤ 1
        few k =
            omega (
              arith,
              total-filter (λ x. cond (has_ticket k x) 1 0) (has_ticket s) r.stops,
              ap (count_of (has_ticket k)) (with_found s routes r e),
              total-without (λ x. cond (has_ticket k x) 1 0) s routes (written.once s),
              written.once k,
            )

        at : (b : Bool) → AreWritten (put_route (cond b (ring rest) (linear rest)) others)
        at true = AreWritten-put (ring rest) others (IsWritten-ring rest) whole
            (λ k. omega (arith, few k, total-ring (λ x. cond (has_ticket k x) 1 0) rest))
        at false = AreWritten-put (linear rest) others (IsWritten-linear rest) whole few

-- what the stops of a ticket weigh
abbrev pub weight_under : ℕ → (Stop → ℕ) → Stop → ℕ
weight_under s weight x = cond (has_ticket s x) (weight x) 0

weightless : (s : ℕ) (weight : Stop → ℕ) (xs : List Stop) → count_of (has_ticket s) xs ≡ 0
    → total (weight_under s weight) xs ≡ 0
weightless s weight [] none = refl
weightless s weight (x ∷ xs) none = at (has_ticket s x) refl (weightless s weight xs)
  where
    at : (b : Bool) → has_ticket s x ≡ b
        → (count_of (has_ticket s) xs ≡ 0 → total (weight_under s weight) xs ≡ 0)
        → cond b (weight x) 0 + total (weight_under s weight) xs ≡ 0
    at true e h = absurd (omega (arith, none, ap {B = ℕ} (λ b. cond b 1 0) e))
    at false e h = omega (arith, h (omega (arith, none)))

-- the stops but those of the ticket are left
pub total-taken_out : (weight : Stop → ℕ) (s : ℕ) (routes : List Route) → AreWritten routes
    → total weight (stop_list (taken_out s routes)) + total (weight_under s weight)
    (stop_list routes)
    ≡ total weight (stop_list routes)
total-taken_out weight s routes written = by (route_of routes s) refl
  where
    others : List Route
    others = without s routes

    by : (o : Option Route) → route_of routes s ≡ o
        → total weight (stop_list (taken_out s routes)) + total (weight_under s weight)
        (stop_list routes) ≡ total weight (stop_list routes)
    by None e = rw e (omega (
      arith,
      weightless s weight (stop_list routes)
          (off (cases_lt 0 (count_of (has_ticket s) (stop_list routes)))),
    ))
      where
        off : (0 < count_of (has_ticket s) (stop_list routes))
            ⊎ (count_of (has_ticket s) (stop_list routes) ≤ 0)
            → count_of (has_ticket s) (stop_list routes) ≡ 0
        off (inl some) = let on = found_if_counted s routes (omega (arith, some)) in
            let no : None ≡ Some on.0 = sym e ∙ on.1 in cc
        off (inr none) = omega (arith, none)
    by (Some r) e = rw e (at r.is_ring)
      where
        rest : List Stop
        rest = rest_of_route s r

        lack : count_of (has_ticket s) (stop_list others) ≡ 0
        lack =
            omega (
              arith,
              count-any (has_ticket s) r.stops (found_passes (has_stop s) routes r e),
              ap (count_of (has_ticket s)) (with_found s routes r e),
              total-without (λ x. cond (has_ticket s x) 1 0) s routes (written.once s),
              written.once s,
            )

        parts : total weight rest + total weight (stop_list others) + total (weight_under s weight)
            (stop_list routes) ≡ total weight (stop_list routes)
        parts =
            omega (
              arith,
              total-filter weight (has_ticket s) r.stops,
              ap (total weight) (with_found s routes r e),
              ap (total (weight_under s weight)) (with_found s routes r e),
              total-without weight s routes (written.once s),
              total-without (weight_under s weight) s routes (written.once s),
              weightless s weight (stop_list others) lack,
            )

        at : (b : Bool) → total weight
            (stop_list (put_route (cond b (ring rest) (linear rest)) others)) + total
            (weight_under s weight) (stop_list routes) ≡ total weight (stop_list routes)
        at true = omega (arith, parts, total-put weight (ring rest) others, total-ring weight rest)
        at false = omega (arith, parts, total-put weight (linear rest) others)

pub all_taken_out : (P : Stop → Type 0) (s : ℕ) (routes : List Route)
    → AllByRecursion P (stop_list routes) → AllByRecursion P (stop_list (taken_out s routes))
all_taken_out P s routes h = by (route_of routes s) refl
  where
    others : List Route
    others = without s routes

    by : (o : Option Route) → route_of routes s ≡ o
        → AllByRecursion P (stop_list (taken_out s routes))
    by None e = rw e h
    by (Some r) e = rw e (at r.is_ring)
      where
        rest : List Stop
        rest = rest_of_route s r

        each : AllByRecursion P rest
        each = all_filter P (λ t. not (has_ticket s t)) r.stops
            (subst (AllByRecursion P) (sym (with_found s routes r e)) (all_stops_with P s routes h))

        at : (b : Bool) → AllByRecursion P
            (stop_list (put_route (cond b (ring rest) (linear rest)) others))
        at true = all_stops_put P (ring rest) others (all_ring P rest each)
            (all_stops_without P s routes h)
        at false = all_stops_put P (linear rest) others each (all_stops_without P s routes h)

-- Routes with a stop more, whose ticket is above all others.
use Rattle.std.proofs.Common.{◌≡◌, ◌∙◌, sym, ap, subst, refl, Bool, true, false, ◌==◌, ℕ, ◌+◌, ◌<◌}
use Rattle.std.proofs.Common.{◌≤◌, List, [], ◌∷◌, ◌++◌, length, cond, arith}
use Rattle.std.specs.List.{AllByRecursion}
use Rattle.std.proofs.lemmas.Bool.{eqb-true}
use Rattle.route_lines.specs.Cuts.{up_to, behind}
use Rattle.route_lines.specs.Routes.{has_ticket, linear, has_stop, first_ticket, put_behind}
use Rattle.route_lines.specs.Sound.{RoutesRise, total, count_of, IsWritten, AreWritten}
use Rattle.route_lines.specs.State.{Stop, Route, stop_list}
use Rattle.route_lines.specs.CutLaws.{up_to_behind, all_append, all_front, all_back, total-append}
use Rattle.route_lines.specs.CutLaws.{count-any, none_above, stop_list-more}
use Rattle.route_lines.proofs.RouteLemmas.{IsWritten-linear}

-- the first tickets of routes are below a number that is above all tickets
firsts_below : (last n : ℕ) (routes : List Route) → AllByRecursion IsWritten routes
    → AllByRecursion (λ t. (0 < t.ticket) × (t.ticket ≤ last)) (stop_list routes) → last < n
    → AllByRecursion (λ r. first_ticket r < n) routes
firsts_below last n [] each given above = tt
firsts_below last n (r ∷ routes) each given above = (
  first r.stops each.0.some
      (all_front (λ t. (0 < t.ticket) × (t.ticket ≤ last)) r.stops (stop_list routes) given),
  firsts_below last n routes each.1
      (all_back (λ t. (0 < t.ticket) × (t.ticket ≤ last)) r.stops (stop_list routes) given) above,
)
  where
    first : (stops : List Stop) → 0 < length stops
        → AllByRecursion (λ t. (0 < t.ticket) × (t.ticket ≤ last)) stops
        → first_ticket (linear stops) < n
    first [] some h = absurd (omega (arith, some))
    first (t ∷ stops) some h = omega (arith, h.0.1, above)

-- ---- a route of one stop, behind all others

RoutesRise-more : (new : Route) (routes : List Route)
    → AllByRecursion (λ r. first_ticket r < first_ticket new) routes → RoutesRise routes
    → RoutesRise (routes ++ new ∷ [])
RoutesRise-more new [] below h = (tt, tt)
RoutesRise-more new (r ∷ routes) below h = (
  all_append (λ q. first_ticket r < first_ticket q) routes (new ∷ []) h.0 (below.0, tt),
  RoutesRise-more new routes below.1 h.1,
)

pub AreWritten-more : (last : ℕ) (routes : List Route) (new : Stop)
    → AllByRecursion (λ t. (0 < t.ticket) × (t.ticket ≤ last)) (stop_list routes)
    → last < new.ticket → AreWritten routes
    → AreWritten (routes ++ linear (new ∷ []) ∷ [])
AreWritten-more last routes new given above written = record {
  once = λ t. at t (new.ticket == t) refl;
  each = all_append IsWritten routes (linear (new ∷ []) ∷ []) written.each
      (IsWritten-linear (new ∷ []) (omega arith), tt);
  rise = RoutesRise-more (linear (new ∷ [])) routes
      (firsts_below last new.ticket routes written.each given above) written.rise;
}
  where
    parts : (t : ℕ) → count_of (has_ticket t) (stop_list (routes ++ linear (new ∷ []) ∷ []))
        ≡ count_of (has_ticket t) (stop_list routes) + count_of (has_ticket t) (new ∷ [])
    parts t = ap (count_of (has_ticket t)) (stop_list-more routes new)
        ∙ total-append (λ x. cond (has_ticket t x) 1 0) (stop_list routes) (new ∷ [])

    at : (t : ℕ) (b : Bool) → (new.ticket == t) ≡ b
        → count_of (has_ticket t) (stop_list (routes ++ linear (new ∷ []) ∷ [])) ≤ 1
    at t true e =
        omega (
          arith,
          parts t,
          none_above (λ (x : Stop). x.ticket) last t (stop_list routes) given
              (omega (arith, above, eqb-true new.ticket t e)),
          ap {B = ℕ} (λ b. cond b 1 0) e,
        )
    at t false e = omega (arith, parts t, written.once t, ap {B = ℕ} (λ b. cond b 1 0) e)

-- ---- a stop directly behind another

abbrev longer : ℕ → Stop → Route → Route
longer s new r = cond (has_stop s r)
    (record r { stops = up_to (has_ticket s) r.stops ++ new ∷ behind (has_ticket s) r.stops }) r

pub put_behind-none : (s : ℕ) (new : Stop) (routes : List Route)
    → count_of (has_ticket s) (stop_list routes) ≡ 0 → put_behind s new routes ≡ routes
put_behind-none s new [] none = refl
put_behind-none s new (r ∷ routes) none =
    at (has_stop s r) refl (put_behind-none s new routes (omega (arith, parts, none)))
  where
    parts : count_of (has_ticket s) (stop_list (r ∷ routes))
        ≡ count_of (has_ticket s) r.stops + count_of (has_ticket s) (stop_list routes)
    parts = total-append (λ t. cond (has_ticket s t) 1 0) r.stops (stop_list routes)

    at : (b : Bool) → has_stop s r ≡ b → put_behind s new routes ≡ routes
        → cond b (record r {
          stops = up_to (has_ticket s) r.stops ++ new ∷ behind (has_ticket s) r.stops;
        }) r ∷ put_behind s
        new routes ≡ r ∷ routes
    at true e h = absurd (omega (arith, parts, none, count-any (has_ticket s) r.stops e))
    at false e h = ap (λ rs. r ∷ rs) h

pub total-put_behind : (weight : Stop → ℕ) (s : ℕ) (new : Stop) (routes : List Route)
    → count_of (has_ticket s) (stop_list routes) ≤ 1
    → total weight (stop_list (put_behind s new routes))
    ≤ weight new + total weight (stop_list routes)
total-put_behind weight s new [] once = omega arith
total-put_behind weight s new (r ∷ routes) once =
    at (has_stop s r) refl (total-put_behind weight s new routes)
  where
    parts : count_of (has_ticket s) (stop_list (r ∷ routes))
        ≡ count_of (has_ticket s) r.stops + count_of (has_ticket s) (stop_list routes)
    parts = total-append (λ t. cond (has_ticket s t) 1 0) r.stops (stop_list routes)

    front : List Stop
    front = up_to (has_ticket s) r.stops

    back : List Stop
    back = behind (has_ticket s) r.stops

    at : (b : Bool) → has_stop s r ≡ b
        → (count_of (has_ticket s) (stop_list routes) ≤ 1
        → total weight (stop_list (put_behind s new routes))
        ≤ weight new + total weight (stop_list routes))
        → total weight (stop_list
        (cond b (record r { stops = front ++ new ∷ back }) r ∷ put_behind s new routes))
        ≤ weight new + total weight (stop_list (r ∷ routes))
    at true e h =
        let none : count_of (has_ticket s) (stop_list routes) ≡ 0 =
        omega (arith, parts, once, count-any (has_ticket s) r.stops e) in
        rw (put_behind-none s new routes none) (omega (
          arith,
          total-append weight (front ++ new ∷ back) (stop_list routes),
          total-append weight r.stops (stop_list routes),
          total-append weight front (new ∷ back),
          total-append weight front back,
          ap (total weight) (up_to_behind (has_ticket s) r.stops),
        ))
    at false e h =
        omega (
          arith,
          h (omega (arith, parts, once)),
          total-append weight r.stops (stop_list (put_behind s new routes)),
          total-append weight r.stops (stop_list routes),
        )

pub all_put_behind : (P : Stop → Type 0) (s : ℕ) (new : Stop) (routes : List Route) → P new
    → AllByRecursion P (stop_list routes) → AllByRecursion P (stop_list (put_behind s new routes))
all_put_behind P s new [] p h = tt
all_put_behind P s new (r ∷ routes) p h =
    all_append P (longer s new r).stops (stop_list (put_behind s new routes)) (at (has_stop s r))
    (all_put_behind P s new routes p (all_back P r.stops (stop_list routes) h))
  where
    front : List Stop
    front = up_to (has_ticket s) r.stops

    back : List Stop
    back = behind (has_ticket s) r.stops

    whole : AllByRecursion P r.stops
    whole = all_front P r.stops (stop_list routes) h

    halves : AllByRecursion P (front ++ back)
    halves = subst (AllByRecursion P) (sym (up_to_behind (has_ticket s) r.stops)) whole

    at : (b : Bool) → AllByRecursion P (cond b (record r { stops = front ++ new ∷ back }) r).stops
    at true = all_append P front (new ∷ back) (all_front P front back halves)
        (p, all_back P front back halves)
    at false = whole

first-longer : (s : ℕ) (new : Stop) (r : Route) → first_ticket (longer s new r) ≡ first_ticket r
first-longer s new r = at (has_stop s r) refl
  where
    same : (stops : List Stop) → 1 ≤ count_of (has_ticket s) stops
        → first_ticket (linear (up_to (has_ticket s) stops ++ new ∷ behind (has_ticket s) stops))
        ≡ first_ticket (linear stops)
    same [] some = absurd (omega (arith, some))
    same (t ∷ stops) some = by (has_ticket s t)
      where
        by : (b : Bool) → first_ticket
            (linear (cond b (t ∷ []) (t ∷ up_to (has_ticket s) stops) ++ new ∷ cond b stops
            (behind (has_ticket s) stops))) ≡ t.ticket
        by true = refl
        by false = refl

    at : (b : Bool) → has_stop s r ≡ b
        → first_ticket (cond b
        (record r { stops = up_to (has_ticket s) r.stops ++ new ∷ behind (has_ticket s) r.stops })
        r) ≡ first_ticket r
    at true e = same r.stops (count-any (has_ticket s) r.stops e)
    at false e = refl

RoutesRise-put_behind : (s : ℕ) (new : Stop) (routes : List Route) → RoutesRise routes
    → RoutesRise (put_behind s new routes)
RoutesRise-put_behind s new [] h = tt
RoutesRise-put_behind s new (r ∷ routes) h =
    (below routes h.0, RoutesRise-put_behind s new routes h.1)
  where
    below : (rs : List Route) → AllByRecursion (λ q. first_ticket r < first_ticket q) rs
        → AllByRecursion (λ q. first_ticket (longer s new r) < first_ticket q) (put_behind s new rs)
    below [] k = tt
    below (q ∷ rs) k = (
      omega (arith, k.0, first-longer s new r, first-longer s new q),
      below rs k.1,
    )

IsWritten-longer : (s : ℕ) (new : Stop) (r : Route) → IsWritten r → first_ticket r ≤ new.ticket
    → IsWritten (longer s new r)
IsWritten-longer s new r is above = at (has_stop s r) (first-longer s new r)
  where
    front : List Stop
    front = up_to (has_ticket s) r.stops

    back : List Stop
    back = behind (has_ticket s) r.stops

    some_more : (xs : List Stop) → 0 < length (xs ++ new ∷ back)
    some_more [] = omega arith
    some_more (x ∷ xs) = omega arith

    smallest : r.is_ring ≡ true
        → AllByRecursion (λ t. first_ticket r ≤ t.ticket) (front ++ new ∷ back)
    smallest e =
        let halves = subst (AllByRecursion (λ t. first_ticket r ≤ t.ticket))
        (sym (up_to_behind (has_ticket s) r.stops)) (is.from_smallest e) in
        all_append (λ t. first_ticket r ≤ t.ticket) front (new ∷ back)
        (all_front (λ t. first_ticket r ≤ t.ticket) front back halves)
        (above, all_back (λ t. first_ticket r ≤ t.ticket) front back halves)

    at : (b : Bool) → first_ticket (cond b (record r { stops = front ++ new ∷ back }) r)
        ≡ first_ticket r → IsWritten (cond b (record r { stops = front ++ new ∷ back }) r)
    at true first = record {
      some = some_more front;
      from_smallest = λ e. subst (λ k. AllByRecursion (λ t. k ≤ t.ticket) (front ++ new ∷ back))
          (sym first) (smallest e);
    }
    at false first = is

pub AreWritten-put_behind : (last s : ℕ) (new : Stop) (routes : List Route)
    → AllByRecursion (λ t. (0 < t.ticket) × (t.ticket ≤ last)) (stop_list routes)
    → last < new.ticket → AreWritten routes
    → AreWritten (put_behind s new routes)
AreWritten-put_behind last s new routes given above written = record {
  once = λ t. at t (new.ticket == t) refl;
  each = each routes written.each (firsts_below last new.ticket routes written.each given above);
  rise = RoutesRise-put_behind s new routes written.rise;
}
  where
    more : (t : ℕ) → count_of (has_ticket t) (stop_list (put_behind s new routes))
        ≤ cond (new.ticket == t) 1 0 + count_of (has_ticket t) (stop_list routes)
    more t = total-put_behind (λ x. cond (has_ticket t x) 1 0) s new routes (written.once s)

    at : (t : ℕ) (b : Bool) → (new.ticket == t) ≡ b
        → count_of (has_ticket t) (stop_list (put_behind s new routes)) ≤ 1
    at t true e =
        omega (
          arith,
          more t,
          none_above (λ (x : Stop). x.ticket) last t (stop_list routes) given
              (omega (arith, above, eqb-true new.ticket t e)),
          ap {B = ℕ} (λ b. cond b 1 0) e,
        )
    at t false e = omega (arith, more t, written.once t, ap {B = ℕ} (λ b. cond b 1 0) e)

    each : (rs : List Route) → AllByRecursion IsWritten rs
        → AllByRecursion (λ r. first_ticket r < new.ticket) rs
        → AllByRecursion IsWritten (put_behind s new rs)
    each [] h k = tt
    each (r ∷ rs) h k = (IsWritten-longer s new r h.0 (omega (arith, k.0)), each rs h.1 k.1)

-- Routes as they are joined and cut apart: they stay written as they should be, with the same
-- stops.
use Rattle.std.proofs.Common.{◌≡◌, ◌≢◌, ◌∙◌, sym, ap, subst, refl, Bool, true, false, ◌||◌, ◌==◌}
use Rattle.std.proofs.Common.{◌⊎◌, inl, inr, ℕ, ◌+◌, ◌<◌, ◌≤◌, List, [], ◌∷◌, ◌++◌, length, Option}
use Rattle.std.proofs.Common.{Some, None, cond, not, nat_lt, min, reverse, arith}
use Rattle.std.specs.List.{AllByRecursion, list_any}
use Rattle.std.specs.Option.{option_map_or}
use Rattle.std.proofs.lemmas.Bool.{false≢true, eq-eqb, eqb-true, eqb-false, ltb-true, ltb-false}
use Rattle.std.proofs.lemmas.Bool.{cases_lt}
use Rattle.route_lines.specs.Cuts.{before, onward, up_to, behind}
use Rattle.route_lines.specs.Routes.{has_ticket, round, smallest, from_smallest, linear, ring}
use Rattle.route_lines.specs.Routes.{has_stop, route_of, stops_with, without, first_ticket}
use Rattle.route_lines.specs.Routes.{insert_route, put_route, next_stop, linked, unlinked}
use Rattle.route_lines.specs.Routes.{exchanged, walk_in, walk_from}
use Rattle.route_lines.specs.Sound.{RoutesRise, total, count_of, IsWritten, AreWritten}
use Rattle.route_lines.specs.State.{Stop, Route, stop_list}
use Rattle.route_lines.specs.CutLaws.{all_before, all_onward, all_reverse, before_onward}
use Rattle.route_lines.specs.CutLaws.{up_to_behind, all_weaker, all_append, all_front, all_back}
use Rattle.route_lines.specs.CutLaws.{all_filter, total-append, count-any, none-count}

-- ---- a route more

total-insert : (weight : Stop → ℕ) (new : Route) (routes : List Route)
    → total weight (stop_list (insert_route new routes))
    ≡ total weight new.stops + total weight (stop_list routes)
total-insert weight new [] = total-append weight new.stops []
total-insert weight new (r ∷ routes) =
    at (nat_lt (first_ticket new) (first_ticket r)) (total-insert weight new routes)
  where
    at : (b : Bool) → total weight (stop_list (insert_route new routes))
        ≡ total weight new.stops + total weight (stop_list routes)
        → total weight (stop_list (cond b (new ∷ r ∷ routes) (r ∷ insert_route new routes)))
        ≡ total weight new.stops + total weight (stop_list (r ∷ routes))
    at true e = total-append weight new.stops (stop_list (r ∷ routes))
    at false e = omega (
      arith,
      e,
      total-append weight r.stops (stop_list (insert_route new routes)),
      total-append weight r.stops (stop_list routes),
    )

pub all_insert_route : (P : Route → Type 0) (new : Route) (routes : List Route) → P new
    → AllByRecursion P routes → AllByRecursion P (insert_route new routes)
all_insert_route P new [] p h = (p, tt)
all_insert_route P new (r ∷ routes) p h =
    at (nat_lt (first_ticket new) (first_ticket r)) (all_insert_route P new routes p h.1)
  where
    at : (b : Bool) → AllByRecursion P (insert_route new routes)
        → AllByRecursion P (cond b (new ∷ r ∷ routes) (r ∷ insert_route new routes))
    at true behind = (p, h)
    at false behind = (h.0, behind)

all_stops_insert : (P : Stop → Type 0) (new : Route) (routes : List Route)
    → AllByRecursion P new.stops → AllByRecursion P (stop_list routes)
    → AllByRecursion P (stop_list (insert_route new routes))
all_stops_insert P new [] p h = all_append P new.stops [] p tt
all_stops_insert P new (r ∷ routes) p h =
    at (nat_lt (first_ticket new) (first_ticket r))
    (all_stops_insert P new routes p (all_back P r.stops (stop_list routes) h))
  where
    at : (b : Bool) → AllByRecursion P (stop_list (insert_route new routes))
        → AllByRecursion P (stop_list (cond b (new ∷ r ∷ routes) (r ∷ insert_route new routes)))
    at true behind = all_append P new.stops (stop_list (r ∷ routes)) p h
    at false behind = all_append P r.stops (stop_list (insert_route new routes))
        (all_front P r.stops (stop_list routes) h) behind

RoutesRise-insert : (new : Route) (routes : List Route)
    → AllByRecursion (λ r. first_ticket r ≢ first_ticket new) routes → RoutesRise routes
    → RoutesRise (insert_route new routes)
RoutesRise-insert new [] apart h = (tt, tt)
RoutesRise-insert new (r ∷ routes) apart h =
    at (nat_lt (first_ticket new) (first_ticket r)) refl (RoutesRise-insert new routes apart.1 h.1)
  where
    at : (b : Bool) → nat_lt (first_ticket new) (first_ticket r) ≡ b
        → RoutesRise (insert_route new routes)
        → RoutesRise (cond b (new ∷ r ∷ routes) (r ∷ insert_route new routes))
    at true e behind =
        let below = ltb-true (first_ticket new) (first_ticket r) e in (
          (
            below,
            all_weaker (λ q. first_ticket r < first_ticket q)
                (λ q. first_ticket new < first_ticket q) routes
                (λ q less. omega (arith, below, less))
                h.0,
          ),
          h,
        )
    at false e behind =
        let above = ltb-false (first_ticket new) (first_ticket r) e in (
          all_insert_route (λ q. first_ticket r < first_ticket q) new routes
              (omega (arith, above, apart.0)) h.0,
          behind,
        )

pub total-put : (weight : Stop → ℕ) (new : Route) (routes : List Route)
    → total weight (stop_list (put_route new routes))
    ≡ total weight new.stops + total weight (stop_list routes)
total-put weight new routes = at (length new.stops == 0) refl
  where
    none : (xs : List Stop) → length xs ≡ 0 → total weight xs ≡ 0
    none [] e = refl
    none (x ∷ xs) e = absurd (omega (arith, e))

    at : (b : Bool) → (length new.stops == 0) ≡ b
        → total weight (stop_list (cond b routes (insert_route new routes)))
        ≡ total weight new.stops + total weight (stop_list routes)
    at true e = omega (arith, none new.stops (eqb-true (length new.stops) 0 e))
    at false e = total-insert weight new routes

pub all_stops_put : (P : Stop → Type 0) (new : Route) (routes : List Route)
    → AllByRecursion P new.stops → AllByRecursion P (stop_list routes)
    → AllByRecursion P (stop_list (put_route new routes))
all_stops_put P new routes p h = at (length new.stops == 0)
  where
    at : (b : Bool) → AllByRecursion P (stop_list (cond b routes (insert_route new routes)))
    at true = h
    at false = all_stops_insert P new routes p h

-- a route's first ticket is one of its stops'
pub first_counts : (stops : List Stop) → 0 < length stops
    → 1 ≤ count_of (has_ticket (first_ticket (linear stops))) stops
first_counts [] some = absurd (omega (arith, some))
first_counts (t ∷ stops) some =
    omega (arith, ap {B = ℕ} (λ b. cond b 1 0) (eq-eqb t.ticket t.ticket refl))

firsts_apart : (ticket : ℕ) (routes : List Route) → AllByRecursion IsWritten routes
    → count_of (has_ticket ticket) (stop_list routes) ≡ 0
    → AllByRecursion (λ r. first_ticket r ≢ ticket) routes
firsts_apart ticket [] each none = tt
firsts_apart ticket (r ∷ routes) each none =
    let parts = total-append (λ t. cond (has_ticket ticket t) 1 0) r.stops (stop_list routes) in (
      λ same.
          let some = subst (λ k. 1 ≤ count_of (has_ticket k) r.stops) same
          (first_counts r.stops each.0.some) in
          omega (arith, parts, none, some),
      firsts_apart ticket routes each.1 (omega (arith, parts, none)),
    )

pub AreWritten-put : (new : Route) (routes : List Route) → (0 < length new.stops → IsWritten new)
    → AreWritten routes
    → ((t : ℕ) → count_of (has_ticket t) new.stops + count_of (has_ticket t) (stop_list routes) ≤ 1)
    → AreWritten (put_route new routes)
AreWritten-put new routes is written apart = at (length new.stops == 0) refl
  where
    at : (b : Bool) → (length new.stops == 0) ≡ b
        → AreWritten (cond b routes (insert_route new routes))
    at true e = written
    at false e =
        let none : length new.stops ≢ 0 = eqb-false (length new.stops) 0 e in
        let one : IsWritten new = is (omega (arith, none)) in
        record {
          once = λ t. omega (
            arith,
            apart t,
            total-insert (λ u. cond (has_ticket t u) 1 0) new routes,
          );
          each = all_insert_route IsWritten new routes one written.each;
          rise = RoutesRise-insert new routes
              (firsts_apart (first_ticket new) routes written.each
              (omega (arith, apart (first_ticket new), first_counts new.stops one.some)))
              written.rise;
        }

-- ---- a route less

pub without-none : (s : ℕ) (routes : List Route) → count_of (has_ticket s) (stop_list routes) ≡ 0
    → without s routes ≡ routes
without-none s [] none = refl
without-none s (r ∷ routes) none =
    let parts = total-append (λ t. cond (has_ticket s t) 1 0) r.stops (stop_list routes) in
    let other : has_stop s r ≡ false =
    none-count (has_ticket s) r.stops (omega (arith, parts, none)) in
    rw other (ap (λ rs. r ∷ rs) (without-none s routes (omega (arith, parts, none))))

-- the stops of one route and of the others are all stops
pub total-without : (weight : Stop → ℕ) (s : ℕ) (routes : List Route)
    → count_of (has_ticket s) (stop_list routes) ≤ 1
    → total weight (stop_list (without s routes)) + total weight (stops_with s routes)
    ≡ total weight (stop_list routes)
total-without weight s [] once = refl
total-without weight s (r ∷ routes) once = at (has_stop s r) refl (total-without weight s routes)
  where
    parts : count_of (has_ticket s) (stop_list (r ∷ routes))
        ≡ count_of (has_ticket s) r.stops + count_of (has_ticket s) (stop_list routes)
    parts = total-append (λ t. cond (has_ticket s t) 1 0) r.stops (stop_list routes)

    at : (b : Bool) → has_stop s r ≡ b
        → (count_of (has_ticket s) (stop_list routes) ≤ 1
        → total weight (stop_list (without s routes)) + total weight (stops_with s routes)
        ≡ total weight (stop_list routes))
        → total weight (stop_list (cond (not b) (r ∷ without s routes) (without s routes))) + total
        weight (option_map_or (λ q. q.stops) (cond b (Some r) (route_of routes s)) [])
        ≡ total weight
        (stop_list (r ∷ routes))
    at true e h =
        let none : count_of (has_ticket s) (stop_list routes) ≡ 0 =
        omega (arith, parts, once, count-any (has_ticket s) r.stops e) in
        rw (without-none s routes none)
        (omega (arith, total-append weight r.stops (stop_list routes)))
    at false e h =
        let behind = h (omega (arith, parts, once)) in
        omega (
          arith,
          behind,
          total-append weight r.stops (stop_list (without s routes)),
          total-append weight r.stops (stop_list routes),
        )

total-without-le : (weight : Stop → ℕ) (s : ℕ) (routes : List Route)
    → total weight (stop_list (without s routes)) ≤ total weight (stop_list routes)
total-without-le weight s [] = omega arith
total-without-le weight s (r ∷ routes) = at (has_stop s r) (total-without-le weight s routes)
  where
    at : (b : Bool) → total weight (stop_list (without s routes)) ≤ total weight (stop_list routes)
        → total weight (stop_list (cond (not b) (r ∷ without s routes) (without s routes))) ≤ total
        weight (stop_list (r ∷ routes))
    at true h = omega (arith, h, total-append weight r.stops (stop_list routes))
    at false h = omega (
      arith,
      h,
      total-append weight r.stops (stop_list (without s routes)),
      total-append weight r.stops (stop_list routes),
    )

pub all_stops_without : (P : Stop → Type 0) (s : ℕ) (routes : List Route)
    → AllByRecursion P (stop_list routes) → AllByRecursion P (stop_list (without s routes))
all_stops_without P s [] h = tt
all_stops_without P s (r ∷ routes) h =
    at (has_stop s r) (all_stops_without P s routes (all_back P r.stops (stop_list routes) h))
  where
    at : (b : Bool) → AllByRecursion P (stop_list (without s routes))
        → AllByRecursion P (stop_list (cond (not b) (r ∷ without s routes) (without s routes)))
    at true behind = behind
    at false behind = all_append P r.stops (stop_list (without s routes))
        (all_front P r.stops (stop_list routes) h) behind

pub all_stops_with : (P : Stop → Type 0) (s : ℕ) (routes : List Route)
    → AllByRecursion P (stop_list routes) → AllByRecursion P (stops_with s routes)
all_stops_with P s [] h = tt
all_stops_with P s (r ∷ routes) h =
    at (has_stop s r) (all_stops_with P s routes (all_back P r.stops (stop_list routes) h))
  where
    at : (b : Bool) → AllByRecursion P (stops_with s routes)
        → AllByRecursion P (option_map_or (λ q. q.stops) (cond b (Some r) (route_of routes s)) [])
    at true behind = all_front P r.stops (stop_list routes) h
    at false behind = behind

RoutesRise-without : (s : ℕ) (routes : List Route) → RoutesRise routes
    → RoutesRise (without s routes)
RoutesRise-without s [] h = tt
RoutesRise-without s (r ∷ routes) h = at (has_stop s r) (RoutesRise-without s routes h.1)
  where
    at : (b : Bool) → RoutesRise (without s routes)
        → RoutesRise (cond (not b) (r ∷ without s routes) (without s routes))
    at true behind = behind
    at false behind = (
      all_filter (λ q. first_ticket r < first_ticket q) (λ q. not (has_stop s q)) routes h.0,
      behind,
    )

pub AreWritten-without : (s : ℕ) (routes : List Route) → AreWritten routes
    → AreWritten (without s routes)
AreWritten-without s routes written = record {
  once = λ t. omega (
    arith,
    written.once t,
    total-without-le (λ u. cond (has_ticket t u) 1 0) s routes,
  );
  each = all_filter IsWritten (λ q. not (has_stop s q)) routes written.each;
  rise = RoutesRise-without s routes written.rise;
}

-- ---- rings

pub total-round : (weight : Stop → ℕ) (s : ℕ) (stops : List Stop)
    → total weight (round s stops) ≡ total weight stops
total-round weight s stops =
    omega (
      arith,
      total-append weight (onward (has_ticket s) stops) (before (has_ticket s) stops),
      total-append weight (before (has_ticket s) stops) (onward (has_ticket s) stops),
      ap (total weight) (before_onward (has_ticket s) stops),
    )

pub total-ring : (weight : Stop → ℕ) (stops : List Stop)
    → total weight (from_smallest stops) ≡ total weight stops
total-ring weight [] = refl
total-ring weight (t ∷ stops) = total-round weight (smallest t.ticket stops) (t ∷ stops)

pub all_round : (P : Stop → Type 0) (s : ℕ) (stops : List Stop) → AllByRecursion P stops
    → AllByRecursion P (round s stops)
all_round P s stops h =
    let parts = subst (AllByRecursion P) (sym (before_onward (has_ticket s) stops)) h in
    all_append P (onward (has_ticket s) stops) (before (has_ticket s) stops)
    (all_back P (before (has_ticket s) stops) (onward (has_ticket s) stops) parts)
    (all_front P (before (has_ticket s) stops) (onward (has_ticket s) stops) parts)

pub all_ring : (P : Stop → Type 0) (stops : List Stop) → AllByRecursion P stops
    → AllByRecursion P (from_smallest stops)
all_ring P [] h = tt
all_ring P (t ∷ stops) h = all_round P (smallest t.ticket stops) (t ∷ stops) h

smallest_le : (s : ℕ) (stops : List Stop)
    → (smallest s stops ≤ s) × AllByRecursion (λ t. smallest s stops ≤ t.ticket) stops
smallest_le s [] = (omega arith, tt)
smallest_le s (t ∷ stops) =
    let h = smallest_le s stops in (
      omega (arith, h.0),
      (
        omega arith,
        all_weaker (λ u. smallest s stops ≤ u.ticket)
            (λ u. min t.ticket (smallest s stops) ≤ u.ticket) stops (λ u less. omega (arith, less))
            h.1,
      ),
    )

smallest_among : (s : ℕ) (stops : List Stop)
    → (smallest s stops ≡ s) ⊎ (list_any (has_ticket (smallest s stops)) stops ≡ true)
smallest_among s [] = inl refl
smallest_among s (t ∷ stops) = at (cases_lt (smallest s stops) t.ticket) (smallest_among s stops)
  where
    Among : ℕ → Type 0
    Among m = (m ≡ s) ⊎ (list_any (has_ticket m) (t ∷ stops) ≡ true)

    right : (a b : Bool) → b ≡ true → (a || b) ≡ true
    right true b e = refl
    right false b e = e

    left : (a b : Bool) → a ≡ true → (a || b) ≡ true
    left true b e = refl
    left false b e = cc

    behind : (smallest s stops ≡ s) ⊎ (list_any (has_ticket (smallest s stops)) stops ≡ true)
        → Among (smallest s stops)
    behind (inl e) = inl e
    behind (inr e) = inr (right _ _ e)

    at : (smallest s stops < t.ticket) ⊎ (t.ticket ≤ smallest s stops)
        → (smallest s stops ≡ s) ⊎ (list_any (has_ticket (smallest s stops)) stops ≡ true)
        → Among (min t.ticket (smallest s stops))
    at (inl less) h =
        let e : smallest s stops ≡ min t.ticket (smallest s stops) = omega (arith, less) in
        subst Among e (behind h)
    at (inr most) h =
        let e : t.ticket ≡ min t.ticket (smallest s stops) = omega (arith, most) in
        subst Among e (inr (left _ _ (eq-eqb t.ticket t.ticket refl)))

-- a walk round a ring begins with the stop that it is from
pub first-round : (s : ℕ) (stops : List Stop) → list_any (has_ticket s) stops ≡ true
    → first_ticket (linear (round s stops)) ≡ s
first-round s stops some = at (onward (has_ticket s) stops) (first-onward stops some)
  where
    first-onward : (xs : List Stop) → list_any (has_ticket s) xs ≡ true
        → (t : Stop) × (ts : List Stop) × (onward (has_ticket s) xs ≡ t ∷ ts) × (t.ticket ≡ s)
    first-onward [] e = absurd (false≢true e)
    first-onward (x ∷ xs) e = by (has_ticket s x) refl e (first-onward xs)
      where
        by : (b : Bool) → has_ticket s x ≡ b → (b || list_any (has_ticket s) xs) ≡ true
            → (list_any (has_ticket s) xs ≡ true
            → (t : Stop) × (ts : List Stop) × (onward (has_ticket s) xs ≡ t ∷ ts)
            × (t.ticket ≡ s))
            → (t : Stop) × (ts : List Stop) × (cond b (x ∷ xs) (onward (has_ticket s) xs) ≡ t ∷ ts)
            × (t.ticket ≡ s)
        by true is e h = (x, xs, refl, eqb-true x.ticket s is)
        by false is e h = h e

    at : (ys : List Stop) → (t : Stop) × (ts : List Stop) × (ys ≡ t ∷ ts) × (t.ticket ≡ s)
        → first_ticket (linear (ys ++ before (has_ticket s) stops)) ≡ s
    at ys f = ap (λ zs. first_ticket (linear (zs ++ before (has_ticket s) stops))) f.2 ∙ f.3

pub IsWritten-ring : (stops : List Stop) → 0 < length (ring stops).stops → IsWritten (ring stops)
IsWritten-ring [] some = absurd (omega (arith, some))
IsWritten-ring (t ∷ stops) some =
    let m : ℕ = smallest t.ticket stops in
    let small = smallest_le t.ticket stops in
    let first : first_ticket (ring (t ∷ stops)) ≡ m =
    first-round m (t ∷ stops) (among (smallest_among t.ticket stops)) in
    record {
      some = some;
      from_smallest = λ is. subst (λ k. AllByRecursion (λ u. k ≤ u.ticket) (round m (t ∷ stops)))
          (sym first) (all_round (λ u. m ≤ u.ticket) m (t ∷ stops) (small.0, small.1));
    }
  where
    or_left : (a b : Bool) → a ≡ true → (a || b) ≡ true
    or_left true b e = refl
    or_left false b e = cc

    or_right : (a b : Bool) → b ≡ true → (a || b) ≡ true
    or_right true b e = refl
    or_right false b e = e

    among : (smallest t.ticket stops ≡ t.ticket)
        ⊎ (list_any (has_ticket (smallest t.ticket stops)) stops ≡ true)
        → list_any (has_ticket (smallest t.ticket stops)) (t ∷ stops) ≡ true
    among (inl e) = or_left _ _ (eq-eqb t.ticket (smallest t.ticket stops) (sym e))
    among (inr e) = or_right _ _ e

pub IsWritten-linear : (stops : List Stop) → 0 < length stops → IsWritten (linear stops)
IsWritten-linear stops some = record { some = some; from_smallest = λ e. absurd (false≢true e) }

-- ---- joins

pub AreWritten-linked : (s u : ℕ) (routes : List Route) → AreWritten routes
    → AreWritten (linked s u routes)
AreWritten-linked s u routes written = at (list_any (has_ticket u) (stops_with s routes))
  where
    front : List Stop
    front = stops_with s routes

    others : List Route
    others = without s routes

    back : List Stop
    back = stops_with u others

    whole : AreWritten others
    whole = AreWritten-without s routes written

    at : (b : Bool) → AreWritten
        (cond b (put_route (ring front) others)
        (put_route (linear (front ++ back)) (without u others)))
    at true = AreWritten-put (ring front) others (IsWritten-ring front) whole (λ t.
        omega (
          arith,
          total-ring (λ x. cond (has_ticket t x) 1 0) front,
          total-without (λ x. cond (has_ticket t x) 1 0) s routes (written.once s),
          written.once t,
        ))
    at false = AreWritten-put (linear (front ++ back)) (without u others)
        (IsWritten-linear (front ++ back)) (AreWritten-without u others whole) (λ t.
        omega (
          arith,
          total-append (λ x. cond (has_ticket t x) 1 0) front back,
          total-without (λ x. cond (has_ticket t x) 1 0) s routes (written.once s),
          total-without (λ x. cond (has_ticket t x) 1 0) u others (whole.once u),
          written.once t,
        ))

pub total-linked : (weight : Stop → ℕ) (s u : ℕ) (routes : List Route) → AreWritten routes
    → total weight (stop_list (linked s u routes)) ≡ total weight (stop_list routes)
total-linked weight s u routes written = at (list_any (has_ticket u) (stops_with s routes))
  where
    front : List Stop
    front = stops_with s routes

    others : List Route
    others = without s routes

    whole : AreWritten others
    whole = AreWritten-without s routes written

    at : (b : Bool) → total weight
        (stop_list (cond b (put_route (ring front) others)
        (put_route (linear (front ++ stops_with u others)) (without u others))))
        ≡ total weight (stop_list routes)
    at true = omega (
      arith,
      total-put weight (ring front) others,
      total-ring weight front,
      total-without weight s routes (written.once s),
    )
    at false =
        omega (
          arith,
          total-put weight (linear (front ++ stops_with u others)) (without u others),
          total-append weight front (stops_with u others),
          total-without weight s routes (written.once s),
          total-without weight u others (whole.once u),
        )

pub all_linked : (P : Stop → Type 0) (s u : ℕ) (routes : List Route)
    → AllByRecursion P (stop_list routes) → AllByRecursion P (stop_list (linked s u routes))
all_linked P s u routes h = at (list_any (has_ticket u) (stops_with s routes))
  where
    front : List Stop
    front = stops_with s routes

    others : List Route
    others = without s routes

    rest : AllByRecursion P (stop_list others)
    rest = all_stops_without P s routes h

    at : (b : Bool) → AllByRecursion P
        (stop_list (cond b (put_route (ring front) others)
        (put_route (linear (front ++ stops_with u others)) (without u others))))
    at true = all_stops_put P (ring front) others (all_ring P front (all_stops_with P s routes h))
        rest
    at false = all_stops_put P (linear (front ++ stops_with u others)) (without u others)
        (all_append P front (stops_with u others) (all_stops_with P s routes h)
        (all_stops_with P u others rest))
        (all_stops_without P u others rest)

-- ---- cuts

-- a route that is found has its stops
pub with_found : (s : ℕ) (routes : List Route) (r : Route) → route_of routes s ≡ Some r
    → r.stops ≡ stops_with s routes
with_found s routes r e = sym (ap (λ o. option_map_or (λ q. q.stops) o []) e)

pub AreWritten-unlinked : (s : ℕ) (routes : List Route) → AreWritten routes
    → AreWritten (unlinked s routes)
AreWritten-unlinked s routes written = by (route_of routes s) refl
  where
    others : List Route
    others = without s routes

    whole : AreWritten others
    whole = AreWritten-without s routes written

    by : (o : Option Route) → route_of routes s ≡ o → AreWritten (unlinked s routes)
    by None e = rw e written
    by (Some r) e = rw e (at r.is_ring)
      where
        front : List Stop
        front = up_to (has_ticket s) r.stops

        back : List Stop
        back = behind (has_ticket s) r.stops

        halves : (t : ℕ) → count_of (has_ticket t) front + count_of (has_ticket t) back + count_of
            (has_ticket t) (stop_list others) ≤ 1
        halves t =
            omega (
              arith,
              total-append (λ x. cond (has_ticket t x) 1 0) front back,
              ap (count_of (has_ticket t)) (up_to_behind (has_ticket s) r.stops),
              ap (count_of (has_ticket t)) (with_found s routes r e),
              total-without (λ x. cond (has_ticket t x) 1 0) s routes (written.once s),
              written.once t,
            )

        at : (b : Bool) → AreWritten
            (cond b (put_route (linear (back ++ front)) others)
            (put_route (linear front) (put_route (linear back) others)))
        at true = AreWritten-put (linear (back ++ front)) others (IsWritten-linear (back ++ front))
            whole (λ t.
            omega (arith, halves t, total-append (λ x. cond (has_ticket t x) 1 0) back front))
        at false = AreWritten-put (linear front) (put_route (linear back) others)
            (IsWritten-linear front)
            (AreWritten-put (linear back) others (IsWritten-linear back) whole (λ t.
            omega (arith, halves t)))
            (λ t. omega (
              arith,
              halves t,
              total-put (λ x. cond (has_ticket t x) 1 0) (linear back) others,
            ))

pub total-unlinked : (weight : Stop → ℕ) (s : ℕ) (routes : List Route) → AreWritten routes
    → total weight (stop_list (unlinked s routes)) ≡ total weight (stop_list routes)
total-unlinked weight s routes written = by (route_of routes s) refl
  where
    others : List Route
    others = without s routes

    by : (o : Option Route) → route_of routes s ≡ o
        → total weight (stop_list (unlinked s routes)) ≡ total weight (stop_list routes)
    by None e = rw e refl
    by (Some r) e = rw e (at r.is_ring)
      where
        front : List Stop
        front = up_to (has_ticket s) r.stops

        back : List Stop
        back = behind (has_ticket s) r.stops

        halves : total weight front + total weight back + total weight (stop_list others)
            ≡ total weight (stop_list routes)
        halves =
            omega (
              arith,
              total-append weight front back,
              ap (total weight) (up_to_behind (has_ticket s) r.stops),
              ap (total weight) (with_found s routes r e),
              total-without weight s routes (written.once s),
            )

        at : (b : Bool) → total weight
            (stop_list (cond b (put_route (linear (back ++ front)) others)
            (put_route (linear front) (put_route (linear back) others))))
            ≡ total weight (stop_list routes)
        at true = omega (
          arith,
          halves,
          total-put weight (linear (back ++ front)) others,
          total-append weight back front,
        )
        at false = omega (
          arith,
          halves,
          total-put weight (linear front) (put_route (linear back) others),
          total-put weight (linear back) others,
        )

pub all_unlinked : (P : Stop → Type 0) (s : ℕ) (routes : List Route)
    → AllByRecursion P (stop_list routes) → AllByRecursion P (stop_list (unlinked s routes))
all_unlinked P s routes h = by (route_of routes s) refl
  where
    others : List Route
    others = without s routes

    rest : AllByRecursion P (stop_list others)
    rest = all_stops_without P s routes h

    by : (o : Option Route) → route_of routes s ≡ o
        → AllByRecursion P (stop_list (unlinked s routes))
    by None e = rw e h
    by (Some r) e = rw e (at r.is_ring)
      where
        front : List Stop
        front = up_to (has_ticket s) r.stops

        back : List Stop
        back = behind (has_ticket s) r.stops

        parts : AllByRecursion P (front ++ back)
        parts = subst (AllByRecursion P)
            (sym (with_found s routes r e) ∙ sym (up_to_behind (has_ticket s) r.stops))
            (all_stops_with P s routes h)

        first : AllByRecursion P front
        first = all_front P front back parts

        second : AllByRecursion P back
        second = all_back P front back parts

        at : (b : Bool) → AllByRecursion P
            (stop_list (cond b (put_route (linear (back ++ front)) others)
            (put_route (linear front) (put_route (linear back) others))))
        at true = all_stops_put P (linear (back ++ front)) others
            (all_append P back front second first) rest
        at false = all_stops_put P (linear front) (put_route (linear back) others) first
            (all_stops_put P (linear back) others second rest)

-- ---- exchanges

-- what joins and cuts keep, an exchange keeps
pub exchanged_keeps {ℓ} : (P : List Route → Type ℓ) (s u : ℕ) (routes : List Route)
    → ((t : ℕ) (rs : List Route) → P rs → P (unlinked t rs))
    → ((t v : ℕ) (rs : List Route) → P rs → P (linked t v rs)) → P routes → P (exchanged s u routes)
exchanged_keeps P s u routes cut join h = by (next_stop routes s) (next_stop routes u) refl refl
  where
    by : (n m : Option ℕ) → next_stop routes s ≡ n → next_stop routes u ≡ m
        → P (exchanged s u routes)
    by None m e f = rw e h
    by (Some x) None e f = rw (e, f) h
    by (Some x) (Some y) e f = rw (e, f) (at (s == u))
      where
        at : (b : Bool) → P (cond b routes
            (linked u x (linked s y (unlinked u (unlinked s routes)))))
        at true = h
        at false = join u x (linked s y (unlinked u (unlinked s routes)))
            (join s y (unlinked u (unlinked s routes)) (cut u (unlinked s routes) (cut s routes h)))

-- ---- walks

pub all_walk : (P : Stop → Type 0) (s : ℕ) (routes : List Route)
    → AllByRecursion P (stop_list routes) → AllByRecursion P (walk_from s routes)
all_walk P s routes h = by (route_of routes s) (all_stops_with P s routes h)
  where
    by : (o : Option Route) → AllByRecursion P (option_map_or (λ r. r.stops) o [])
        → AllByRecursion P (option_map_or (walk_in s) o [])
    by None each = tt
    by (Some r) each = at r.is_ring
      where
        at : (b : Bool) → AllByRecursion P
            (cond b (round s r.stops)
            (onward (has_ticket s) r.stops ++ reverse (before (has_ticket s) r.stops)))
        at true = all_round P s r.stops each
        at false =
            all_append P (onward (has_ticket s) r.stops) (reverse (before (has_ticket s) r.stops))
            (all_onward P (has_ticket s) r.stops each)
            (all_reverse P (before (has_ticket s) r.stops)
            (all_before P (has_ticket s) r.stops each))

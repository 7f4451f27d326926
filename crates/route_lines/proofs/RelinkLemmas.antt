-- What joins and cuts make of which stop leads to which.
use Rattle.std.proofs.Common.{◌≡◌, ◌∙◌, sym, ap, subst, refl, Bool, true, false, ◌==◌, ℕ, ◌+◌, ◌≤◌}
use Rattle.std.proofs.Common.{List, [], ◌∷◌, ◌++◌, Option, Some, None, IfSome, cond, arith}
use Rattle.std.specs.List.{list_any}
use Rattle.std.proofs.lemmas.Bool.{false≢true, eqb-true}
use Rattle.route_lines.specs.Cuts.{up_to, behind}
use Rattle.route_lines.specs.Leads.{head_or, Leads}
use Rattle.route_lines.specs.Routes.{has_ticket, smallest, from_smallest, linear, ring, has_stop}
use Rattle.route_lines.specs.Routes.{route_of, stops_with, without, put_route, linked, unlinked}
use Rattle.route_lines.specs.Sound.{total, count_of, AreWritten}
use Rattle.route_lines.specs.State.{Stop, Route, stop_list}
use Rattle.route_lines.specs.CutLaws.{up_to_behind, found_in, found_passes, total-append, count-any}
use Rattle.route_lines.specs.CutLaws.{count-none}
use Rattle.route_lines.proofs.LinkLemmas.{Leads-append, Leads-front, Leads-back, Leads-ext}
use Rattle.route_lines.proofs.LinkLemmas.{Leads-round, closing_of, Links, Links-put, Links-without}
use Rattle.route_lines.proofs.LinkLemmas.{found_if_counted, relinked, apart_relinked, Links-apart}
use Rattle.route_lines.proofs.LinkLemmas.{Leads-end, Leads-up_to}
use Rattle.route_lines.proofs.RouteLemmas.{total-without, with_found}

-- ---- what leads to a stop

-- whether a stop leads to one with this ticket
abbrev pub is_ticket : Option ℕ → ℕ → Bool
is_ticket None s = false
is_ticket (Some t) s = t == s

abbrev pub leads_to : (ℕ → Option ℕ) → ℕ → Stop → Bool
leads_to next s t = is_ticket (next t.ticket) s

one_if : Bool → ℕ
one_if b = cond b 1 0

-- along a list each stop but the first has one that leads to it, and what the list closes at has
-- another
leads_counted : (next : ℕ → Option ℕ) (closing : Option ℕ) (s : ℕ) (x : Stop) (xs : List Stop)
    → Leads next closing (x ∷ xs)
    → count_of (leads_to next s) (x ∷ xs)
    ≡ count_of (has_ticket s) xs + cond (is_ticket closing s) 1 0
leads_counted next closing s x [] h = omega (arith, ap {B = ℕ} (λ o. cond (is_ticket o s) 1 0) h.0)
leads_counted next closing s x (y ∷ ys) h =
    omega (
      arith,
      ap {B = ℕ} (λ o. cond (is_ticket o s) 1 0) h.0,
      leads_counted next closing s y ys h.1,
    )

-- of a linear route whose first stop has the ticket
abbrev pub starts_at : ℕ → Route → Bool
starts_at s r = cond r.is_ring false (is_ticket (head_or None r.stops) s)

leads_in_route : (next : ℕ → Option ℕ) (s : ℕ) (r : Route) → Leads next (closing_of r) r.stops
    → count_of (leads_to next s) r.stops + cond (starts_at s r) 1 0
    ≡ count_of (has_ticket s) r.stops
leads_in_route next s r h = at r.is_ring r.stops h
  where
    at : (b : Bool) (xs : List Stop) → Leads next (cond b (head_or None xs) None) xs
        → count_of (leads_to next s) xs + cond (cond b false (is_ticket (head_or None xs) s)) 1 0
        ≡ count_of
        (has_ticket s) xs
    at true [] k = refl
    at false [] k = refl
    at true (x ∷ xs) k = omega (arith, leads_counted next (Some x.ticket) s x xs k)
    at false (x ∷ xs) k = omega (arith, leads_counted next None s x xs k)

pub leads_at_most : (next : ℕ → Option ℕ) (s : ℕ) (routes : List Route) → Links next routes
    → count_of (leads_to next s) (stop_list routes) ≤ count_of (has_ticket s) (stop_list routes)
leads_at_most next s [] links = omega arith
leads_at_most next s (r ∷ routes) links =
    omega (
      arith,
      leads_in_route next s r links.0,
      leads_at_most next s routes links.1,
      total-append (λ t. cond (leads_to next s t) 1 0) r.stops (stop_list routes),
      total-append (λ t. cond (has_ticket s t) 1 0) r.stops (stop_list routes),
    )

-- none leads to the start of a linear route
pub none_leads_to_start : (next : ℕ → Option ℕ) (s : ℕ) (routes : List Route) (r : Route)
    → Links next routes → route_of routes s ≡ Some r → starts_at s r ≡ true
    → count_of (leads_to next s) (stop_list routes) + 1 ≤ count_of (has_ticket s) (stop_list routes)
none_leads_to_start next s [] r links e start = cc
none_leads_to_start next s (q ∷ routes) r links e start =
    at (has_stop s q) e (none_leads_to_start next s routes r links.1)
  where
    own : count_of (leads_to next s) q.stops + cond (starts_at s q) 1 0
        ≡ count_of (has_ticket s) q.stops
    own = leads_in_route next s q links.0

    Less : Type 0
    Less = count_of (leads_to next s) (stop_list (q ∷ routes)) + 1
        ≤ count_of (has_ticket s) (stop_list (q ∷ routes))

    at : (b : Bool) → cond b (Some q) (route_of routes s) ≡ Some r
        → (route_of routes s ≡ Some r → starts_at s r ≡ true
        → count_of (leads_to next s) (stop_list routes) + 1
        ≤ count_of (has_ticket s) (stop_list routes)) → Less
    at true f h =
        let same : q ≡ r = cc in
        let begins : starts_at s q ≡ true = ap (starts_at s) same ∙ start in
        omega (
          arith,
          own,
          ap {B = ℕ} (λ b. cond b 1 0) begins,
          leads_at_most next s routes links.1,
          total-append (λ t. cond (leads_to next s t) 1 0) q.stops (stop_list routes),
          total-append (λ t. cond (has_ticket s t) 1 0) q.stops (stop_list routes),
        )
    at false f h =
        omega (
          arith,
          own,
          h f start,
          total-append (λ t. cond (leads_to next s t) 1 0) q.stops (stop_list routes),
          total-append (λ t. cond (has_ticket s t) 1 0) q.stops (stop_list routes),
        )

-- where none leads to a stop, its route is linear and starts with it
pub starts_if_none_leads : (next : ℕ → Option ℕ) (s : ℕ) (r : Route)
    → Leads next (closing_of r) r.stops → count_of (leads_to next s) r.stops ≡ 0
    → 1 ≤ count_of (has_ticket s) r.stops
    → starts_at s r ≡ true
starts_if_none_leads next s r h none some = at (starts_at s r) refl
  where
    at : (b : Bool) → starts_at s r ≡ b → starts_at s r ≡ true
    at true e = e
    at false e = absurd (omega
        (arith, leads_in_route next s r h, none, some, ap {B = ℕ} (λ c. cond c 1 0) e))

pub starts_parts : (s : ℕ) (r : Route) → starts_at s r ≡ true
    → (r.is_ring ≡ false) × (head_or None r.stops ≡ Some s)
starts_parts s r e = at r.is_ring refl e
  where
    at : (b : Bool) → r.is_ring ≡ b → cond b false (is_ticket (head_or None r.stops) s) ≡ true
        → (r.is_ring ≡ false) × (head_or None r.stops ≡ Some s)
    at true is f = absurd (false≢true f)
    at false is f = (is, by (head_or None r.stops) f)
      where
        by : (o : Option ℕ) → is_ticket o s ≡ true → o ≡ Some s
        by None g = absurd (false≢true g)
        by (Some t) g = ap (λ k. Some k) (eqb-true t s g)

-- a part of the routes has no more that leads to it
less_within : (weight : Stop → ℕ) (s : ℕ) (routes : List Route) (r : Route)
    → count_of (has_ticket s) (stop_list routes) ≤ 1 → route_of routes s ≡ Some r
    → total weight r.stops ≤ total weight (stop_list routes)
less_within weight s routes r once e =
    omega (arith, total-without weight s routes once, ap (total weight) (with_found s routes r e))

-- ---- joins

-- a ring that is written anew leads as before
pub Leads-from_smallest : (next : ℕ → Option ℕ) (xs : List Stop) → Leads next (head_or None xs) xs
    → Leads next (head_or None (from_smallest xs)) (from_smallest xs)
Leads-from_smallest next [] h = tt
Leads-from_smallest next (x ∷ xs) h = Leads-round next (smallest x.ticket xs) (x ∷ xs) h

pub Links-linked : (next : ℕ → Option ℕ) (s u : ℕ) (routes : List Route) → AreWritten routes
    → Links next routes → next s ≡ None → 1 ≤ count_of (has_ticket s) (stop_list routes)
    → 1 ≤ count_of (has_ticket u) (stop_list routes)
    → count_of (leads_to next u) (stop_list routes) ≡ 0
    → Links (relinked s (Some u) next) (linked s u routes)
Links-linked next s u routes written links end some other none = by (found_if_counted s routes some)
  where
    others : List Route
    others = without s routes

    changed : ℕ → Option ℕ
    changed = relinked s (Some u) next

    by : (r : Route) × (route_of routes s ≡ Some r) → Links changed (linked s u routes)
    by f = at (list_any (has_ticket u) front) refl
      where
        front : List Stop
        front = stops_with s routes

        is_front : f.0.stops ≡ front
        is_front = with_found s routes f.0 f.1

        front_has : 1 ≤ count_of (has_ticket s) front
        front_has = subst (λ xs. 1 ≤ count_of (has_ticket s) xs) is_front
            (count-any (has_ticket s) f.0.stops (found_passes (has_stop s) routes f.0 f.1))

        others_lack : count_of (has_ticket s) (stop_list others) ≡ 0
        others_lack = omega (
          arith,
          front_has,
          written.once s,
          total-without (λ t. cond (has_ticket s t) 1 0) s routes (written.once s),
        )

        found_leads : IfSome (route_of routes s) (λ r. Leads next (closing_of r) r.stops)
        found_leads = found_in (λ r. Leads next (closing_of r) r.stops) (has_stop s) routes links

        old : Leads next (closing_of f.0) f.0.stops
        old = subst (λ o. IfSome o (λ r. Leads next (closing_of r) r.stops)) f.1 found_leads

        front_leads : Leads changed (Some u) front
        front_leads = Leads-end s (Some u) next (closing_of f.0) front
            (subst (Leads next (closing_of f.0)) is_front old) front_has end

        rest : Links changed others
        rest = Links-apart s (Some u) next others others_lack (Links-without next s routes links)

        at : (b : Bool) → list_any (has_ticket u) front ≡ b
            → Links changed (cond b (put_route (ring front) others)
            (put_route (linear (front ++ stops_with u others)) (without u others)))
        at true has =
            let few : count_of (leads_to next u) f.0.stops ≡ 0 =
            omega (
              arith,
              none,
              less_within (λ t. cond (leads_to next u t) 1 0) s routes f.0 (written.once s) f.1,
            ) in
            let u_in : 1 ≤ count_of (has_ticket u) f.0.stops =
            subst (λ xs. 1 ≤ count_of (has_ticket u) xs) (sym is_front)
            (count-any (has_ticket u) front has) in
            let start = starts_parts u f.0 (starts_if_none_leads next u f.0 old few u_in) in
            let head : head_or None front ≡ Some u = ap (head_or None) (sym is_front) ∙ start.1 in
            Links-put changed (ring front) others
            (Leads-from_smallest changed front
            (subst (λ c. Leads changed c front) (sym head) front_leads)) rest
        at false lacks = joined (found_if_counted u others behind)
          where
            once : count_of (has_ticket u) (stop_list others) ≤ 1
            once = omega (
              arith,
              written.once u,
              total-without (λ t. cond (has_ticket u t) 1 0) s routes (written.once s),
            )

            behind : 1 ≤ count_of (has_ticket u) (stop_list others)
            behind = omega (
              arith,
              other,
              count-none (has_ticket u) front lacks,
              total-without (λ t. cond (has_ticket u t) 1 0) s routes (written.once s),
            )

            joined : (q : Route) × (route_of others u ≡ Some q)
                → Links changed (put_route (linear (front ++ stops_with u others))
                (without u others))
            joined g =
                let back : List Stop = stops_with u others in
                let is_back : g.0.stops ≡ back = with_found u others g.0 g.1 in
                let there : Leads next (closing_of g.0) g.0.stops =
                subst (λ o. IfSome o (λ r. Leads next (closing_of r) r.stops)) g.1
                (found_in (λ r. Leads next (closing_of r) r.stops) (has_stop u) others
                (Links-without next s routes links)) in
                let few : count_of (leads_to next u) g.0.stops ≡ 0 = omega (
                  arith,
                  none,
                  total-without (λ t. cond (leads_to next u t) 1 0) s routes (written.once s),
                  less_within (λ t. cond (leads_to next u t) 1 0) u others g.0 once g.1,
                ) in
                let start = starts_parts u g.0
                (starts_if_none_leads next u g.0 there few
                (count-any (has_ticket u) g.0.stops (found_passes (has_stop u) others g.0 g.1)))
                in
                let head : head_or None back ≡ Some u = ap (head_or None) (sym is_back) ∙ start.1 in
                let open_end : closing_of g.0 ≡ None =
                ap (λ b. cond b (head_or None g.0.stops) None) start.0 in
                let back_leads : Leads next None back =
                subst (Leads next None) is_back
                (subst (λ c. Leads next c g.0.stops) open_end there) in
                let back_lacks : count_of (has_ticket s) back ≡ 0 = omega (
                  arith,
                  others_lack,
                  less_within (λ t. cond (has_ticket s t) 1 0) u others g.0 once g.1,
                  ap (count_of (has_ticket s)) is_back,
                ) in
                let moved : Leads changed None back =
                Leads-ext next changed None back
                (apart_relinked s (Some u) next back back_lacks) back_leads in
                Links-put changed (linear (front ++ back)) (without u others)
                (Leads-append changed None front back
                (subst (λ c. Leads changed c front) (sym head) front_leads) moved)
                (Links-without changed u others rest)

-- ---- cuts

pub Links-unlinked : (next : ℕ → Option ℕ) (s : ℕ) (routes : List Route) → AreWritten routes
    → Links next routes → 1 ≤ count_of (has_ticket s) (stop_list routes)
    → Links (relinked s None next) (unlinked s routes)
Links-unlinked next s routes written links some = by (found_if_counted s routes some)
  where
    others : List Route
    others = without s routes

    changed : ℕ → Option ℕ
    changed = relinked s None next

    by : (r : Route) × (route_of routes s ≡ Some r) → Links changed (unlinked s routes)
    by f = rw f.1 (at f.0.is_ring refl)
      where
        xs : List Stop
        xs = f.0.stops

        front : List Stop
        front = up_to (has_ticket s) xs

        back : List Stop
        back = behind (has_ticket s) xs

        has : 1 ≤ count_of (has_ticket s) xs
        has = count-any (has_ticket s) xs (found_passes (has_stop s) routes f.0 f.1)

        old : Leads next (closing_of f.0) xs
        old = subst (λ o. IfSome o (λ r. Leads next (closing_of r) r.stops)) f.1
            (found_in (λ r. Leads next (closing_of r) r.stops) (has_stop s) routes links)

        parts : Leads next (closing_of f.0) (front ++ back)
        parts = subst (Leads next (closing_of f.0)) (sym (up_to_behind (has_ticket s) xs)) old

        whole : count_of (has_ticket s) (stop_list others) + count_of (has_ticket s) xs
            ≡ count_of (has_ticket s) (stop_list routes)
        whole = omega (
          arith,
          total-without (λ t. cond (has_ticket s t) 1 0) s routes (written.once s),
          ap (count_of (has_ticket s)) (with_found s routes f.0 f.1),
        )

        front_has : (ys : List Stop) → 1 ≤ count_of (has_ticket s) ys
            → 1 ≤ count_of (has_ticket s) (up_to (has_ticket s) ys)
        front_has [] k = k
        front_has (y ∷ ys) k = go (y.ticket == s) refl (front_has ys)
          where
            go : (b : Bool) → (y.ticket == s) ≡ b
                → (1 ≤ count_of (has_ticket s) ys
                → 1 ≤ count_of (has_ticket s) (up_to (has_ticket s) ys))
                → 1 ≤ count_of (has_ticket s) (cond b (y ∷ []) (y ∷ up_to (has_ticket s) ys))
            go true e h = omega (arith, ap {B = ℕ} (λ c. cond c 1 0) e)
            go false e h = omega (arith, k, h (omega (arith, k, ap {B = ℕ} (λ c. cond c 1 0) e)))

        back_lacks : count_of (has_ticket s) back ≡ 0
        back_lacks = omega (
          arith,
          front_has xs has,
          whole,
          written.once s,
          total-append (λ t. cond (has_ticket s t) 1 0) front back,
          ap (count_of (has_ticket s)) (up_to_behind (has_ticket s) xs),
        )

        front_leads : Leads changed None front
        front_leads = Leads-up_to s None next (head_or (closing_of f.0) back) xs
            (Leads-front next (closing_of f.0) front back parts) has

        back_leads : Leads changed (closing_of f.0) back
        back_leads = Leads-ext next changed (closing_of f.0) back
            (apart_relinked s None next back back_lacks)
            (Leads-back next (closing_of f.0) front back parts)

        rest : Links changed others
        rest = Links-apart s None next others (omega (arith, whole, has, written.once s))
            (Links-without next s routes links)

        at : (b : Bool) → f.0.is_ring ≡ b
            → Links changed (cond b (put_route (linear (back ++ front)) others)
            (put_route (linear front) (put_route (linear back) others)))
        at true e =
            let closing : closing_of f.0 ≡ head_or None front =
            ap (λ b. cond b (head_or None xs) None) e ∙ heads xs has in
            Links-put changed (linear (back ++ front)) others
            (Leads-append changed None back front
            (subst (λ c. Leads changed c back) closing back_leads) front_leads) rest
          where
            heads : (ys : List Stop) → 1 ≤ count_of (has_ticket s) ys
                → head_or None ys ≡ head_or None (up_to (has_ticket s) ys)
            heads [] k = refl
            heads (y ∷ ys) k = go (y.ticket == s)
              where
                go : (b : Bool) → Some y.ticket
                    ≡ head_or None (cond b (y ∷ []) (y ∷ up_to (has_ticket s) ys))
                go true = refl
                go false = refl
        at false e =
            let closing : closing_of f.0 ≡ None = ap (λ b. cond b (head_or None xs) None) e in
            Links-put changed (linear front) (put_route (linear back) others) front_leads
            (Links-put changed (linear back) others
            (subst (λ c. Leads changed c back) closing back_leads) rest)

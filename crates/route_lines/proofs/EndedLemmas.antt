-- What a removal leaves, by the kind of item that ends.
use Rattle.std.proofs.Common.{◌≡◌, ◌∙◌, ap, subst, refl, Bool, true, false, ◌||◌, ◌==◌, ℕ, List}
use Rattle.std.proofs.Common.{[], ◌∷◌, Option, None, Result, Ok, Err, cond, nat_lt, map, find}
use Rattle.std.proofs.Common.{option_map}
use Rattle.std.proofs.lemmas.Bool.{eq-eqb}
use Rattle.route_lines.specs.Calls.{clear_stop, clear_route, clear_mark, clear_mark_stop}
use Rattle.route_lines.specs.Calls.{without_place, without_stop, without_mark, removed}
use Rattle.route_lines.specs.Calls.{after_removed}
use Rattle.route_lines.specs.Leads.{head_or, Leads}
use Rattle.route_lines.specs.Routes.{has_ticket, next_stop}
use Rattle.route_lines.specs.Sound.{AreWritten, IsSound}
use Rattle.route_lines.specs.State.{State, Place, Stop, Route, Mark, Item, place, stop, mark}
use Rattle.route_lines.specs.State.{stop_list, place_of, stop_of, mark_of, holder}
use Rattle.route_lines.specs.declared.refusal.Refusal.{Refusal}
use Rattle.route_lines.specs.declared.refusal.Refusal.TheVariants.{Gone}
use Rattle.route_lines.specs.CutLaws.{none_found}
use Rattle.route_lines.proofs.LinkLemmas.{closing_of, Links, Links-next_stop}
use Rattle.route_lines.proofs.NextStopLemmas.{leads_everywhere}
use Rattle.route_lines.proofs.PastLemmas.{stop-taken_out}
use Rattle.route_lines.proofs.RemovedLemmas.{find-filter, find-map, all_map, stop_list-cleared}
use Rattle.route_lines.proofs.RemovedLemmas.{total-cleared, AreWritten-cleared}
use Rattle.route_lines.specs.CallLaws.{and_then-ok}
use Rattle.route_lines.specs.NamedLaws.{one_place, one_stop, one_mark}

-- ---- routes whose stops may lose their place

pub stop-cleared : (t k : ℕ) (routes : List Route)
    → stop_of (map (clear_route t) routes) k ≡ option_map (clear_stop t) (stop_of routes k)
stop-cleared t k routes = ap (find (has_ticket k)) (stop_list-cleared t routes)
    ∙ find-map (λ (u : Stop). u.ticket) (clear_stop t) k (stop_list routes) (λ u. refl)

Leads-cleared : (next : ℕ → Option ℕ) (t : ℕ) (closing : Option ℕ) (xs : List Stop)
    → Leads next closing xs → Leads next closing (map (clear_stop t) xs)
Leads-cleared next t closing [] h = tt
Leads-cleared next t closing (x ∷ xs) h = (h.0 ∙ heads xs, Leads-cleared next t closing xs h.1)
  where
    heads : (ys : List Stop) → head_or closing ys ≡ head_or closing (map (clear_stop t) ys)
    heads [] = refl
    heads (y ∷ ys) = refl

Links-cleared : (next : ℕ → Option ℕ) (t : ℕ) (routes : List Route) → Links next routes
    → Links next (map (clear_route t) routes)
Links-cleared next t routes links =
    all_map (λ r. Leads next (closing_of r) r.stops) (λ r. Leads next (closing_of r) r.stops)
    (clear_route t) routes
    (λ r h. subst (λ c. Leads next c (map (clear_stop t) r.stops)) (closes r.is_ring r.stops)
    (Leads-cleared next t (closing_of r) r.stops h)) links
  where
    closes : (b : Bool) (xs : List Stop)
        → cond b (head_or None xs) None ≡ cond b (head_or None (map (clear_stop t) xs)) None
    closes true [] = refl
    closes true (x ∷ xs) = refl
    closes false xs = refl

pub next-cleared : (t k : ℕ) (routes : List Route) → AreWritten routes
    → next_stop (map (clear_route t) routes) k ≡ next_stop routes k
next-cleared t k routes written =
    leads_everywhere (next_stop routes) routes (map (clear_route t) routes)
    (AreWritten-cleared t routes written)
    (Links-cleared (next_stop routes) t routes (Links-next_stop routes written.once))
    (λ n. total-cleared (λ u. cond (has_ticket n u) 1 0) t routes) k (λ here. refl)

-- ---- a removed ticket is gone

pub gone_if_none : (s : State) (t : ℕ) → (t == 0) || nat_lt s.last t ≡ false
    → place_of s.places t ≡ None → stop_of s.routes t ≡ None → mark_of s.marks t ≡ None
    → holder s t ≡ Err Gone
gone_if_none s t given no_place no_stop no_mark = rw (given, no_place, no_stop, no_mark) refl

pub gone-removed : (s : State) (t : ℕ) → IsSound s → removed s t ≡ Ok tt
    → holder (after_removed s t) t ≡ Err Gone
gone-removed s t sound e = let ok = and_then-ok (holder s t) _ tt e in at ok.0 ok.1
  where
    own : {X : Type 0} (o : Option X) → cond (t == t) None o ≡ None
    own o = ap (λ b. cond b None o) (eq-eqb t t refl)

    at : (item : Item) → holder s t ≡ Ok item → holder (after_removed s t) t ≡ Err Gone
    at (place p) f =
        let one = one_place s t p sound f in
        let no_stop = none_found (has_ticket t) (stop_list s.routes) one.stops in
        let no_mark = none_found (λ m. m.ticket == t) s.marks one.marks in
        rw f (gone_if_none (without_place s t) t one.given
        (find-filter (λ (q : Place). q.ticket) t t s.places ∙ own (place_of s.places t))
        (stop-cleared t t s.routes ∙ ap (option_map (clear_stop t)) no_stop)
        (find-map (λ (m : Mark). m.ticket) (clear_mark t) t s.marks (λ m. refl)
        ∙ ap (option_map (clear_mark t)) no_mark))
    at (stop u) f =
        let one = one_stop s t u sound f in
        let no_place = none_found (λ p. p.ticket == t) s.places one.places in
        let no_mark = none_found (λ m. m.ticket == t) s.marks one.marks in
        rw f (gone_if_none (without_stop s t) t one.given no_place
        (stop-taken_out t s.routes sound.routes t ∙ own (stop_of s.routes t))
        (find-map (λ (m : Mark). m.ticket) (clear_mark_stop t) t s.marks (λ m. refl)
        ∙ ap (option_map (clear_mark_stop t)) no_mark))
    at (mark m) f =
        let one = one_mark s t m sound f in
        let no_place = none_found (λ p. p.ticket == t) s.places one.places in
        let no_stop = none_found (has_ticket t) (stop_list s.routes) one.stops in
        rw f (gone_if_none (without_mark s t) t one.given no_place no_stop
        (find-filter (λ (n : Mark). n.ticket) t t s.marks ∙ own (mark_of s.marks t)))

-- ---- what holds of a state holds of the one after a removal

pub last-removed : (s : State) (t : ℕ)
    → ((after_removed s t).last ≡ s.last) × ((after_removed s t).rooms ≡ s.rooms)
last-removed s t = at (holder s t) refl
  where
    at : (r : Result Item Refusal) → holder s t ≡ r
        → ((after_removed s t).last ≡ s.last) × ((after_removed s t).rooms ≡ s.rooms)
    at (Ok (place p)) e = rw e (refl, refl)
    at (Ok (stop u)) e = rw e (refl, refl)
    at (Ok (mark m)) e = rw e (refl, refl)
    at (Err refusal) e = rw e (refl, refl)

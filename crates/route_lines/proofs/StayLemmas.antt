-- The stops stay as they were where routes are joined, cut and exchanged, and a new stop stands
-- under its ticket.
use Rattle.std.proofs.Common.{◌≡◌, ◌≢◌, ◌∙◌, sym, ap, subst, refl, Bool, true, false, ℕ, ◌+◌, ◌≤◌}
use Rattle.std.proofs.Common.{List, [], ◌∷◌, ◌++◌, length, Option, Some, None, IfSome, Result, Ok}
use Rattle.std.proofs.Common.{Err, cond, find, arith, length-append}
use Rattle.std.specs.List.{AllByRecursion}
use Rattle.std.specs.Option.{option_or}
use Rattle.std.proofs.lemmas.Bool.{eq-eqb, eqb-true, ne_eqb}
use Rattle.std.proofs.lemmas.List.Folds.{find-append}
use Rattle.route_lines.specs.Calls.{place_holder, stop_holder, next_ticket, joined, after_join}
use Rattle.route_lines.specs.Calls.{parted, after_cut, swapped, after_swap, extended, after_extend}
use Rattle.route_lines.specs.Calls.{unless_refused, and_then}
use Rattle.route_lines.specs.Cuts.{up_to, behind}
use Rattle.route_lines.specs.Routes.{has_ticket, has_stop, linked, unlinked, exchanged, put_behind}
use Rattle.route_lines.specs.Sound.{total, count_of, AreWritten, IsSound}
use Rattle.route_lines.specs.State.{State, Stop, Route, stop_list, stop_of, is_full_of_stops}
use Rattle.route_lines.specs.declared.refusal.Refusal.{Refusal}
use Rattle.route_lines.specs.CutLaws.{up_to_behind, found_in, found_passes, total-append}
use Rattle.route_lines.specs.CutLaws.{length-total, count-any, count-none, found_counted}
use Rattle.route_lines.specs.CutLaws.{none_found, not_found}
use Rattle.route_lines.specs.CutLaws.{none_above}
use Rattle.route_lines.proofs.NewStopLemmas.{put_behind-none}
use Rattle.route_lines.proofs.RouteLemmas.{AreWritten-linked, total-linked, all_linked}
use Rattle.route_lines.proofs.RouteLemmas.{AreWritten-unlinked, total-unlinked, all_unlinked}
use Rattle.route_lines.proofs.RouteLemmas.{exchanged_keeps}
use Rattle.route_lines.specs.CallLaws.{and_then-ok}
use Rattle.route_lines.proofs.UndoLemmas.{own_stop, names_stop}

-- ---- by ticket

-- two lists with as many stops under each ticket, where each stop of the one is what the other has
-- under its ticket
pub same_found : (xs ys : List Stop)
    → ((k : ℕ) → count_of (has_ticket k) ys ≡ count_of (has_ticket k) xs)
    → AllByRecursion (λ t. find (has_ticket t.ticket) xs ≡ Some t) ys
    → (k : ℕ) → find (has_ticket k) ys ≡ find (has_ticket k) xs
same_found xs ys same among k = at (find (has_ticket k) ys) refl
  where
    at : (o : Option Stop) → find (has_ticket k) ys ≡ o
        → find (has_ticket k) ys ≡ find (has_ticket k) xs
    at None e = e ∙ sym (none_found (has_ticket k) xs
        (sym (same k) ∙ not_found (has_ticket k) ys e))
    at (Some y) e =
        let own : find (has_ticket y.ticket) xs ≡ Some y =
        subst (λ o. IfSome o (λ t. find (has_ticket t.ticket) xs ≡ Some t)) e
        (found_in (λ t. find (has_ticket t.ticket) xs ≡ Some t) (has_ticket k) ys among) in
        let ticket : y.ticket ≡ k = eqb-true y.ticket k (found_passes (has_ticket k) ys y e) in
        e ∙ sym own ∙ ap (λ n. find (has_ticket n) xs) ticket

-- ---- joins, cuts and swaps

-- the routes have the stops of others
record HaveStops (routes others : List Route) : Type 1 where
  written : AreWritten others
  kept : (weight : Stop → ℕ) → total weight (stop_list others) ≡ total weight (stop_list routes)
  among : AllByRecursion (λ t. find (has_ticket t.ticket) (stop_list routes) ≡ Some t)
      (stop_list others)

-- what stays of the stops of routes
pub record StopsStay (routes others : List Route) : Type 0 where
  pub stops : (k : ℕ) → stop_of others k ≡ stop_of routes k
  pub count : length (stop_list others) ≡ length (stop_list routes)

stay : (routes others : List Route) → HaveStops routes others → StopsStay routes others
stay routes others have = record {
  stops = same_found (stop_list routes) (stop_list others)
      (λ k. have.kept (λ t. cond (has_ticket k t) 1 0)) have.among;
  count = length-total (stop_list others) ∙ have.kept (λ t. 1)
      ∙ sym (length-total (stop_list routes));
}

module _ (routes : List Route) where
  own : AreWritten routes → HaveStops routes routes
  own written = record {
    written = written;
    kept = λ weight. refl;
    among = own_stop (stop_list routes) written.once;
  }

  have-linked : (t u : ℕ) (rs : List Route) → HaveStops routes rs → HaveStops routes (linked t u rs)
  have-linked t u rs h = record {
    written = AreWritten-linked t u rs h.written;
    kept = λ weight. total-linked weight t u rs h.written ∙ h.kept weight;
    among = all_linked (λ x. find (has_ticket x.ticket) (stop_list routes) ≡ Some x) t u rs h.among;
  }

  have-unlinked : (t : ℕ) (rs : List Route) → HaveStops routes rs → HaveStops routes (unlinked t rs)
  have-unlinked t rs h = record {
    written = AreWritten-unlinked t rs h.written;
    kept = λ weight. total-unlinked weight t rs h.written ∙ h.kept weight;
    among = all_unlinked (λ x. find (has_ticket x.ticket) (stop_list routes) ≡ Some x) t rs h.among;
  }

module _ (s : State) (sound : IsSound s) where
  here : HaveStops s.routes s.routes
  here = own s.routes sound.routes

  pub stay-joined : (t u : ℕ) → StopsStay s.routes (after_join s t u).routes
  stay-joined t u = at (joined s t u)
    where
      at : (r : Result Unit Refusal)
          → StopsStay s.routes (unless_refused s r
          (λ ok. record s { routes = linked t u s.routes })).routes
      at (Ok x) = stay s.routes (linked t u s.routes) (have-linked s.routes t u s.routes here)
      at (Err e) = stay s.routes s.routes here

  pub stay-parted : (t : ℕ) → StopsStay s.routes (after_cut s t).routes
  stay-parted t = at (parted s t)
    where
      at : (r : Result Unit Refusal)
          → StopsStay s.routes (unless_refused s r
          (λ ok. record s { routes = unlinked t s.routes })).routes
      at (Ok x) = stay s.routes (unlinked t s.routes) (have-unlinked s.routes t s.routes here)
      at (Err e) = stay s.routes s.routes here

  pub stay-swapped : (t u : ℕ) → StopsStay s.routes (after_swap s t u).routes
  stay-swapped t u = at (swapped s t u)
    where
      at : (r : Result Unit Refusal)
          → StopsStay s.routes (unless_refused s r
          (λ ok. record s { routes = exchanged t u s.routes })).routes
      at (Ok x) = stay s.routes (exchanged t u s.routes)
          (exchanged_keeps (HaveStops s.routes) t u s.routes (have-unlinked s.routes)
          (have-linked s.routes) here)
      at (Err e) = stay s.routes s.routes here

-- ---- a stop directly behind another

module _ (s : ℕ) (new : Stop) where
  abbrev longer : Route → Route
  longer r = cond (has_stop s r)
      (record r { stops = up_to (has_ticket s) r.stops ++ new ∷ behind (has_ticket s) r.stops }) r

  others_behind : (k : ℕ) → new.ticket ≢ k → (routes : List Route)
      → stop_of (put_behind s new routes) k ≡ stop_of routes k
  others_behind k other [] = refl
  others_behind k other (r ∷ routes) =
      find-append (has_ticket k) (longer r).stops (stop_list (put_behind s new routes))
      ∙ ap (λ o. option_or o (stop_of (put_behind s new routes) k)) (at (has_stop s r))
      ∙ ap (option_or (find (has_ticket k) r.stops)) (others_behind k other routes)
      ∙ sym (find-append (has_ticket k) r.stops (stop_list routes))
    where
      front : List Stop
      front = up_to (has_ticket s) r.stops

      back : List Stop
      back = behind (has_ticket s) r.stops

      skip : find (has_ticket k) (new ∷ back) ≡ find (has_ticket k) back
      skip = rw (ne_eqb new.ticket k other) refl

      at : (b : Bool) → find (has_ticket k)
          (cond b (record r { stops = front ++ new ∷ back }) r).stops ≡ find (has_ticket k) r.stops
      at true =
          find-append (has_ticket k) front (new ∷ back)
          ∙ ap (option_or (find (has_ticket k) front)) skip
          ∙ sym (find-append (has_ticket k) front back)
          ∙ ap (find (has_ticket k)) (up_to_behind (has_ticket s) r.stops)
      at false = refl

  new_behind : (routes : List Route) → count_of (has_ticket new.ticket) (stop_list routes) ≡ 0
      → 1 ≤ count_of (has_ticket s) (stop_list routes)
      → stop_of (put_behind s new routes) new.ticket ≡ Some new
  new_behind [] fresh some = absurd (omega (arith, some))
  new_behind (r ∷ routes) fresh some =
      find-append (has_ticket new.ticket) (longer r).stops (stop_list (put_behind s new routes))
      ∙ at (has_stop s r) refl (new_behind routes (omega (arith, parts new.ticket, fresh)))
    where
      front : List Stop
      front = up_to (has_ticket s) r.stops

      back : List Stop
      back = behind (has_ticket s) r.stops

      parts : (k : ℕ) → count_of (has_ticket k) (stop_list (r ∷ routes))
          ≡ count_of (has_ticket k) r.stops + count_of (has_ticket k) (stop_list routes)
      parts k = total-append (λ t. cond (has_ticket k t) 1 0) r.stops (stop_list routes)

      halves : (k : ℕ) → count_of (has_ticket k) front + count_of (has_ticket k) back
          ≡ count_of (has_ticket k) r.stops
      halves k = sym (total-append (λ t. cond (has_ticket k t) 1 0) front back)
          ∙ ap (count_of (has_ticket k)) (up_to_behind (has_ticket s) r.stops)

      at : (b : Bool) → has_stop s r ≡ b
          → (1 ≤ count_of (has_ticket s) (stop_list routes)
          → stop_of (put_behind s new routes) new.ticket ≡ Some new)
          → option_or (find (has_ticket new.ticket)
          (cond b (record r { stops = front ++ new ∷ back }) r).stops)
          (stop_of (put_behind s new routes) new.ticket) ≡ Some new
      at true e later =
          let own : find (has_ticket new.ticket) (new ∷ back) ≡ Some new =
          rw (eq-eqb new.ticket new.ticket refl) refl in
          let none : find (has_ticket new.ticket) front ≡ None =
          none_found (has_ticket new.ticket) front
          (omega (arith, fresh, parts new.ticket, halves new.ticket)) in
          ap (λ o. option_or o (stop_of (put_behind s new routes) new.ticket))
          (find-append (has_ticket new.ticket) front (new ∷ back)
          ∙ ap (λ o. option_or o (find (has_ticket new.ticket) (new ∷ back))) none ∙ own)
      at false e later =
          ap (λ o. option_or o (stop_of (put_behind s new routes) new.ticket))
          (none_found (has_ticket new.ticket) r.stops (omega (arith, fresh, parts new.ticket)))
          ∙ later (omega (arith, some, parts s, count-none (has_ticket s) r.stops e))

  length_behind : (routes : List Route) → count_of (has_ticket s) (stop_list routes) ≡ 1
      → length (stop_list (put_behind s new routes)) ≡ length (stop_list routes) + 1
  length_behind [] one = absurd (omega (arith, one))
  length_behind (r ∷ routes) one = at (has_stop s r) refl (length_behind routes)
    where
      front : List Stop
      front = up_to (has_ticket s) r.stops

      back : List Stop
      back = behind (has_ticket s) r.stops

      parts : count_of (has_ticket s) (stop_list (r ∷ routes))
          ≡ count_of (has_ticket s) r.stops + count_of (has_ticket s) (stop_list routes)
      parts = total-append (λ t. cond (has_ticket s t) 1 0) r.stops (stop_list routes)

      at : (b : Bool) → has_stop s r ≡ b
          → (count_of (has_ticket s) (stop_list routes) ≡ 1
          → length (stop_list (put_behind s new routes)) ≡ length (stop_list routes) + 1)
          → length (stop_list (cond b (record r { stops = front ++ new ∷ back }) r ∷ put_behind s
          new routes)) ≡ length (stop_list (r ∷ routes)) + 1
      at true e later =
          let none : count_of (has_ticket s) (stop_list routes) ≡ 0 =
          omega (arith, parts, one, count-any (has_ticket s) r.stops e) in
          rw (put_behind-none s new routes none)
          (omega (
            arith,
            length-append (front ++ new ∷ back) (stop_list routes),
            length-append r.stops (stop_list routes),
            length-append front (new ∷ back),
            length-append front back,
            ap length (up_to_behind (has_ticket s) r.stops),
          ))
      at false e later =
          omega (
            arith,
            later (omega (arith, parts, one, count-none (has_ticket s) r.stops e)),
            length-append r.stops (stop_list (put_behind s new routes)),
            length-append r.stops (stop_list routes),
          )

-- a new stop stands under its ticket, and all others as before
pub record IsOneMore (new : Stop) (routes others : List Route) : Type 0 where
  pub own : stop_of others new.ticket ≡ Some new
  pub stops : (k : ℕ) → k ≢ new.ticket → stop_of others k ≡ stop_of routes k
  pub count : length (stop_list others) ≡ length (stop_list routes) + 1

pub one_more-extended : (s : State) (t at n : ℕ) → IsSound s → extended s t at ≡ Ok n
    → IsOneMore (record { ticket = n; place = Some at }) s.routes (after_extend s t at).routes
one_more-extended s t at n sound e = subst (IsOneMore new s.routes) (sym now) (record {
  own = new_behind t new s.routes fresh some;
  stops = λ k other. others_behind t new k (λ is. other (sym is)) s.routes;
  count = length_behind t new s.routes (omega (arith, some, sound.routes.once t));
})
  where
    new : Stop
    new = record { ticket = n; place = Some at }

    first : (x : Stop) × ((stop_holder s t ≡ Ok x)
        × (and_then (place_holder s at) (λ p. next_ticket s (is_full_of_stops s)) ≡ Ok n))
    first = let ok = and_then-ok (stop_holder s t)
        (λ u. and_then (place_holder s at) (λ p. next_ticket s (is_full_of_stops s))) n e in
        (ok.0, (ok.1, ok.2))

    ticket : n ≡ s.last + 1
    ticket = let ok = and_then-ok (place_holder s at) (λ p. next_ticket s (is_full_of_stops s)) n
        first.1.1 in by (is_full_of_stops s) ok.2
      where
        by : (b : Bool) → next_ticket s b ≡ Ok n → n ≡ s.last + 1
        by true f = cc
        by false f = cc

    fresh : count_of (has_ticket n) (stop_list s.routes) ≡ 0
    fresh = none_above (λ (x : Stop). x.ticket) s.last n (stop_list s.routes) sound.given_stops
        (omega (arith, ticket))

    some : 1 ≤ count_of (has_ticket t) (stop_list s.routes)
    some = let names = names_stop s t first.0 first.1.0 in
        found_counted (has_ticket t) (stop_list s.routes) names.stop_there.0 names.stop_there.1

    now : (after_extend s t at).routes ≡ put_behind t new s.routes
    now = ap (λ r. (unless_refused s r
        (λ k. record s {
          last = k;
          routes = put_behind t (record { ticket = k; place = Some at }) s.routes;
        })).routes) e

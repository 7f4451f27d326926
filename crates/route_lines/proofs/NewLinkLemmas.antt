-- What a new stop makes of which stop leads to which.
use Rattle.std.proofs.Common.{◌≡◌, ◌≢◌, ◌∙◌, sym, ap, subst, refl, Bool, true, false, ◌==◌, ◌⊎◌}
use Rattle.std.proofs.Common.{inl, inr, ℕ, ◌+◌, ◌<◌, ◌≤◌, List, [], ◌∷◌, ◌++◌, Option, Some, None}
use Rattle.std.proofs.Common.{Ok, cond, arith}
use Rattle.std.proofs.lemmas.Bool.{eq-eqb, eqb-true, ne_eqb, cases_lt}
use Rattle.route_lines.specs.Calls.{place_holder, stop_holder, next_ticket, started, after_start}
use Rattle.route_lines.specs.Calls.{extended, after_extend, unless_refused}
use Rattle.route_lines.specs.Cuts.{up_to, behind}
use Rattle.route_lines.specs.Leads.{head_or, Leads}
use Rattle.route_lines.specs.Routes.{has_ticket, linear, has_stop, next_stop, put_behind}
use Rattle.route_lines.specs.Sound.{count_of, AreWritten, IsSound}
use Rattle.route_lines.specs.State.{State, Stop, Route, stop_list, is_full_of_stops}
use Rattle.route_lines.specs.CutLaws.{up_to_behind, all_append, total-append, count-any, count-none}
use Rattle.route_lines.specs.CutLaws.{found_counted}
use Rattle.route_lines.proofs.LinkLemmas.{Leads-append, Leads-front, Leads-back, Leads-ext}
use Rattle.route_lines.proofs.LinkLemmas.{closing_of, Links, Links-next_stop, next_stop-is}
use Rattle.route_lines.proofs.LinkLemmas.{relinked, apart_relinked, Links-apart, Leads-up_to}
use Rattle.route_lines.specs.CutLaws.{none_above, stop_list-more}
use Rattle.route_lines.proofs.NewStopLemmas.{AreWritten-more}
use Rattle.route_lines.proofs.NewStopLemmas.{total-put_behind, AreWritten-put_behind}
use Rattle.route_lines.proofs.NextStopLemmas.{off_leads_nowhere}
use Rattle.route_lines.specs.CallLaws.{and_then-ok}
use Rattle.route_lines.proofs.UndoLemmas.{names_stop}

-- ---- a route of one stop

pub Links-more : (next : ℕ → Option ℕ) (new : Stop) (routes : List Route)
    → count_of (has_ticket new.ticket) (stop_list routes) ≡ 0 → Links next routes
    → Links (relinked new.ticket None next) (routes ++ linear (new ∷ []) ∷ [])
Links-more next new routes fresh links =
    all_append (λ r. Leads (relinked new.ticket None next) (closing_of r) r.stops) routes
    (linear (new ∷ []) ∷ []) (Links-apart new.ticket None next routes fresh links)
    ((ap (λ b. cond b None (next new.ticket)) (eq-eqb new.ticket new.ticket refl), tt), tt)

-- ---- a stop directly behind another

-- a stop that leads to the new one, which leads where that stop did
abbrev pub led_through : ℕ → Stop → (ℕ → Option ℕ) → ℕ → Option ℕ
led_through s new next = relinked new.ticket (next s) (relinked s (Some new.ticket) next)

-- a stop leads to the first one behind it
pub leads_behind : (next : ℕ → Option ℕ) (closing : Option ℕ) (s : ℕ) (xs : List Stop)
    → Leads next closing xs → 1 ≤ count_of (has_ticket s) xs
    → next s ≡ head_or closing (behind (has_ticket s) xs)
leads_behind next closing s [] h some = absurd (omega (arith, some))
leads_behind next closing s (x ∷ xs) h some =
    at (x.ticket == s) refl (leads_behind next closing s xs h.1)
  where
    at : (b : Bool) → (x.ticket == s) ≡ b
        → (1 ≤ count_of (has_ticket s) xs → next s ≡ head_or closing (behind (has_ticket s) xs))
        → next s ≡ head_or closing (cond b xs (behind (has_ticket s) xs))
    at true e later = sym (ap next (eqb-true x.ticket s e)) ∙ h.0
    at false e later = later (omega (arith, some, ap {B = ℕ} (λ c. cond c 1 0) e))

pub up_to_has : (s : ℕ) (xs : List Stop) → 1 ≤ count_of (has_ticket s) xs
    → 1 ≤ count_of (has_ticket s) (up_to (has_ticket s) xs)
up_to_has s [] some = some
up_to_has s (x ∷ xs) some = at (x.ticket == s) refl (up_to_has s xs)
  where
    at : (b : Bool) → (x.ticket == s) ≡ b
        → (1 ≤ count_of (has_ticket s) xs → 1 ≤ count_of (has_ticket s) (up_to (has_ticket s) xs))
        → 1 ≤ count_of (has_ticket s) (cond b (x ∷ []) (x ∷ up_to (has_ticket s) xs))
    at true e later = omega (arith, ap {B = ℕ} (λ c. cond c 1 0) e)
    at false e later = omega (arith, later (omega (arith, some, ap {B = ℕ} (λ c. cond c 1 0) e)))

-- what is put in behind a stop stands behind the first one
up_to_begins : (s : ℕ) (xs ys : List Stop) → 1 ≤ count_of (has_ticket s) xs
    → head_or None (up_to (has_ticket s) xs ++ ys) ≡ head_or None xs
up_to_begins s [] ys some = absurd (omega (arith, some))
up_to_begins s (x ∷ xs) ys some = at (has_ticket s x)
  where
    at : (b : Bool) → head_or None (cond b (x ∷ []) (x ∷ up_to (has_ticket s) xs) ++ ys)
        ≡ Some x.ticket
    at true = refl
    at false = refl

module _ (next : ℕ → Option ℕ) (s : ℕ) (new : Stop) where
  apart : (closing : Option ℕ) (xs : List Stop) → count_of (has_ticket s) xs ≡ 0
      → count_of (has_ticket new.ticket) xs ≡ 0 → Leads next closing xs
      → Leads (led_through s new next) closing xs
  apart closing xs lacks fresh h =
      Leads-ext (relinked s (Some new.ticket) next) (led_through s new next) closing xs
      (apart_relinked new.ticket (next s) (relinked s (Some new.ticket) next) xs fresh)
      (Leads-ext next (relinked s (Some new.ticket) next) closing xs
      (apart_relinked s (Some new.ticket) next xs lacks) h)

  -- along the stops of a route that has the stop
  through : (closing : Option ℕ) (xs : List Stop) → 1 ≤ count_of (has_ticket s) xs
      → count_of (has_ticket s) xs ≤ 1 → count_of (has_ticket new.ticket) xs ≡ 0
      → Leads next closing xs
      → Leads (led_through s new next) closing
      (up_to (has_ticket s) xs ++ new ∷ behind (has_ticket s) xs)
  through closing xs some once fresh h =
      Leads-append (led_through s new next) closing front (new ∷ back) first
      ((own ∙ leads_behind next closing s xs h some), second)
    where
      front : List Stop
      front = up_to (has_ticket s) xs

      back : List Stop
      back = behind (has_ticket s) xs

      parts : (k : ℕ) → count_of (has_ticket k) front + count_of (has_ticket k) back
          ≡ count_of (has_ticket k) xs
      parts k = sym (total-append (λ t. cond (has_ticket k t) 1 0) front back)
          ∙ ap (count_of (has_ticket k)) (up_to_behind (has_ticket s) xs)

      halves : Leads next closing (front ++ back)
      halves = subst (Leads next closing) (sym (up_to_behind (has_ticket s) xs)) h

      first : Leads (led_through s new next) (Some new.ticket) front
      first =
          Leads-ext (relinked s (Some new.ticket) next) (led_through s new next) (Some new.ticket)
          front
          (apart_relinked new.ticket (next s) (relinked s (Some new.ticket) next) front
          (omega (arith, parts new.ticket, fresh)))
          (Leads-up_to s (Some new.ticket) next (head_or closing back) xs
          (Leads-front next closing front back halves) some)

      own : led_through s new next new.ticket ≡ next s
      own = ap (λ b. cond b (next s) (relinked s (Some new.ticket) next new.ticket))
          (eq-eqb new.ticket new.ticket refl)

      second : Leads (led_through s new next) closing back
      second = apart closing back (omega (arith, parts s, once, up_to_has s xs some))
          (omega (arith, parts new.ticket, fresh)) (Leads-back next closing front back halves)

  pub Links-put_behind : (routes : List Route) → count_of (has_ticket s) (stop_list routes) ≤ 1
      → count_of (has_ticket new.ticket) (stop_list routes) ≡ 0 → Links next routes
      → Links (led_through s new next) (put_behind s new routes)
  Links-put_behind [] once fresh links = tt
  Links-put_behind (r ∷ routes) once fresh links = (
    at (has_stop s r) refl,
    Links-put_behind routes (omega (arith, parts s, once))
        (omega (arith, parts new.ticket, fresh)) links.1,
  )
    where
      parts : (k : ℕ) → count_of (has_ticket k) (stop_list (r ∷ routes))
          ≡ count_of (has_ticket k) r.stops + count_of (has_ticket k) (stop_list routes)
      parts k = total-append (λ t. cond (has_ticket k t) 1 0) r.stops (stop_list routes)

      longer : Route
      longer = record r {
        stops = up_to (has_ticket s) r.stops ++ new ∷ behind (has_ticket s) r.stops;
      }

      at : (b : Bool) → has_stop s r ≡ b
          → Leads (led_through s new next) (closing_of (cond b longer r)) (cond b longer r).stops
      at true e =
          let some : 1 ≤ count_of (has_ticket s) r.stops = count-any (has_ticket s) r.stops e in
          subst (λ o. Leads (led_through s new next) (cond r.is_ring o None) longer.stops)
          (sym (up_to_begins s r.stops (new ∷ behind (has_ticket s) r.stops) some))
          (through (closing_of r) r.stops some (omega (arith, parts s, once))
          (omega (arith, parts new.ticket, fresh)) links.0)
      at false e = apart (closing_of r) r.stops (count-none (has_ticket s) r.stops e)
          (omega (arith, parts new.ticket, fresh)) links.0

-- ---- where stops lead then

-- a stop that was there is there still
kept_behind : (v s : ℕ) (new : Stop) (routes : List Route)
    → 1 ≤ count_of (has_ticket v) (stop_list routes)
    → 1 ≤ count_of (has_ticket v) (stop_list (put_behind s new routes))
kept_behind v s new [] some = some
kept_behind v s new (r ∷ routes) some = at (has_stop s r) (kept_behind v s new routes)
  where
    front : List Stop
    front = up_to (has_ticket s) r.stops

    back : List Stop
    back = behind (has_ticket s) r.stops

    parts : count_of (has_ticket v) (stop_list (r ∷ routes))
        ≡ count_of (has_ticket v) r.stops + count_of (has_ticket v) (stop_list routes)
    parts = total-append (λ t. cond (has_ticket v t) 1 0) r.stops (stop_list routes)

    halves : count_of (has_ticket v) front + count_of (has_ticket v) back
        ≡ count_of (has_ticket v) r.stops
    halves = sym (total-append (λ t. cond (has_ticket v t) 1 0) front back)
        ∙ ap (count_of (has_ticket v)) (up_to_behind (has_ticket s) r.stops)

    -- it is on this route, or on those behind it
    among : (stops : List Stop) → count_of (has_ticket v) r.stops ≤ count_of (has_ticket v) stops
        → (1 ≤ count_of (has_ticket v) (stop_list routes)
        → 1 ≤ count_of (has_ticket v) (stop_list (put_behind s new routes)))
        → (0 < count_of (has_ticket v) (stop_list routes))
        ⊎ (count_of (has_ticket v) (stop_list routes) ≤ 0)
        → 1 ≤ count_of (has_ticket v) (stops ++ stop_list (put_behind s new routes))
    among stops more later (inl there) =
        omega (
          arith,
          total-append (λ t. cond (has_ticket v t) 1 0) stops (stop_list (put_behind s new routes)),
          later (omega (arith, there)),
        )
    among stops more later (inr none) =
        omega (
          arith,
          total-append (λ t. cond (has_ticket v t) 1 0) stops (stop_list (put_behind s new routes)),
          some,
          parts,
          none,
          more,
        )

    at : (b : Bool) → (1 ≤ count_of (has_ticket v) (stop_list routes)
        → 1 ≤ count_of (has_ticket v) (stop_list (put_behind s new routes)))
        → 1 ≤ count_of (has_ticket v)
        (stop_list (cond b (record r { stops = front ++ new ∷ back }) r ∷ put_behind s new
        routes))
    at true later =
        among (front ++ new ∷ back)
        (omega (
          arith,
          halves,
          total-append (λ t. cond (has_ticket v t) 1 0) front (new ∷ back),
        )) later (cases_lt 0 (count_of (has_ticket v) (stop_list routes)))
    at false later = among r.stops (omega arith) later
        (cases_lt 0 (count_of (has_ticket v) (stop_list routes)))

-- the new stop is there
new_behind : (s : ℕ) (new : Stop) (routes : List Route)
    → 1 ≤ count_of (has_ticket s) (stop_list routes)
    → 1 ≤ count_of (has_ticket new.ticket) (stop_list (put_behind s new routes))
new_behind s new [] some = absurd (omega (arith, some))
new_behind s new (r ∷ routes) some = at (has_stop s r) refl (new_behind s new routes)
  where
    at : (b : Bool) → has_stop s r ≡ b
        → (1 ≤ count_of (has_ticket s) (stop_list routes)
        → 1 ≤ count_of (has_ticket new.ticket) (stop_list (put_behind s new routes)))
        → 1 ≤ count_of (has_ticket new.ticket)
        (stop_list (cond b (record r
        { stops = up_to (has_ticket s) r.stops ++ new ∷ behind (has_ticket s) r.stops })
        r ∷ put_behind s new routes))
    at true e later =
        omega (
          arith,
          total-append (λ t. cond (has_ticket new.ticket t) 1 0)
              (up_to (has_ticket s) r.stops ++ new ∷ behind (has_ticket s) r.stops)
              (stop_list (put_behind s new routes)),
          total-append (λ t. cond (has_ticket new.ticket t) 1 0) (up_to (has_ticket s) r.stops)
              (new ∷ behind (has_ticket s) r.stops),
          ap {B = ℕ} (λ b. cond b 1 0) (eq-eqb new.ticket new.ticket refl),
        )
    at false e later =
        let here = total-append (λ t. cond (has_ticket s t) 1 0) r.stops (stop_list routes) in
        omega (
          arith,
          total-append (λ t. cond (has_ticket new.ticket t) 1 0) r.stops
              (stop_list (put_behind s new routes)),
          later (omega (arith, some, here, count-none (has_ticket s) r.stops e)),
        )

-- where all stops lead as `next` says, which is where they led before, but for one that was not
-- there
leads_but_for : (n : ℕ) (next : ℕ → Option ℕ) (routes others : List Route) → AreWritten others
    → Links next others
    → ((v : ℕ) → v ≢ n → count_of (has_ticket v) (stop_list routes) ≡ 0
    → count_of (has_ticket v) (stop_list others) ≡ 0)
    → ((v : ℕ) → 1 ≤ count_of (has_ticket v) (stop_list routes)
    → 1 ≤ count_of (has_ticket v) (stop_list others)) → (v : ℕ) → v ≢ n
    → next v ≡ next_stop routes v
    → next_stop others v ≡ next_stop routes v
leads_but_for n next routes others written links none some v apart same =
    at (cases_lt 0 (count_of (has_ticket v) (stop_list routes)))
  where
    at : (0 < count_of (has_ticket v) (stop_list routes))
        ⊎ (count_of (has_ticket v) (stop_list routes) ≤ 0) → next_stop others v ≡ next_stop routes v
    at (inl here) = next_stop-is next others v written.once links (some v (omega (arith, here)))
        ∙ same
    at (inr off) = off_leads_nowhere v others (none v apart (omega (arith, off)))
        ∙ sym (off_leads_nowhere v routes (omega (arith, off)))

-- the ticket that a call gives
ticket_given : (s : State) (at n : ℕ) → started s at ≡ Ok n → n ≡ s.last + 1
ticket_given s at n e = let ok =
    and_then-ok (place_holder s at) (λ p. next_ticket s (is_full_of_stops s)) n e in
    by (is_full_of_stops s) ok.2
  where
    by : (b : Bool) → next_ticket s b ≡ Ok n → n ≡ s.last + 1
    by true f = cc
    by false f = cc

pub next-started : (s : State) (at n : ℕ) → IsSound s → started s at ≡ Ok n
    → (next_stop (after_start s at).routes n ≡ None)
    × ((v : ℕ) → v ≢ n → next_stop (after_start s at).routes v ≡ next_stop s.routes v)
next-started s at n sound e = (
  ap (λ rs. next_stop rs n) new
      ∙ next_stop-is changed routes n written.once links
      (omega (arith, counts n, ap {B = ℕ} (λ b. cond b 1 0) (eq-eqb n n refl)))
      ∙ ap (λ b. cond b None (next_stop s.routes n)) (eq-eqb n n refl),
  λ v apart. ap (λ rs. next_stop rs v) new
      ∙ leads_but_for n changed s.routes routes written links
      (λ k other none. omega
      (arith, counts k, none, ap {B = ℕ} (λ b. cond b 1 0) (ne_eqb n k (λ h. other (sym h)))))
      (λ k some. omega (arith, counts k, some)) v apart
      (ap (λ b. cond b None (next_stop s.routes v)) (ne_eqb v n apart)),
)
  where
    ticket : n ≡ s.last + 1
    ticket = ticket_given s at n e

    stop : Stop
    stop = record { ticket = n; place = Some at }

    routes : List Route
    routes = s.routes ++ linear (stop ∷ []) ∷ []

    changed : ℕ → Option ℕ
    changed = relinked n None (next_stop s.routes)

    new : (after_start s at).routes ≡ routes
    new = ap (λ r. (unless_refused s r
        (λ t. record s {
          last = t;
          routes = s.routes ++ linear (record { ticket = t; place = Some at } ∷ []) ∷ [];
        })).routes) e

    fresh : count_of (has_ticket n) (stop_list s.routes) ≡ 0
    fresh = none_above (λ (t : Stop). t.ticket) s.last n (stop_list s.routes) sound.given_stops
        (omega (arith, ticket))

    written : AreWritten routes
    written = AreWritten-more s.last s.routes stop sound.given_stops (omega (arith, ticket))
        sound.routes

    links : Links changed routes
    links = Links-more (next_stop s.routes) stop s.routes fresh
        (Links-next_stop s.routes sound.routes.once)

    counts : (k : ℕ) → count_of (has_ticket k) (stop_list routes)
        ≡ count_of (has_ticket k) (stop_list s.routes) + cond (n == k) 1 0
    counts k = omega (
      arith,
      ap (count_of (has_ticket k)) (stop_list-more s.routes stop),
      total-append (λ t. cond (has_ticket k t) 1 0) (stop_list s.routes) (stop ∷ []),
    )

-- what an extension that answers a ticket makes of where stops lead
pub record LeadsThrough (t n : ℕ) (routes others : List Route) : Type 0 where
  pub first : next_stop others t ≡ Some n
  pub second : next_stop others n ≡ next_stop routes t
  pub rest : (v : ℕ) → v ≢ t → v ≢ n → next_stop others v ≡ next_stop routes v

pub next-extended : (s : State) (t at n : ℕ) → IsSound s → extended s t at ≡ Ok n
    → LeadsThrough t n s.routes (after_extend s t at).routes
next-extended s t at n sound e = record {
  first =
      ap (λ rs. next_stop rs t) new
      ∙ next_stop-is changed routes t written.once links (kept_behind t t stop s.routes some)
      ∙ ap (λ b. cond b (next_stop s.routes t) (relinked t (Some n) (next_stop s.routes) t))
      (ne_eqb t n apart) ∙ ap (λ b. cond b (Some n) (next_stop s.routes t)) (eq-eqb t t refl);
  second =
      ap (λ rs. next_stop rs n) new
      ∙ next_stop-is changed routes n written.once links (new_behind t stop s.routes some)
      ∙ ap (λ b. cond b (next_stop s.routes t) (relinked t (Some n) (next_stop s.routes) n))
      (eq-eqb n n refl);
  rest = λ v not_t not_n.
      ap (λ rs. next_stop rs v) new
      ∙ leads_but_for n changed s.routes routes written links
      (λ k other none. omega (
        arith,
        none,
        total-put_behind (λ x. cond (has_ticket k x) 1 0) t stop s.routes (sound.routes.once t),
        ap {B = ℕ} (λ b. cond b 1 0) (ne_eqb n k (λ h. other (sym h))),
      )) (λ k here. kept_behind k t stop s.routes here) v not_n
      (ap (λ b. cond b (next_stop s.routes t) (relinked t (Some n) (next_stop s.routes) v))
      (ne_eqb v n not_n) ∙ ap (λ b. cond b (Some n) (next_stop s.routes v)) (ne_eqb v t not_t));
}
  where
    ok : (u : Stop) × (stop_holder s t ≡ Ok u) × (started s at ≡ Ok n)
    ok = and_then-ok (stop_holder s t) (λ u. started s at) n e

    ticket : n ≡ s.last + 1
    ticket = ticket_given s at n ok.2

    stop : Stop
    stop = record { ticket = n; place = Some at }

    routes : List Route
    routes = put_behind t stop s.routes

    changed : ℕ → Option ℕ
    changed = led_through t stop (next_stop s.routes)

    new : (after_extend s t at).routes ≡ routes
    new = ap (λ r. (unless_refused s r
        (λ k. record s {
          last = k;
          routes = put_behind t (record { ticket = k; place = Some at }) s.routes;
        })).routes) e

    some : 1 ≤ count_of (has_ticket t) (stop_list s.routes)
    some = let names = names_stop s t ok.0 ok.1 in
        found_counted (has_ticket t) (stop_list s.routes) names.stop_there.0 names.stop_there.1

    fresh : count_of (has_ticket n) (stop_list s.routes) ≡ 0
    fresh = none_above (λ (x : Stop). x.ticket) s.last n (stop_list s.routes) sound.given_stops
        (omega (arith, ticket))

    apart : t ≢ n
    apart same = omega (
      arith,
      fresh,
      some,
      ap (λ k. count_of (has_ticket k) (stop_list s.routes)) same,
    )

    written : AreWritten routes
    written = AreWritten-put_behind s.last t stop s.routes sound.given_stops (omega (arith, ticket))
        sound.routes

    links : Links changed routes
    links = Links-put_behind (next_stop s.routes) t stop s.routes (sound.routes.once t) fresh
        (Links-next_stop s.routes sound.routes.once)

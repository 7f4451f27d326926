-- Which stop leads to which, along all routes, and what joins and cuts make of that.
use Rattle.std.proofs.Common.{◌≡◌, ◌∙◌, sym, ap, subst, refl, Bool, true, false, ◌==◌, ℕ, ◌+◌, ◌≤◌}
use Rattle.std.proofs.Common.{List, [], ◌∷◌, ◌++◌, length, Option, Some, None, cond, not}
use Rattle.std.proofs.Common.{append-nil, arith}
use Rattle.std.specs.List.{AllByRecursion}
use Rattle.std.specs.Option.{option_or}
use Rattle.std.proofs.lemmas.Bool.{eq-eqb, eqb-true}
use Rattle.route_lines.specs.Cuts.{before, onward, up_to, behind, first_item}
use Rattle.route_lines.specs.Leads.{head_or, Leads}
use Rattle.route_lines.specs.Routes.{has_ticket, round, has_stop, ticket_of, route_of, without}
use Rattle.route_lines.specs.Routes.{insert_route, put_route, next_stop}
use Rattle.route_lines.specs.Sound.{count_of}
use Rattle.route_lines.specs.State.{Stop, Route, stop_list}
use Rattle.route_lines.specs.CutLaws.{before_onward, all_weaker, all_append, all_front, all_back}
use Rattle.route_lines.specs.CutLaws.{all_filter, total-append, count-any, count-none, none-count}
use Rattle.route_lines.specs.CutLaws.{any-count}
use Rattle.route_lines.proofs.RouteLemmas.{all_insert_route}

-- ---- along one list

head_or-append : (closing : Option ℕ) (xs ys : List Stop)
    → head_or closing (xs ++ ys) ≡ head_or (head_or closing ys) xs
head_or-append closing [] ys = refl
head_or-append closing (x ∷ xs) ys = refl

pub Leads-append : (next : ℕ → Option ℕ) (closing : Option ℕ) (xs ys : List Stop)
    → Leads next (head_or closing ys) xs → Leads next closing ys → Leads next closing (xs ++ ys)
Leads-append next closing [] ys h k = k
Leads-append next closing (x ∷ xs) ys h k =
    (h.0 ∙ sym (head_or-append closing xs ys), Leads-append next closing xs ys h.1 k)

pub Leads-front : (next : ℕ → Option ℕ) (closing : Option ℕ) (xs ys : List Stop)
    → Leads next closing (xs ++ ys) → Leads next (head_or closing ys) xs
Leads-front next closing [] ys h = tt
Leads-front next closing (x ∷ xs) ys h =
    (h.0 ∙ head_or-append closing xs ys, Leads-front next closing xs ys h.1)

pub Leads-back : (next : ℕ → Option ℕ) (closing : Option ℕ) (xs ys : List Stop)
    → Leads next closing (xs ++ ys) → Leads next closing ys
Leads-back next closing [] ys h = h
Leads-back next closing (x ∷ xs) ys h = Leads-back next closing xs ys h.1

pub Leads-ext : (next other : ℕ → Option ℕ) (closing : Option ℕ) (xs : List Stop)
    → AllByRecursion (λ t. next t.ticket ≡ other t.ticket) xs → Leads next closing xs
    → Leads other closing xs
Leads-ext next other closing [] same h = tt
Leads-ext next other closing (x ∷ xs) same h =
    (sym same.0 ∙ h.0, Leads-ext next other closing xs same.1 h.1)

Leads-agree : (next other : ℕ → Option ℕ) (closing : Option ℕ) (xs : List Stop)
    → Leads next closing xs → Leads other closing xs
    → AllByRecursion (λ t. next t.ticket ≡ other t.ticket) xs
Leads-agree next other closing [] h k = tt
Leads-agree next other closing (x ∷ xs) h k =
    (h.0 ∙ sym k.0, Leads-agree next other closing xs h.1 k.1)

-- a list that closes at its own first stop, from another stop on
pub Leads-round : (next : ℕ → Option ℕ) (s : ℕ) (xs : List Stop) → Leads next (head_or None xs) xs
    → Leads next (head_or None (round s xs)) (round s xs)
Leads-round next s xs h =
    turn (before (has_ticket s) xs) (onward (has_ticket s) xs)
    (subst (λ ys. Leads next (head_or None ys) ys) (sym (before_onward (has_ticket s) xs)) h)
  where
    turn : (p q : List Stop) → Leads next (head_or None (p ++ q)) (p ++ q)
        → Leads next (head_or None (q ++ p)) (q ++ p)
    turn [] q k = subst (λ ys. Leads next (head_or None ys) ys) (sym (append-nil q)) k
    turn (x ∷ p) [] k = subst (λ ys. Leads next (head_or None ys) ys) (append-nil (x ∷ p)) k
    turn (x ∷ p) (y ∷ q) k =
        Leads-append next (Some y.ticket) (y ∷ q) (x ∷ p)
        (Leads-back next (Some x.ticket) (x ∷ p) (y ∷ q) k)
        (Leads-front next (Some x.ticket) (x ∷ p) (y ∷ q) k)

-- ---- along all routes

-- where a route closes: a ring at its first stop
abbrev pub closing_of : Route → Option ℕ
closing_of r = cond r.is_ring (head_or None r.stops) None

abbrev pub Links : (ℕ → Option ℕ) → List Route → Type 0
Links next routes = AllByRecursion (λ r. Leads next (closing_of r) r.stops) routes

pub Links-put : (next : ℕ → Option ℕ) (new : Route) (routes : List Route)
    → Leads next (closing_of new) new.stops → Links next routes → Links next (put_route new routes)
Links-put next new routes h links = at (length new.stops == 0)
  where
    at : (b : Bool) → Links next (cond b routes (insert_route new routes))
    at true = links
    at false = all_insert_route (λ r. Leads next (closing_of r) r.stops) new routes h links

pub Links-without : (next : ℕ → Option ℕ) (s : ℕ) (routes : List Route) → Links next routes
    → Links next (without s routes)
Links-without next s routes links =
    all_filter (λ r. Leads next (closing_of r) r.stops) (λ r. not (has_stop s r)) routes links

pub Links-ext : (next other : ℕ → Option ℕ) (routes : List Route)
    → AllByRecursion (λ t. next t.ticket ≡ other t.ticket) (stop_list routes) → Links next routes
    → Links other routes
Links-ext next other [] same links = tt
Links-ext next other (r ∷ routes) same links = (
  Leads-ext next other (closing_of r) r.stops
      (all_front (λ t. next t.ticket ≡ other t.ticket) r.stops (stop_list routes) same) links.0,
  Links-ext next other routes
      (all_back (λ t. next t.ticket ≡ other t.ticket) r.stops (stop_list routes) same) links.1,
)

Links-agree : (next other : ℕ → Option ℕ) (routes : List Route) → Links next routes
    → Links other routes → AllByRecursion (λ t. next t.ticket ≡ other t.ticket) (stop_list routes)
Links-agree next other [] h k = tt
Links-agree next other (r ∷ routes) h k =
    all_append (λ t. next t.ticket ≡ other t.ticket) r.stops (stop_list routes)
    (Leads-agree next other (closing_of r) r.stops h.0 k.0)
    (Links-agree next other routes h.1 k.1)

-- what holds of each stop's ticket holds of a ticket that some stop has
pub all_at : (P : ℕ → Type 0) (ticket : ℕ) (xs : List Stop) → AllByRecursion (λ t. P t.ticket) xs
    → 1 ≤ count_of (has_ticket ticket) xs → P ticket
all_at P ticket [] h some = absurd (omega (arith, some))
all_at P ticket (x ∷ xs) h some = at (x.ticket == ticket) refl some (all_at P ticket xs h.1)
  where
    at : (b : Bool) → (x.ticket == ticket) ≡ b → 1 ≤ cond b 1 0 + count_of (has_ticket ticket) xs
        → (1 ≤ count_of (has_ticket ticket) xs → P ticket) → P ticket
    at true e k behind = subst P (eqb-true x.ticket ticket e) h.0
    at false e k behind = behind (omega (arith, k))

-- each stop is counted
pub all_counted : (xs : List Stop) → AllByRecursion (λ t. 1 ≤ count_of (has_ticket t.ticket) xs) xs
all_counted [] = tt
all_counted (x ∷ xs) = (
  omega (arith, ap {B = ℕ} (λ b. cond b 1 0) (eq-eqb x.ticket x.ticket refl)),
  all_weaker (λ t. 1 ≤ count_of (has_ticket t.ticket) xs)
      (λ t. 1 ≤ count_of (has_ticket t.ticket) (x ∷ xs)) xs (λ t some. omega (arith, some))
      (all_counted xs),
)

-- ---- routes lead as `next_stop` says

pub found_counts : (s : ℕ) (routes : List Route) (r : Route) → route_of routes s ≡ Some r
    → 1 ≤ count_of (has_ticket s) (stop_list routes)
found_counts s [] r e = cc
found_counts s (q ∷ routes) r e = at (has_stop s q) refl e (found_counts s routes r)
  where
    parts : count_of (has_ticket s) (stop_list (q ∷ routes))
        ≡ count_of (has_ticket s) q.stops + count_of (has_ticket s) (stop_list routes)
    parts = total-append (λ t. cond (has_ticket s t) 1 0) q.stops (stop_list routes)

    at : (b : Bool) → has_stop s q ≡ b → cond b (Some q) (route_of routes s) ≡ Some r
        → (route_of routes s ≡ Some r → 1 ≤ count_of (has_ticket s) (stop_list routes))
        → 1 ≤ count_of (has_ticket s) (stop_list (q ∷ routes))
    at true is f h = omega (arith, parts, count-any (has_ticket s) q.stops is)
    at false is f h = omega (arith, parts, h f)

pub found_if_counted : (s : ℕ) (routes : List Route)
    → 1 ≤ count_of (has_ticket s) (stop_list routes) → (r : Route) × (route_of routes s ≡ Some r)
found_if_counted s [] some = absurd (omega (arith, some))
found_if_counted s (q ∷ routes) some = at (has_stop s q) refl (found_if_counted s routes)
  where
    parts : count_of (has_ticket s) (stop_list (q ∷ routes))
        ≡ count_of (has_ticket s) q.stops + count_of (has_ticket s) (stop_list routes)
    parts = total-append (λ t. cond (has_ticket s t) 1 0) q.stops (stop_list routes)

    at : (b : Bool) → has_stop s q ≡ b
        → (1 ≤ count_of (has_ticket s) (stop_list routes)
        → (r : Route) × (route_of routes s ≡ Some r))
        → (r : Route) × (cond b (Some q) (route_of routes s) ≡ Some r)
    at true is h = (q, refl)
    at false is h = h (omega (arith, some, parts, count-none (has_ticket s) q.stops is))

-- each stop's route is the one that it stands on
pub own_route : (routes : List Route) → ((s : ℕ) → count_of (has_ticket s) (stop_list routes) ≤ 1)
    → AllByRecursion (λ r. AllByRecursion (λ t. route_of routes t.ticket ≡ Some r) r.stops) routes
own_route [] once = tt
own_route (q ∷ routes) once = (
  all_weaker (λ t. 1 ≤ count_of (has_ticket t.ticket) q.stops)
      (λ t. route_of (q ∷ routes) t.ticket ≡ Some q) q.stops
      (λ t some. rw (any-count (has_ticket t.ticket) q.stops some) refl)
      (all_counted q.stops),
  all_weaker (λ r. AllByRecursion (λ t. route_of routes t.ticket ≡ Some r) r.stops)
      (λ r. AllByRecursion (λ t. route_of (q ∷ routes) t.ticket ≡ Some r) r.stops) routes
      (λ r own. all_weaker (λ t. route_of routes t.ticket ≡ Some r)
      (λ t. route_of (q ∷ routes) t.ticket ≡ Some r) r.stops (λ t e. other t r e) own)
      (own_route routes (λ s. omega (arith, once s, parts s))),
)
  where
    parts : (s : ℕ) → count_of (has_ticket s) (stop_list (q ∷ routes))
        ≡ count_of (has_ticket s) q.stops + count_of (has_ticket s) (stop_list routes)
    parts s = total-append (λ t. cond (has_ticket s t) 1 0) q.stops (stop_list routes)

    other : (t : Stop) (r : Route) → route_of routes t.ticket ≡ Some r
        → route_of (q ∷ routes) t.ticket ≡ Some r
    other t r e =
        let off : has_stop t.ticket q ≡ false =
        none-count (has_ticket t.ticket) q.stops
        (omega (arith, parts t.ticket, once t.ticket, found_counts t.ticket routes r e)) in
        rw off e

-- along a list that has each ticket once
abbrev next_along : List Stop → Option Stop → ℕ → Option ℕ
next_along xs closing s = ticket_of (option_or (first_item (behind (has_ticket s) xs)) closing)

Leads-next_along : (xs : List Stop) (closing : Option Stop)
    → ((s : ℕ) → count_of (has_ticket s) xs ≤ 1)
    → Leads (next_along xs closing) (ticket_of closing) xs
Leads-next_along [] closing once = tt
Leads-next_along (x ∷ xs) closing once = (
  rw (eq-eqb x.ticket x.ticket refl) (head xs),
  Leads-ext (next_along xs closing) (next_along (x ∷ xs) closing) (ticket_of closing) xs
      (all_weaker (λ t. 1 ≤ count_of (has_ticket t.ticket) xs)
      (λ t. next_along xs closing t.ticket ≡ next_along (x ∷ xs) closing t.ticket) xs
      (λ t some. rw (apart t some) refl) (all_counted xs))
      (Leads-next_along xs closing (λ s. omega (arith, once s))),
)
  where
    head : (ys : List Stop)
        → ticket_of (option_or (first_item ys) closing) ≡ head_or (ticket_of closing) ys
    head [] = refl
    head (y ∷ ys) = refl

    apart : (t : Stop) → 1 ≤ count_of (has_ticket t.ticket) xs → (x.ticket == t.ticket) ≡ false
    apart t some = at (x.ticket == t.ticket) refl
      where
        at : (b : Bool) → (x.ticket == t.ticket) ≡ b → (x.ticket == t.ticket) ≡ false
        at true e = absurd (omega (arith, some, once t.ticket, ap {B = ℕ} (λ c. cond c 1 0) e))
        at false e = e

-- the stops of one route are not more than those of all
pub counts_within : (routes : List Route)
    → AllByRecursion (λ r. (s : ℕ)
    → count_of (has_ticket s) r.stops ≤ count_of (has_ticket s) (stop_list routes)) routes
counts_within [] = tt
counts_within (q ∷ routes) = (
  λ s. omega (arith, parts s),
  all_weaker (λ r. (s : ℕ)
      → count_of (has_ticket s) r.stops ≤ count_of (has_ticket s) (stop_list routes))
      (λ r. (s : ℕ) → count_of (has_ticket s) r.stops
      ≤ count_of (has_ticket s) (stop_list (q ∷ routes))) routes
      (λ r less s. omega (arith, less s, parts s)) (counts_within routes),
)
  where
    parts : (s : ℕ) → count_of (has_ticket s) (stop_list (q ∷ routes))
        ≡ count_of (has_ticket s) q.stops + count_of (has_ticket s) (stop_list routes)
    parts s = total-append (λ t. cond (has_ticket s t) 1 0) q.stops (stop_list routes)

pub all_both : {X : Type 0} (P Q : X → Type 0) (xs : List X) → AllByRecursion P xs
    → AllByRecursion Q xs → AllByRecursion (λ x. P x × Q x) xs
all_both P Q [] h k = tt
all_both P Q (x ∷ xs) h k = ((h.0, k.0), all_both P Q xs h.1 k.1)

pub Links-next_stop : (routes : List Route)
    → ((s : ℕ) → count_of (has_ticket s) (stop_list routes) ≤ 1) → Links (next_stop routes) routes
Links-next_stop routes once =
    all_weaker _ (λ r. Leads (next_stop routes) (closing_of r) r.stops) routes
    (λ r h. along r h.0 h.1)
    (all_both (λ r. AllByRecursion (λ t. route_of routes t.ticket ≡ Some r) r.stops)
    (λ r. (s : ℕ) → count_of (has_ticket s) r.stops
    ≤ count_of (has_ticket s) (stop_list routes)) routes
    (own_route routes once) (counts_within routes))
  where
    closing : (b : Bool) (xs : List Stop)
        → ticket_of (cond b (first_item xs) None) ≡ cond b (head_or None xs) None
    closing true [] = refl
    closing true (x ∷ xs) = refl
    closing false xs = refl

    along : (r : Route) → AllByRecursion (λ t. route_of routes t.ticket ≡ Some r) r.stops
        → ((s : ℕ) → count_of (has_ticket s) r.stops ≤ count_of (has_ticket s) (stop_list routes))
        → Leads (next_stop routes) (closing_of r) r.stops
    along r own less =
        let end : Option Stop = cond r.is_ring (first_item r.stops) None in
        subst (λ c. Leads (next_stop routes) c r.stops) (closing r.is_ring r.stops)
        (Leads-ext (next_along r.stops end) (next_stop routes) (ticket_of end) r.stops
        (all_weaker (λ t. route_of routes t.ticket ≡ Some r)
        (λ t. next_along r.stops end t.ticket ≡ next_stop routes t.ticket) r.stops
        (λ t e. rw e refl) own)
        (Leads-next_along r.stops end (λ s. omega (arith, less s, once s))))

-- what leads along all routes is `next_stop`
pub next_stop-is : (next : ℕ → Option ℕ) (routes : List Route) (s : ℕ)
    → ((t : ℕ) → count_of (has_ticket t) (stop_list routes) ≤ 1) → Links next routes
    → 1 ≤ count_of (has_ticket s) (stop_list routes) → next_stop routes s ≡ next s
next_stop-is next routes s once links some =
    all_at (λ t. next_stop routes t ≡ next t) s (stop_list routes)
    (Links-agree (next_stop routes) next routes (Links-next_stop routes once) links) some

-- ---- another stop behind one

abbrev pub relinked : ℕ → Option ℕ → (ℕ → Option ℕ) → ℕ → Option ℕ
relinked s to next t = cond (t == s) to (next t)

pub apart_relinked : (s : ℕ) (to : Option ℕ) (next : ℕ → Option ℕ) (xs : List Stop)
    → count_of (has_ticket s) xs ≡ 0
    → AllByRecursion (λ t. next t.ticket ≡ relinked s to next t.ticket) xs
apart_relinked s to next [] none = tt
apart_relinked s to next (x ∷ xs) none =
    (at (x.ticket == s) refl, apart_relinked s to next xs (omega (arith, none)))
  where
    at : (b : Bool) → (x.ticket == s) ≡ b → next x.ticket ≡ cond b to (next x.ticket)
    at true e = absurd (omega (arith, none, ap {B = ℕ} (λ c. cond c 1 0) e))
    at false e = refl

pub Links-apart : (s : ℕ) (to : Option ℕ) (next : ℕ → Option ℕ) (routes : List Route)
    → count_of (has_ticket s) (stop_list routes) ≡ 0 → Links next routes
    → Links (relinked s to next) routes
Links-apart s to next routes none links =
    Links-ext next (relinked s to next) routes (apart_relinked s to next (stop_list routes) none)
    links

-- a list whose last stop is `s` closes where `s` leads
pub Leads-end : (s : ℕ) (to : Option ℕ) (next : ℕ → Option ℕ) (closing : Option ℕ) (xs : List Stop)
    → Leads next closing xs → 1 ≤ count_of (has_ticket s) xs → next s ≡ None
    → Leads (relinked s to next) to xs
Leads-end s to next closing [] h some none = tt
Leads-end s to next closing (x ∷ xs) h some none =
    at (x.ticket == s) refl (Leads-end s to next closing xs h.1)
  where
    at : (b : Bool) → (x.ticket == s) ≡ b
        → (1 ≤ count_of (has_ticket s) xs → next s ≡ None → Leads (relinked s to next) to xs)
        → (cond b to (next x.ticket) ≡ head_or to xs)
        × Leads (relinked s to next) to xs
    at true e behind = last xs (sym h.0 ∙ ap next (eqb-true x.ticket s e) ∙ none)
      where
        last : (ys : List Stop) → head_or closing ys ≡ None
            → (to ≡ head_or to ys) × Leads (relinked s to next) to ys
        last [] f = (refl, tt)
        last (y ∷ ys) f = cc
    at false e behind =
        let more : 1 ≤ count_of (has_ticket s) xs =
        omega (arith, some, ap {B = ℕ} (λ c. cond c 1 0) e) in
        (h.0 ∙ heads xs more, behind more none)
      where
        heads : (ys : List Stop) → 1 ≤ count_of (has_ticket s) ys
            → head_or closing ys ≡ head_or to ys
        heads [] k = absurd (omega (arith, k))
        heads (y ∷ ys) k = refl

-- the stops up to `s` close where `s` leads
pub Leads-up_to : (s : ℕ) (to : Option ℕ) (next : ℕ → Option ℕ) (closing : Option ℕ)
    (xs : List Stop) → Leads next closing (up_to (has_ticket s) xs) → 1 ≤ count_of (has_ticket s) xs
    → Leads (relinked s to next) to (up_to (has_ticket s) xs)
Leads-up_to s to next closing [] h some = tt
Leads-up_to s to next closing (x ∷ xs) h some =
    at (x.ticket == s) refl h (Leads-up_to s to next closing xs)
  where
    at : (b : Bool) → (x.ticket == s) ≡ b
        → Leads next closing (cond b (x ∷ []) (x ∷ up_to (has_ticket s) xs))
        → (Leads next closing (up_to (has_ticket s) xs) → 1 ≤ count_of (has_ticket s) xs
        → Leads (relinked s to next) to (up_to (has_ticket s) xs))
        → Leads (relinked s to next) to (cond b (x ∷ []) (x ∷ up_to (has_ticket s) xs))
    at true e k behind = (rw e refl, tt)
    at false e k behind =
        let more : 1 ≤ count_of (has_ticket s) xs =
        omega (arith, some, ap {B = ℕ} (λ c. cond c 1 0) e) in
        let first : next x.ticket ≡ head_or to (up_to (has_ticket s) xs) = k.0 ∙ heads xs more in
        (rw e first, behind k.1 more)
      where
        heads : (ys : List Stop) → 1 ≤ count_of (has_ticket s) ys
            → head_or closing (up_to (has_ticket s) ys) ≡ head_or to (up_to (has_ticket s) ys)
        heads [] some_ys = absurd (omega (arith, some_ys))
        heads (y ∷ ys) some_ys = by (y.ticket == s)
          where
            by : (b : Bool) → head_or closing (cond b (y ∷ []) (y ∷ up_to (has_ticket s) ys))
                ≡ head_or to (cond b (y ∷ []) (y ∷ up_to (has_ticket s) ys))
            by true = refl
            by false = refl

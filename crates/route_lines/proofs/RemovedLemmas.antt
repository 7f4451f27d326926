-- Lists without the items of a ticket, and items whose references to it are gone.
use Rattle.std.proofs.Common.{◌≡◌, ◌∙◌, sym, ap, subst, refl, Bool, true, false, ◌==◌, ℕ, ◌+◌, ◌<◌}
use Rattle.std.proofs.Common.{◌≤◌, List, [], ◌∷◌, ◌++◌, length, Option, Some, None, IfSome, cond}
use Rattle.std.proofs.Common.{not, map, filter, find, option_map, arith}
use Rattle.std.specs.List.{AllByRecursion}
use Rattle.std.proofs.lemmas.Bool.{eq-eqb, eqb-true, false≢true}
use Rattle.std.proofs.lemmas.List.{length-map, map-append}
use Rattle.route_lines.specs.Calls.{unless_is, clear_stop, clear_route}
use Rattle.route_lines.specs.Number.{IsNumber}
use Rattle.route_lines.specs.Routes.{has_ticket, first_ticket}
use Rattle.route_lines.specs.Sound.{IsBefore, PlacesRise, RoutesRise, MarksRise, total, count_of}
use Rattle.route_lines.specs.Sound.{IsWritten, AreWritten}
use Rattle.route_lines.specs.State.{Place, Stop, Route, Mark, stop_list}
use Rattle.route_lines.specs.CutLaws.{all_filter, length-total}

-- ---- without the items of a ticket

pub total-filter : {X : Type 0} (weight : X → ℕ) (test : X → Bool) (xs : List X)
    → total weight (filter (λ x. not (test x)) xs) + total (λ x. cond (test x) (weight x) 0) xs
    ≡ total weight xs
total-filter weight test [] = refl
total-filter {X} weight test (x ∷ xs) = at (test x) (total-filter weight test xs)
  where
    rest : List X
    rest = filter (λ y. not (test y)) xs

    at : (b : Bool) → total weight rest + total (λ y. cond (test y) (weight y) 0) xs
        ≡ total weight xs
        → total weight (cond (not b) (x ∷ rest) rest) + (cond b (weight x) 0 + total
        (λ y. cond (test y) (weight y) 0) xs) ≡ weight x + total weight xs
    at true h = omega (arith, h)
    at false h = omega (arith, h)

pub length-filter : {X : Type 0} (test : X → Bool) (xs : List X)
    → length (filter (λ x. not (test x)) xs) + count_of test xs ≡ length xs
length-filter test xs =
    omega (
      arith,
      total-filter (λ x. 1) test xs,
      length-total (filter (λ x. not (test x)) xs),
      length-total xs,
    )

-- nothing is found under the ticket, and what was under every other one
pub find-filter : {X : Type 0} (ticket : X → ℕ) (t k : ℕ) (xs : List X)
    → find (λ x. ticket x == k) (filter (λ x. not (ticket x == t)) xs)
    ≡ cond (k == t) None (find (λ x. ticket x == k) xs)
find-filter ticket t k [] = at (k == t)
  where
    at : (b : Bool) → find (λ x. ticket x == k) [] ≡ cond b None (find (λ x. ticket x == k) [])
    at true = refl
    at false = refl
find-filter {X} ticket t k (x ∷ xs) =
    at (ticket x == t) (ticket x == k) (k == t) refl refl refl (find-filter ticket t k xs)
  where
    rest : List X
    rest = filter (λ y. not (ticket y == t)) xs

    found : List X → Option X
    found ys = find (λ y. ticket y == k) ys

    at : (a b c : Bool) → (ticket x == t) ≡ a → (ticket x == k) ≡ b → (k == t) ≡ c
        → found rest ≡ cond c None (found xs)
        → found (cond (not a) (x ∷ rest) rest) ≡ cond c None (cond b (Some x) (found xs))
    at true b true ea eb ec h = h
    at true true false ea eb ec h =
        absurd (false≢true (sym ec
        ∙ eq-eqb k t (sym (eqb-true (ticket x) k eb) ∙ eqb-true (ticket x) t ea)))
    at true false false ea eb ec h = h
    at false true true ea eb ec h =
        absurd (false≢true (sym ea
        ∙ eq-eqb (ticket x) t (eqb-true (ticket x) k eb ∙ eqb-true k t ec)))
    at false true false ea eb ec h = rw eb refl
    at false false c ea eb ec h = rw eb h

pub PlacesRise-filter : (test : Place → Bool) (places : List Place) → PlacesRise places
    → PlacesRise (filter test places)
PlacesRise-filter test [] h = tt
PlacesRise-filter test (p ∷ places) h = at (test p) (PlacesRise-filter test places h.1)
  where
    at : (b : Bool) → PlacesRise (filter test places)
        → PlacesRise (cond b (p ∷ filter test places) (filter test places))
    at true rise = (all_filter (IsBefore p) test places h.0, rise)
    at false rise = rise

pub MarksRise-filter : (test : Mark → Bool) (marks : List Mark) → MarksRise marks
    → MarksRise (filter test marks)
MarksRise-filter test [] h = tt
MarksRise-filter test (m ∷ marks) h = at (test m) (MarksRise-filter test marks h.1)
  where
    at : (b : Bool) → MarksRise (filter test marks)
        → MarksRise (cond b (m ∷ filter test marks) (filter test marks))
    at true rise = (all_filter (λ n. m.ticket < n.ticket) test marks h.0, rise)
    at false rise = rise

-- ---- each item changed, but for its ticket

pub all_map : {X : Type 0} (P Q : X → Type 0) (f : X → X) (xs : List X) → ((x : X) → P x → Q (f x))
    → AllByRecursion P xs → AllByRecursion Q (map f xs)
all_map P Q f [] change h = tt
all_map P Q f (x ∷ xs) change h = (change x h.0, all_map P Q f xs change h.1)

pub total-map : {X : Type 0} (weight : X → ℕ) (f : X → X) (xs : List X)
    → total weight (map f xs) ≡ total (λ x. weight (f x)) xs
total-map weight f [] = refl
total-map weight f (x ∷ xs) = omega (arith, total-map weight f xs)

pub find-map : {X : Type 0} (ticket : X → ℕ) (f : X → X) (k : ℕ) (xs : List X)
    → ((x : X) → ticket (f x) ≡ ticket x)
    → find (λ x. ticket x == k) (map f xs) ≡ option_map f (find (λ x. ticket x == k) xs)
find-map ticket f k [] same = refl
find-map ticket f k (x ∷ xs) same = rw (same x) (at (ticket x == k) (find-map ticket f k xs same))
  where
    at : (b : Bool) → find (λ y. ticket y == k) (map f xs)
        ≡ option_map f (find (λ y. ticket y == k) xs)
        → cond b (Some (f x)) (find (λ y. ticket y == k) (map f xs))
        ≡ option_map f (cond b (Some x) (find (λ y. ticket y == k) xs))
    at true h = refl
    at false h = h

pub MarksRise-map : (f : Mark → Mark) (marks : List Mark) → ((m : Mark) → (f m).ticket ≡ m.ticket)
    → MarksRise marks → MarksRise (map f marks)
MarksRise-map f [] same h = tt
MarksRise-map f (m ∷ marks) same h = (
  all_map (λ n. m.ticket < n.ticket) (λ n. (f m).ticket < n.ticket) f marks
      (λ n less. omega (arith, less, same m, same n)) h.0,
  MarksRise-map f marks same h.1,
)

-- a reference that may be gone is a number still
pub number-unless_is : (t : ℕ) (o : Option ℕ) → IfSome o IsNumber → IfSome (unless_is t o) IsNumber
number-unless_is t None small = tt
number-unless_is t (Some u) small = at (u == t)
  where
    at : (b : Bool) → IfSome (cond b None (Some u)) IsNumber
    at true = tt
    at false = small

-- ---- routes whose stops may lose their place

pub stop_list-cleared : (t : ℕ) (routes : List Route)
    → stop_list (map (clear_route t) routes) ≡ map (clear_stop t) (stop_list routes)
stop_list-cleared t [] = refl
stop_list-cleared t (r ∷ routes) =
    ap (λ xs. map (clear_stop t) r.stops ++ xs) (stop_list-cleared t routes)
    ∙ sym (map-append (clear_stop t) r.stops (stop_list routes))

pub all_cleared : (P Q : Stop → Type 0) (t : ℕ) (routes : List Route)
    → ((x : Stop) → P x → Q (clear_stop t x)) → AllByRecursion P (stop_list routes)
    → AllByRecursion Q (stop_list (map (clear_route t) routes))
all_cleared P Q t routes change h =
    subst (AllByRecursion Q) (sym (stop_list-cleared t routes))
    (all_map P Q (clear_stop t) (stop_list routes) change h)

pub total-cleared : (weight : Stop → ℕ) (t : ℕ) (routes : List Route)
    → total weight (stop_list (map (clear_route t) routes))
    ≡ total (λ x. weight (clear_stop t x)) (stop_list routes)
total-cleared weight t routes = ap (total weight) (stop_list-cleared t routes)
    ∙ total-map weight (clear_stop t) (stop_list routes)

pub length-cleared : (t : ℕ) (routes : List Route)
    → length (stop_list (map (clear_route t) routes)) ≡ length (stop_list routes)
length-cleared t routes = ap length (stop_list-cleared t routes)
    ∙ length-map (stop_list routes) (clear_stop t)

first-cleared : (t : ℕ) (r : Route) → first_ticket (clear_route t r) ≡ first_ticket r
first-cleared t r = at r.is_ring r.stops
  where
    at : (b : Bool) (stops : List Stop)
        → first_ticket (clear_route t (record { is_ring = b; stops = stops }))
        ≡ first_ticket (record { is_ring = b; stops = stops })
    at b [] = refl
    at b (x ∷ stops) = refl

IsWritten-cleared : (t : ℕ) (r : Route) → IsWritten r → IsWritten (clear_route t r)
IsWritten-cleared t r is = record {
  some = omega (arith, is.some, length-map r.stops (clear_stop t));
  from_smallest = λ ring. subst
      (λ k. AllByRecursion (λ x. k ≤ x.ticket) (map (clear_stop t) r.stops))
      (sym (first-cleared t r))
      (all_map (λ x. first_ticket r ≤ x.ticket) (λ x. first_ticket r ≤ x.ticket) (clear_stop t)
      r.stops (λ x less. less) (is.from_smallest ring));
}

RoutesRise-cleared : (t : ℕ) (routes : List Route) → RoutesRise routes
    → RoutesRise (map (clear_route t) routes)
RoutesRise-cleared t [] h = tt
RoutesRise-cleared t (r ∷ routes) h = (
  all_map (λ q. first_ticket r < first_ticket q)
      (λ q. first_ticket (clear_route t r) < first_ticket q) (clear_route t) routes
      (λ q less. omega (arith, less, first-cleared t r, first-cleared t q)) h.0,
  RoutesRise-cleared t routes h.1,
)

pub AreWritten-cleared : (t : ℕ) (routes : List Route) → AreWritten routes
    → AreWritten (map (clear_route t) routes)
AreWritten-cleared t routes written = record {
  once = λ k. omega (
    arith,
    written.once k,
    total-cleared (λ x. cond (has_ticket k x) 1 0) t routes,
  );
  each = all_map IsWritten IsWritten (clear_route t) routes (IsWritten-cleared t) written.each;
  rise = RoutesRise-cleared t routes written.rise;
}

-- What every state of a store keeps.
use Rattle.std.specs.Prelude.{◌≡◌, ◌==◌, ℕ, ◌+◌, ◌<◌, ◌≤◌, Bool, true, List, [], ◌∷◌, IfSome}
use Rattle.std.specs.Prelude.{if◌then◌else◌, length}
use Rattle.std.specs.List.{AllByRecursion}
use Rattle.route_lines.specs.Number.{IsNumber}
use Rattle.route_lines.specs.Routes.{has_ticket, first_ticket}
use Rattle.route_lines.specs.State.{State, Place, Route, Mark, stop_list}
use Rattle.route_lines.specs.Word.{IsWord}
use Rattle.route_lines.specs.declared.change.Change.{Change}
use Rattle.route_lines.specs.declared.change.Change.TheVariants.{Open, Place as PlaceChange}
use Rattle.route_lines.specs.declared.change.Change.TheVariants.{Word as WordChange, Start, Extend}
use Rattle.route_lines.specs.declared.change.Change.TheVariants.{Join, Cut, Swap}
use Rattle.route_lines.specs.declared.change.Change.TheVariants.{Mark as MarkChange, Remove, Move}

-- a place stands before another: by its key, or under the same key by its ticket
pub record IsBefore (p q : Place) : Type 0 where
  pub key : p.key ≤ q.key
  pub ticket : p.key ≡ q.key → p.ticket < q.ticket

-- each place stands before those behind it
abbrev pub PlacesRise : List Place → Type 0
PlacesRise [] = Unit {0}
PlacesRise (p ∷ places) = AllByRecursion (IsBefore p) places × PlacesRise places

-- the first ticket of each route, and the ticket of each mark, is below those behind it
abbrev pub RoutesRise : List Route → Type 0
RoutesRise [] = Unit {0}
RoutesRise (r ∷ routes) = AllByRecursion (λ q. first_ticket r < first_ticket q) routes
    × RoutesRise routes

abbrev pub MarksRise : List Mark → Type 0
MarksRise [] = Unit {0}
MarksRise (m ∷ marks) = AllByRecursion (λ n. m.ticket < n.ticket) marks × MarksRise marks

-- what the items weigh together
abbrev pub total : {X : Type 0} → (X → ℕ) → List X → ℕ
total weight [] = 0
total weight (x ∷ xs) = weight x + total weight xs

-- how many of the items pass the test
abbrev pub count_of : {X : Type 0} → (X → Bool) → List X → ℕ
count_of test xs = total (λ x. if test x then 1 else 0) xs

-- how many living items have the ticket
abbrev pub holders : State → ℕ → ℕ
holders s ticket =
    count_of (λ p. p.ticket == ticket) s.places
    + count_of (has_ticket ticket) (stop_list s.routes)
    + count_of (λ m. m.ticket == ticket) s.marks

-- a route has a stop, and a ring is written from its smallest ticket
pub record IsWritten (r : Route) : Type 0 where
  pub some : 0 < length r.stops
  pub from_smallest : r.is_ring ≡ true → AllByRecursion (λ t. first_ticket r ≤ t.ticket) r.stops

-- no stop's ticket stands twice on these routes, each is written as it should be, and so is their
-- list
pub record AreWritten (routes : List Route) : Type 0 where
  pub once : (ticket : ℕ) → count_of (has_ticket ticket) (stop_list routes) ≤ 1
  pub each : AllByRecursion IsWritten routes
  pub rise : RoutesRise routes

-- tickets were given and no two items have one, the places rise, words are words, the routes and
-- marks are written in their order, and no more items of a kind live than their room holds
pub record IsSound (s : State) : Type 0 where
  pub given : AllByRecursion (λ p. (0 < p.ticket) × (p.ticket ≤ s.last)) s.places
  pub given_stops : AllByRecursion (λ t. (0 < t.ticket) × (t.ticket ≤ s.last)) (stop_list s.routes)
  pub given_marks : AllByRecursion (λ m. (0 < m.ticket) × (m.ticket ≤ s.last)) s.marks
  pub once : (ticket : ℕ) → holders s ticket ≤ 1
  pub order : PlacesRise s.places
  pub words : AllByRecursion (λ p. IsWord p.word) s.places
  pub routes : AreWritten s.routes
  pub marks : MarksRise s.marks
  pub fits : length s.places ≤ s.rooms.places
  pub stops_fit : length (stop_list s.routes) ≤ s.rooms.stops
  pub marks_fit : length s.marks ≤ s.rooms.marks

-- the last ticket, every key and every ticket that is named are below 2^64
pub record IsNumbered (s : State) : Type 0 where
  pub last : IsNumber s.last
  pub keys : AllByRecursion (λ p. IsNumber p.key) s.places
  pub stops : AllByRecursion (λ t. IfSome t.place IsNumber) (stop_list s.routes)
  pub marks : AllByRecursion (λ m. IfSome m.place IsNumber × IfSome m.stop IsNumber) s.marks

-- a change that can be: its numbers are below 2^64, its word is a word, and its rooms hold what
-- lives
abbrev pub IsPossible : State → Change → Type 0
IsPossible s (Open places stops marks last) = IsNumber last
IsPossible s (PlaceChange key word) = IsNumber key × IsWord word.now
IsPossible s (WordChange ticket word) = IsWord word.now
IsPossible s (Start at) = Unit {0}
IsPossible s (Extend t at) = Unit {0}
IsPossible s (Join t u) = Unit {0}
IsPossible s (Cut t) = Unit {0}
IsPossible s (Swap t u) = Unit {0}
IsPossible s (MarkChange at t) = Unit {0}
IsPossible s (Remove t) = Unit {0}
IsPossible s (Move places stops marks) =
    (length s.places ≤ places) × ((length (stop_list s.routes) ≤ stops) × (length s.marks ≤ marks))

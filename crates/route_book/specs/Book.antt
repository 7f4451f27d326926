-- What a contract sees of a store, and what ties its parts.
use Rattle.std.specs.Prelude.{◌≡◌, ℕ, ◌+◌, ◌≤◌, List, [], ◌∷◌, ◌++◌, length, map, Option}
use Rattle.std.specs.Prelude.{Some, None, Result, Ok, IfErr}
use Rattle.triple_arena.specs.Content.{Content, entry_at, live_count, arena_capacity}
use Rattle.triple_arena.specs.Entries.{value_if}
use Rattle.triple_arena_chain.specs.LinkShape.{IndexLink}
use Rattle.triple_arena_chain.specs.Links.{ends_in, values_in}
use Rattle.triple_arena_ord.specs.Ordered.{Ordered, entry_in, ordered_entries, size_in}
use Rattle.ticket_book.specs.Tickets.{Entry}
use Rattle.route_lines.specs.Calls.{place_holder, stop_holder}
use Rattle.route_lines.specs.declared.refusal.Refusal.{Refusal}
use Rattle.route_lines.specs.Sound.{PlacesRise}
use Rattle.route_lines.specs.State.{State, Rooms, Place, Mark, mark_of, stop_list}
use Rattle.route_book.specs.Item.{StopView, MarkView}
use Rattle.route_book.specs.Holds.{Found, IsHeld, state_stop}

-- the state, and what the arenas hold
pub record Book : Type 0 where
  pub state : State
  pub places : Ordered Place
  pub stops : Content (IndexLink StopView)
  pub marks : Content MarkView

-- no two marks have one ticket
abbrev pub MarksDiffer : List Mark → Type 0
MarksDiffer [] = Unit {0}
MarksDiffer (m ∷ marks) = (mark_of marks m.ticket ≡ None) × MarksDiffer marks

-- an item at an index where none was has this generation
abbrev pub NewHave : {T : Type 0} → ℕ → (ℕ → Option (ℕ × T)) → (ℕ → Option (ℕ × T)) → Type 0
NewHave {T} n old new = (i g : ℕ) (x : T) → old i ≡ None → new i ≡ Some (g, x) → g ≡ n

abbrev pub as_book : State → Ordered Place → Content (IndexLink StopView)
    → Content MarkView → Book
as_book s places stops marks = record { state = s; places = places; stops = stops; marks = marks }

abbrev pub found_in : Ordered Place → Content (IndexLink StopView) → Content MarkView → Found
found_in places stops marks = record {
  places = entry_in places;
  stops = values_in stops;
  marks = entry_at marks;
  place_counter = places.chains.counter;
  stop_counter = stops.counter;
}

-- what the pointers of a store find
abbrev pub found_of : Book → Found
found_of b = found_in b.places b.stops b.marks

-- the places along the list of their arena
abbrev pub in_order : Ordered Place → List Place
in_order o = map (λ x. x.1.1) (ordered_entries o)

-- a pointer finds the place that has the ticket
abbrev pub FindsPlace : Book → ℕ → ℕ → ℕ → Type 0
FindsPlace b ticket i g = (p : Place) × (value_if g (entry_in b.places i) ≡ Some p)
    × (place_holder b.state ticket ≡ Ok p)

-- a pointer finds the stop that has the ticket
abbrev pub FindsStop : Book → ℕ → ℕ → ℕ → Type 0
FindsStop b ticket i g = (t : StopView) × (value_if g (values_in b.stops i) ≡ Some t)
    × (stop_holder b.state ticket ≡ Ok (state_stop (found_of b) t))

-- this holds of the places before and behind the one that a pointer finds, along the list
abbrev pub IfBetween : ℕ → ℕ → Ordered Place → (List Place → List Place → Type 0) → Type 0
IfBetween i g places Holds = (front back : List Place) (p : Place)
    → value_if g (entry_in places i) ≡ Some p → in_order places ≡ front ++ p ∷ back
    → Holds front back

-- no more items than the rooms, and place for as many
pub record IsWithin (rooms : Rooms) (s : State) (places : Ordered Place)
    (stops : Content (IndexLink StopView)) (marks : Content MarkView) : Type 0 where
  pub rooms_are : s.rooms ≡ rooms
  pub place_count : length s.places ≡ size_in places
  pub stop_count : length (stop_list s.routes) ≡ live_count stops
  pub mark_count : length s.marks ≡ live_count marks
  pub places_fit : size_in places ≤ rooms.places
  pub stops_fit : live_count stops ≤ rooms.stops
  pub marks_fit : live_count marks ≤ rooms.marks
  pub place_room : rooms.places ≤ arena_capacity places.chains
  pub stop_room : rooms.stops ≤ arena_capacity stops
  pub mark_room : rooms.marks ≤ arena_capacity marks

pub record IsBook (rooms : Rooms) (last : ℕ) (s : State)
    (places : Ordered Place) (stops : Content (IndexLink StopView)) (marks : Content MarkView)
    (book : List Entry)
    : Type 0 where
  pub held : IsHeld s (found_in places stops marks) (in_order places)
      (ends_in stops) book
  pub places_rise : PlacesRise s.places
  pub within : IsWithin rooms s places stops marks
  pub last_is : s.last ≡ last
  pub entries : length book ≡ size_in places + live_count stops + live_count marks
  pub marks_differ : MarksDiffer s.marks

-- the rooms of the three arenas stay
pub record KeepsRooms (old new : Book) : Type 0 where
  pub places : new.places.chains.room ≡ old.places.chains.room
  pub stops : new.stops.room ≡ old.stops.room
  pub marks : new.marks.room ≡ old.marks.room

-- each item keeps its pointer, a place its ticket and its key, and a stop and a mark all that
-- they hold. One that is new has the generation of its arena's counter. The counters and the
-- rooms stay
pub record KeepsItems (old new : Book) : Type 0 where
  pub places : (i g : ℕ) (p : Place) → entry_in old.places i ≡ Some (g, p)
      → (q : Place) × ((entry_in new.places i ≡ Some (g, q))
      × ((q.ticket ≡ p.ticket) × (q.key ≡ p.key)))
  pub stops : (i g : ℕ) (t : StopView) → values_in old.stops i ≡ Some (g, t)
      → values_in new.stops i ≡ Some (g, t)
  pub marks : (i g : ℕ) (m : MarkView) → entry_at old.marks i ≡ Some (g, m)
      → entry_at new.marks i ≡ Some (g, m)
  pub new_places : NewHave old.places.chains.counter (entry_in old.places) (entry_in new.places)
  pub new_stops : NewHave old.stops.counter (values_in old.stops) (values_in new.stops)
  pub new_marks : NewHave old.marks.counter (entry_at old.marks) (entry_at new.marks)
  pub place_counter : new.places.chains.counter ≡ old.places.chains.counter
  pub stop_counter : new.stops.counter ≡ old.stops.counter
  pub mark_counter : new.marks.counter ≡ old.marks.counter
  pub rooms : KeepsRooms old new

-- a call that gives this result and leaves this state: items keep their pointers, and a refusal
-- changes nothing
pub record Changes {A : Type 0} (given : Result A Refusal) (left : State)
    (result : Result A Refusal) (old new : Book) : Type 0 where
  pub gives : result ≡ given
  pub leaves : new.state ≡ left
  pub kept : KeepsItems old new
  pub refused : IfErr result (λ _. new ≡ old)

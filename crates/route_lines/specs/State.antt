-- What a store holds: plain lists under tickets. No pointer, no slot, no order of memory.
use Rattle.std.specs.Prelude.{ℕ, ◌==◌, ◌||◌, Bool, List, [], Option, Result, Err, if◌then◌else◌}
use Rattle.std.specs.Prelude.{nat_lt, nat_le, find, flat_map, length}
use Rattle.std.specs.Option.{option_map, option_or, ok_or}
use Rattle.route_lines.specs.declared.refusal.Refusal.{Refusal}
use Rattle.route_lines.specs.declared.refusal.Refusal.TheVariants.{Unknown, Gone}

-- how many places, stops and marks may live at one time
pub record Rooms : Type 0 where
  pub places : ℕ
  pub stops : ℕ
  pub marks : ℕ

pub record Place : Type 0 where
  pub ticket : ℕ
  pub key : ℕ
  pub word : List ℕ

-- a stop names a place by its ticket, or nothing where that place is gone
pub record Stop : Type 0 where
  pub ticket : ℕ
  pub place : Option ℕ

-- a ring is written from its smallest ticket
pub record Route : Type 0 where
  pub is_ring : Bool
  pub stops : List Stop

-- a mark names a place and a stop
pub record Mark : Type 0 where
  pub ticket : ℕ
  pub place : Option ℕ
  pub stop : Option ℕ

-- the rooms, the last ticket given, the places in the order of their keys, and under one key of
-- their tickets, the routes in the order of their first tickets, the marks in the order of their
-- tickets
pub record State : Type 0 where
  pub rooms : Rooms
  pub last : ℕ
  pub places : List Place
  pub routes : List Route
  pub marks : List Mark

-- a living item
pub data Item : Type 0 where
  place : Place → Item
  stop : Stop → Item
  mark : Mark → Item

-- the first place that has the key
abbrev pub with_key : ℕ → List Place → Option Place
with_key key places = find (λ p. p.key == key) places

-- the stops of all routes
abbrev pub stop_list : List Route → List Stop
stop_list routes = flat_map (λ r. r.stops) routes

-- the place, the stop and the mark that has the ticket
abbrev pub place_of : List Place → ℕ → Option Place
place_of places ticket = find (λ p. p.ticket == ticket) places

abbrev pub stop_of : List Route → ℕ → Option Stop
stop_of routes ticket = find (λ t. t.ticket == ticket) (stop_list routes)

abbrev pub mark_of : List Mark → ℕ → Option Mark
mark_of marks ticket = find (λ m. m.ticket == ticket) marks

-- the living item that has the ticket
abbrev pub living : State → ℕ → Option Item
living s ticket =
    option_or (option_map place (place_of s.places ticket))
    (option_or (option_map stop (stop_of s.routes ticket))
    (option_map mark (mark_of s.marks ticket)))

-- the item that has the ticket: a ticket is unknown where it was never given, and gone where its
-- item has ended
abbrev pub holder : State → ℕ → Result Item Refusal
holder s ticket =
    if (ticket == 0) || nat_lt s.last ticket then Err Unknown else ok_or (living s ticket) Gone

-- the last ticket there is
abbrev pub last_ticket : ℕ
last_ticket = 18446744073709551615

-- no place, stop or mark more: as many live as the room holds, or every ticket was given
abbrev pub is_full_of_places : State → Bool
is_full_of_places s = nat_le s.rooms.places (length s.places) || (s.last == last_ticket)

abbrev pub is_full_of_stops : State → Bool
is_full_of_stops s = nat_le s.rooms.stops (length (stop_list s.routes)) || (s.last == last_ticket)

abbrev pub is_full_of_marks : State → Bool
is_full_of_marks s = nat_le s.rooms.marks (length s.marks) || (s.last == last_ticket)

-- the same items and tickets in other rooms
abbrev pub in_rooms : Rooms → State → State
in_rooms rooms s = record s { rooms = rooms }

-- a store with nothing in it
abbrev pub empty : Rooms → ℕ → State
empty rooms last = record { rooms = rooms; last = last; places = []; routes = []; marks = [] }

-- a store with no room
abbrev pub nothing : State
nothing = empty (record { places = 0; stops = 0; marks = 0 }) 0

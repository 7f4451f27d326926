-- Which rooms are refused if the memory is there, and which ones the arenas of a new store have.
use Rattle.std.specs.Prelude.{◌≡◌, ℕ, ◌==◌, ◌<◌, Bool, false, Option, Some, None, IsTrue}
use Rattle.std.specs.Prelude.{if◌then◌else◌, nat_lt}
use Rattle.triple_arena_ptr.specs.Generation.{second_generation, next_generation}
use Rattle.triple_arena_ptr.specs.Index.{max_index_of}
use Rattle.triple_arena_stack.specs.Room.{Room}
use Rattle.triple_arena.specs.ArenaRoom.{room_of}
use Rattle.route_lines.specs.State.{Rooms}
use Rattle.route_lines.specs.declared.refusal.RoomError.{RoomError}
use Rattle.route_lines.specs.declared.refusal.RoomError.TheVariants.{Generation, Index, Stack}
use Rattle.route_lines.specs.declared.refusal.RoomError.TheVariants.{Memory}
use Rattle.route_book.specs.Book.{Book}

-- rooms for so many places, stops and marks
abbrev pub rooms_for : ℕ → ℕ → ℕ → Rooms
rooms_for places stops marks = record { places = places; stops = stops; marks = marks }

-- the generations do not count to 3
abbrev pub counts_short : Option ℕ → Bool
counts_short last = next_generation last (second_generation last) == second_generation last

-- the number is past the limit
abbrev pub is_past : Option ℕ → ℕ → Bool
is_past None n = false
is_past (Some limit) n = nat_lt limit n

-- why rooms for so many items in all are refused: over generations up to `last`, indexes up to
-- `greatest`, and stacks with this limit
abbrev pub refusal_of : Option ℕ → ℕ → Option ℕ → ℕ → Option RoomError
refusal_of last greatest limit total =
    if counts_short last then Some Generation
    else if nat_lt (max_index_of greatest) total then Some Index
    else if is_past limit total then Some Stack
    else None

-- memory was refused: the stacks take some, and there is room for an item
abbrev pub IsShortOfMemory : RoomError → Bool → ℕ → Type 0
IsShortOfMemory refusal takes total = (refusal ≡ Memory) × IsTrue takes × (0 < total)

-- the arenas have the rooms that stacks are made with for so many places, stops and marks, over
-- indexes up to `greatest`
pub record HasRooms (greatest : ℕ) (room : ℕ → Room) (rooms : Rooms) (b : Book) : Type 0 where
  pub places : b.places.chains.room ≡ room_of greatest (room rooms.places)
  pub stops : b.stops.room ≡ room_of greatest (room rooms.stops)
  pub marks : b.marks.room ≡ room_of greatest (room rooms.marks)

-- The room of an arena, in that of its stack.
use Rattle.std.specs.Prelude.{ℕ, ◌-◌, ◌^◌, Option, Some, None, min, nat_lt, nat_le, if◌then◌else◌}
use Rattle.triple_arena_ptr.specs.Index.{max_index_of}
use Rattle.triple_arena_stack.specs.Room.{Room, capacity, with_reserved}

-- the greatest capacity of an arena over a stack with this limit, if there is one: every entry has
-- an index of the pointer's type, of which this is the greatest
abbrev pub index_limit : ℕ → Option ℕ → Option ℕ
index_limit greatest (Some limit) = Some (min limit (max_index_of greatest))
index_limit greatest None = if nat_lt greatest (2 ^ 64 - 1) then Some greatest else None

-- the room of an arena over a stack with this room
abbrev pub room_of : ℕ → Room → Room
room_of greatest room = record { reserved = room.reserved; limit = index_limit greatest room.limit }

-- the room with at least this capacity: the same, or exactly so many slots where there are less
abbrev pub room_with : ℕ → Room → Room
room_with least room = if nat_le least (capacity room) then room else with_reserved room least

-- The numbers of a store over pointers of 64 bits, and what its stacks are made with.
use Rattle.std.specs.Prelude.{ℕ, ◌-◌, ◌^◌, None}
use Rattle.triple_arena_stack.specs.Room.{Room}
use Rattle.route_lines.specs.declared.refusal.RoomError.{RoomError}
use Rattle.route_lines.specs.declared.refusal.RoomError.TheVariants.{Memory}

-- the greatest index, and so the greatest number of items of all kinds together; the greatest
-- generation too
abbrev pub greatest : ℕ
greatest = 2 ^ 32 - 1

-- the status that refused rooms are told by
abbrev pub status_of : RoomError → ℕ
status_of Memory = 1
status_of refusal = 2

-- a stack on the heap of just this room
abbrev pub growing : ℕ → Room
growing n = record { reserved = n; limit = None }

-- How many items fit in a stack.
use Rattle.std.specs.Prelude.{ℕ, ◌*◌, ◌<◌, Option, Some, None, min, max, nat_lt, if◌then◌else◌}

-- the slots that are reserved, and the greatest capacity, if there is one
pub record Room : Type 0 where
  pub reserved : ℕ
  pub limit : Option ℕ

-- n, or the limit where n is past it
abbrev pub within : Option ℕ → ℕ → ℕ
within None n = n
within (Some limit) n = min limit n

-- n is past the limit
abbrev pub IsBeyond : Option ℕ → ℕ → Type 0
IsBeyond None n = ⊥
IsBeyond (Some limit) n = limit < n

-- how many items fit with no growth
abbrev pub capacity : Room → ℕ
capacity r = within r.limit r.reserved

-- the room with this many slots
abbrev pub with_reserved : Room → ℕ → Room
with_reserved r n = record { reserved = n; limit = r.limit }

-- the room after the growth that a push asks for: to 4 at first, then to the double, never past
-- the limit
abbrev pub grown : Room → Room
grown r = with_reserved r (within r.limit (max 4 (2 * r.reserved)))

-- the room after a push onto so many items: the same, or a greater one where all slots are taken
abbrev pub room_after : ℕ → Room → Room
room_after len r = if nat_lt len (capacity r) then r else grown r

-- the room with this limit
abbrev pub limited : Room → ℕ → Room
limited r n = record { reserved = r.reserved; limit = Some n }

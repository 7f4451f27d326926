-- How a `DirectArena` keeps its slots. No public clause cites this module.
use Rattle.std.specs.Prelude.{◌≡◌, ℕ, ◌≤◌, List, length, Option, is_some, count_by}
use Rattle.triple_arena_stack.specs.Room.{Room, capacity}
use Rattle.triple_arena.specs.DirectContent.{DirectContent}

module _ {T : Type 0} where
  abbrev pub direct_of : List (Option (ℕ × T)) → Room → DirectContent T
  direct_of slots room = record { slots = slots; room = room }

  -- `len` counts the live slots, and the slots are within the capacity
  pub record IsSound (slots : List (Option (ℕ × T))) (len : ℕ) (room : Room) : Type 0 where
    pub counted : len ≡ count_by is_some slots
    pub fits : length slots ≤ capacity room

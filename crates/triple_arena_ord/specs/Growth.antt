-- What a change of the room leaves.
use Rattle.std.specs.Prelude.{◌≡◌, ℕ}
use Rattle.triple_arena_stack.specs.Room.{Room}
use Rattle.triple_arena.specs.Content.{in_room}
use Rattle.triple_arena_ord.specs.Ordered.{Ordered, order_in, entry_in}

-- another room; the list, the entries and all else are as they were
pub record IsInRoom {T : Type 0} (room : Room) (old new : Ordered T)
    : Type 0 where
  pub exact : new ≡ record { chains = in_room old.chains room; root = old.root }
  pub order : order_in new ≡ order_in old
  pub entries : (k : ℕ) → entry_in new k ≡ entry_in old k

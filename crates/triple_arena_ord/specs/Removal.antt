-- What a removal finds and leaves.
use Rattle.std.specs.Prelude.{◌≡◌, ◌==◌, if◌then◌else◌, ℕ, ◌+◌, List, ◌∷◌, ◌++◌, length, Option}
use Rattle.std.specs.Prelude.{Some, None}
use Rattle.triple_arena_ptr.specs.Generation.{next_generation}
use Rattle.triple_arena.specs.Content.{removed}
use Rattle.triple_arena.specs.Entries.{without}
use Rattle.triple_arena_ord.specs.Node.{nodes_in}
use Rattle.rank_tree.specs.Repair.{Restored}
use Rattle.triple_arena_ord.specs.Ordered.{Ordered, order_in, entry_in, size_in}

-- the list without one index
pub record Loses (old new : List ℕ) (h : ℕ) : Type 0 where
  pub before : List ℕ
  pub after : List ℕ
  pub was : old ≡ before ++ h ∷ after
  pub is : new ≡ before ++ after

-- an end of the list without an index, which had this neighbor
abbrev pub ended : Option ℕ → ℕ → Option ℕ → Option ℕ
ended None h neighbor = None
ended (Some i) h neighbor = if i == h then neighbor else Some i

-- the tree without one index of the list, which is still in the chain
pub record IsUprooted {T : Type 0} (old new : Ordered T) (h : ℕ) : Type 0 where
  pub before : List ℕ
  pub after : List ℕ
  pub was : order_in old ≡ before ++ h ∷ after
  pub restored : Restored (nodes_in new.chains) new.root (before ++ after)

-- one entry less: the list is without its index, every other pointer finds the item that it found,
-- the counter steps, and the slot is popped where it is the last one, and else is the next one to
-- be taken
pub record IsEntryRemoved {T : Type 0} (last : Option ℕ) (h : ℕ)
    (old new : Ordered T) : Type 0 where
  pub order : Loses (order_in old) (order_in new) h
  pub entries : (k : ℕ) → entry_in new k ≡ without (entry_in old) h k
  pub size : size_in new + 1 ≡ size_in old
  pub counter : new.chains.counter ≡ next_generation last old.chains.counter
  pub free : new.chains.free ≡ (removed last old.chains h).free
  pub slots : length new.chains.slots ≡ length (removed last old.chains h).slots
  pub room : new.chains.room ≡ old.chains.room

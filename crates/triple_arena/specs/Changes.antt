-- What the calls that make or change an arena leave, in any arena: the entry at each index, how
-- many are live, the counter and the room.
use Rattle.std.specs.Prelude.{◌≡◌, ℕ, ◌+◌, Bool, List, map, slice_get, Option, Some, None}
use Rattle.std.specs.Option.{option_map}
use Rattle.triple_arena_ptr.specs.Generation.{next_generation}
use Rattle.triple_arena_stack.specs.Room.{Room}
use Rattle.triple_arena.specs.ArenaRoom.{room_with}
use Rattle.triple_arena.specs.Entries.{with_entry, without, with_generation_at}
use Rattle.triple_arena.specs.Entries.{generation_at, with_values_exchanged}
use Rattle.triple_arena.specs.Compression.{renewed, generation_given, entry_of_listed}
use Rattle.triple_arena.specs.Compression.{generation_of, IsCompact}

module _ {S T : Type 0} (entry_of : S → ℕ → Option (ℕ × T)) (live_of : S → ℕ)
    (counter_of : S → Option ℕ) where
  -- an entry of this value more, at the next index, which was free, with the counter as its
  -- generation; all others stay
  pub record IsInserted (next i g : ℕ) (t : T) (old new : S) : Type 0 where
    pub index : i ≡ next
    pub generation : Some g ≡ counter_of old
    pub vacant : entry_of old i ≡ None
    pub entries : (j : ℕ) → entry_of new j ≡ with_entry (entry_of old) i (g, t) j
    pub live : live_of new ≡ live_of old + 1
    pub counter : counter_of new ≡ counter_of old

module _ {S T : Type 0} (entry_of : S → ℕ → Option (ℕ × T)) (live_of : S → ℕ)
    (counter_of : S → Option ℕ) (room_of : S → Room) where
  -- no entry at any index, in this room, with this counter
  pub record IsNew (first : Option ℕ) (own : Room) (new : S) : Type 0 where
    pub entries : (j : ℕ) → entry_of new j ≡ None
    pub live : live_of new ≡ 0
    pub counter : counter_of new ≡ first
    pub room : room_of new ≡ own

  -- an entry of this value and generation more, at an index that was free; all others stay
  pub record IsDirectlyInserted (i g : ℕ) (t : T) (old new : S) : Type 0 where
    pub vacant : entry_of old i ≡ None
    pub entries : (j : ℕ) → entry_of new j ≡ with_entry (entry_of old) i (g, t) j
    pub live : live_of new ≡ live_of old + 1
    pub counter : counter_of new ≡ counter_of old
    pub room : room_of new ≡ room_of old

  -- room for so many entries; all entries stay
  pub record IsReallocated (min : ℕ) (old new : S) : Type 0 where
    pub entries : (j : ℕ) → entry_of new j ≡ entry_of old j
    pub live : live_of new ≡ live_of old
    pub counter : counter_of new ≡ counter_of old
    pub room : room_of new ≡ room_with min (room_of old)

  -- other values, each under the generation that stood there
  pub record IsRewritten (old new : S) : Type 0 where
    pub generations : (k : ℕ) → generation_at (entry_of new) k ≡ generation_at (entry_of old) k
    pub live : live_of new ≡ live_of old
    pub counter : counter_of new ≡ counter_of old
    pub room : room_of new ≡ room_of old

  -- the values at two indexes in each other's place, each under the generation that stood there;
  -- all others stay
  pub record IsExchanged (i j : ℕ) (old new : S) : Type 0 where
    pub entries : (k : ℕ) → entry_of new k ≡ with_values_exchanged (entry_of old) i j k
    pub live : live_of new ≡ live_of old
    pub counter : counter_of new ≡ counter_of old
    pub room : room_of new ≡ room_of old

module _ {S T : Type 0} (entry_of : S → ℕ → Option (ℕ × T)) (live_of : S → ℕ)
    (counter_of : S → Option ℕ) (room_of : S → Room) (last : Option ℕ) where
  -- no entry at this index, where one was; all others stay, and the counter steps
  pub record IsRemoved (i : ℕ) (old new : S) : Type 0 where
    pub entries : (j : ℕ) → entry_of new j ≡ without (entry_of old) i j
    pub live : live_of new + 1 ≡ live_of old
    pub counter : counter_of new ≡ option_map (next_generation last) (counter_of old)
    pub room : room_of new ≡ room_of old

  -- another generation at this index; all others stay, and the counter steps
  pub record IsInvalidated (i g : ℕ) (old new : S) : Type 0 where
    pub entries : (j : ℕ) → entry_of new j ≡ with_generation_at (entry_of old) i g j
    pub live : live_of new ≡ live_of old
    pub counter : counter_of new ≡ option_map (next_generation last) (counter_of old)
    pub room : room_of new ≡ room_of old

  -- no entry at any index, and the counter steps
  pub record IsCleared (old new : S) : Type 0 where
    pub entries : (j : ℕ) → entry_of new j ≡ None
    pub live : live_of new ≡ 0
    pub counter : counter_of new ≡ option_map (next_generation last) (counter_of old)
    pub room : room_of new ≡ room_of old

  -- the counter steps; all entries stay
  pub record IsStepped (old new : S) : Type 0 where
    pub entries : (j : ℕ) → entry_of new j ≡ entry_of old j
    pub live : live_of new ≡ live_of old
    pub counter : counter_of new ≡ option_map (next_generation last) (counter_of old)
    pub room : room_of new ≡ room_of old

  -- the live entries at the indexes from 1 on, in the order in which they are listed, with the
  -- generations and the counter renewed
  pub record IsCompressed (listed : S → List (ℕ × (ℕ × T))) (reset : Bool) (old new : S)
      : Type 0 where
    pub compact : IsCompact (listed new)
    pub entries : (k : ℕ)
        → entry_of new (k + 1) ≡ option_map entry_of_listed (slice_get (listed new) k)
    pub generations : map generation_of (listed new)
        ≡ map (λ e. generation_given last reset (counter_of old) (generation_of e)) (listed old)
    pub live : live_of new ≡ live_of old
    pub counter : counter_of new ≡ option_map (renewed last reset) (counter_of old)
    pub room : room_of new ≡ room_of old

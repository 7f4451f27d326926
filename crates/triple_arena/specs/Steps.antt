-- What is done with an arena step by step, and the pointers that the steps give.
use Rattle.std.specs.Prelude.{◌≡◌, ℕ, false, List, [], ◌∷◌, ◌++◌, map, replicate, Option, Some}
use Rattle.std.specs.Prelude.{IsSome}
use Rattle.std.specs.Option.{option_map}
use Rattle.triple_arena_ptr.specs.Generation.{next_generation}
use Rattle.triple_arena_stack.specs.Room.{Room}
use Rattle.triple_arena.specs.ArenaRoom.{room_with}
use Rattle.triple_arena.specs.Compression.{pointer_of}
use Rattle.triple_arena.specs.Entries.{generation_at, with_value_at, IsOneOf}
use Rattle.triple_arena.specs.Transfer.{steps_wrap, IsGivenUp}
use Rattle.triple_arena.specs.Changes.{IsNew, IsInserted, IsRemoved, IsInvalidated, IsCleared}
use Rattle.triple_arena.specs.Changes.{IsStepped, IsCompressed, IsExchanged, IsReallocated}
use Rattle.triple_arena.specs.Content.{Content, entry_at, live_count, some_counter}
use Rattle.triple_arena.specs.LiveEntries.{live_entries}

-- an entry stored at an index under a generation; the entry at an index removed; its pointer ended,
-- and one with this generation given in its place; all entries removed at once; each of them taken
-- out, by a drain or by a transfer from here; the counter stepped alone; the entries moved to the
-- first indexes; the values at two indexes exchanged; a value written; room made; a copy to here
-- given up where its map refused, so that room for it was made and all entries were removed at
-- once; and whatever leaves the generation at each index, and the counter. The last is one step for
-- many calls, since what else they change matters to no pointer: a recast, the free slots put in
-- order or taken from the end, a limit, a place that is let go
pub data Step (T : Type 0) : Type 0 where
  insert : ℕ → ℕ → T → Step T
  remove : ℕ → Step T
  invalidate : ℕ → ℕ → Step T
  clear : Step T
  drain : Step T
  inc_generation : Step T
  compress : Step T
  exchange : ℕ → ℕ → Step T
  write : ℕ → T → Step T
  reallocate : ℕ → Step T
  give_up_copy : ℕ → Step T
  keep : Step T

-- how often it steps the counter, where so many are live
abbrev pub counts : {T : Type 0} → Step T → ℕ → ℕ
counts (remove i) live = 1
counts (invalidate i g) live = 1
counts clear live = 1
counts drain live = live
counts inc_generation live = 1
counts compress live = 1
counts (give_up_copy n) live = 1
counts _ live = 0

-- steps, each with what it left, in their order
abbrev pub History : Type 0 → Type 0 → Type 0
History S T = List (Step T × S)

-- none of these comes twice
abbrev pub AreNew : List (ℕ × ℕ) → Type 0
AreNew [] = Unit {0}
AreNew (p ∷ l) = (IsOneOf l p → ⊥) × AreNew l

module _ {S T : Type 0} (entry_of : S → ℕ → Option (ℕ × T)) where
  -- a pointer with this index and generation finds an entry
  abbrev pub Finds : S → ℕ × ℕ → Type 0
  Finds s p = generation_at (entry_of s) p.0 ≡ Some p.1

module _ {S T : Type 0} (listed : S → List (ℕ × (ℕ × T))) where
  -- the pointers that a step gives, by what it leaves
  abbrev pub given : Step T → S → List (ℕ × ℕ)
  given (insert i g t) new = (i, g) ∷ []
  given (invalidate i g) new = (i, g) ∷ []
  given compress new = map pointer_of (listed new)
  given _ new = []

  -- those of a history, in the order of the steps
  abbrev pub all_given : History S T → List (ℕ × ℕ)
  all_given [] = []
  all_given (moment ∷ later) = given moment.0 moment.1 ++ all_given later

-- what a history leaves
abbrev pub reached : {S T : Type 0} → S → History S T → S
reached s [] = s
reached s (moment ∷ later) = reached moment.1 later

module _ {S T : Type 0} (entry_of : S → ℕ → Option (ℕ × T)) (live_of : S → ℕ)
    (counter_of : S → Option ℕ)
    (room_of : S → Room) (listed : S → List (ℕ × (ℕ × T))) (last : Option ℕ) where
  -- what the calls say of a step
  abbrev pub Takes : Step T → S → S → Type 0
  Takes (insert i g t) old new = IsInserted entry_of live_of counter_of i i g t old new
  Takes (remove i) old new = IsRemoved entry_of live_of counter_of room_of last i old new
  Takes (invalidate i g) old new =
      IsSome (entry_of old i) × (option_map (next_generation last) (counter_of old) ≡ Some g)
      × IsInvalidated entry_of live_of counter_of room_of last i g old new
  Takes clear old new = IsCleared entry_of live_of counter_of room_of last old new
  Takes drain old new = IsGivenUp entry_of live_of counter_of room_of last old new
  Takes inc_generation old new = IsStepped entry_of live_of counter_of room_of last old new
  Takes compress old new
      = IsCompressed entry_of live_of counter_of room_of last listed false old new
  Takes (exchange i j) old new =
      IsSome (entry_of old i) × IsSome (entry_of old j)
      × IsExchanged entry_of live_of counter_of room_of i j old new
  Takes (write i t) old new = ((j : ℕ) → entry_of new j ≡ with_value_at (entry_of old) i t j)
      × (counter_of new ≡ counter_of old)
  Takes (reallocate n) old new = IsReallocated entry_of live_of counter_of room_of n old new
  Takes (give_up_copy n) old new =
      IsNew entry_of live_of counter_of room_of (option_map (next_generation last) (counter_of old))
      (room_with n (room_of old)) new
  Takes keep old new = ((j : ℕ) → generation_at (entry_of new) j ≡ generation_at (entry_of old) j)
      × (counter_of new ≡ counter_of old)

  -- the steps of a history are taken one after another, and none starts the generations again
  abbrev pub Happens : S → History S T → Type 0
  Happens s [] = Unit {0}
  Happens s (moment ∷ later) =
      Takes moment.0 s moment.1
      × (steps_wrap last (counts moment.0 (live_of s)) (counter_of s)
      ≡ replicate (counts moment.0 (live_of s)) false)
      × Happens moment.1 later

  -- generations are counted, and this history leads here from a new arena
  pub record IsReached (history : History S T) (s : S) : Type 0 where
    pub greatest : ℕ
    pub counts : last ≡ Some greatest
    pub made : S
    pub new : IsNew entry_of live_of counter_of room_of (Some 2) (room_of made) made
    pub happens : Happens made history
    pub leads : reached made history ≡ s

-- what the calls say of a step of an `Arena`
abbrev pub IsStep : {T : Type 0} → Option ℕ → Step T → Content T → Content T → Type 0
IsStep last step old new = Takes entry_at live_count some_counter (λ c. c.room) live_entries last
    step old new

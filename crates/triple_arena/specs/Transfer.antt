-- The entries of one arena at the first indexes of another, in the order of the indexes that they
-- had.
use Rattle.std.specs.Prelude.{◌≡◌, ℕ, zero, suc, ◌+◌, Bool, List, [], ◌∷◌, map, length, replicate}
use Rattle.std.specs.Prelude.{slice_get, Option, None}
use Rattle.std.specs.Fn.{iterate}
use Rattle.std.specs.List.{FoldsTo}
use Rattle.std.specs.Option.{option_map}
use Rattle.triple_arena_ptr.specs.declared.invalidation.InvalidationOption.{InvalidationOption}
use Rattle.triple_arena_ptr.specs.Generation.{next_generation}
use Rattle.triple_arena_ptr.specs.InvalidationOption.{value_of, overflowed}
use Rattle.triple_arena_stack.specs.Room.{Room}
use Rattle.triple_arena.specs.Entries.{counter_wraps}
use Rattle.triple_arena.specs.Content.{Content, reallocated}
use Rattle.triple_arena.specs.Compression.{entry_of_listed, generation_of, listed_under, compacted}
use Rattle.triple_arena.specs.Compression.{IsCompact}

-- of each of so many removals, whether its step starts the generations again; what has no counter
-- steps none
abbrev pub steps_wrap : Option ℕ → ℕ → Option ℕ → List Bool
steps_wrap last zero counter = []
steps_wrap last (suc n) counter = counter_wraps last counter
    ∷ steps_wrap last n (option_map (next_generation last) counter)

-- a call of a transfer's map: the old pointer and the value, with what the removal tells, the new
-- pointer and what the map gave
pub record Transfer (Q U P T : Type 0) : Type 0 where
  pub from : Q
  pub item : InvalidationOption U
  pub to : P
  pub given : T

-- whether the removal of the entry started the generations again
abbrev pub wrapped : {Q U P T : Type 0} → Transfer Q U P T → Bool
wrapped move = overflowed move.item

module _ {Q U P T : Type 0} (old_index old_generation : Q → ℕ) (index generation : P → ℕ) where
  -- the entry that a call was made at, and the one that it left
  abbrev pub entry_before : Transfer Q U P T → ℕ × (ℕ × U)
  entry_before move = listed_under old_index old_generation move.from (value_of move.item)

  abbrev pub entry_after : Transfer Q U P T → ℕ × (ℕ × T)
  entry_after move = listed_under index generation move.to move.given

  -- a map was called once at each of the entries `old`, in their order, with the pointers that
  -- belong to it and to its place in `new`, and gave the values of `new`. Each was told what its
  -- removal tells, one after another from this counter on
  pub record IsTransferred {F : Type 0} (step : F → Q → InvalidationOption U → P → T → F → Type 0)
      (f : F) (last_generation counter : Option ℕ)
      (old : List (ℕ × (ℕ × U))) (new : List (ℕ × (ℕ × T))) : Type 0 where
    pub moves : List (Transfer Q U P T)
    pub last : F
    pub calls : FoldsTo (λ g move h. step g move.from move.item move.to move.given h) f moves last
    pub before : map entry_before moves ≡ old
    pub told : map wrapped moves ≡ steps_wrap last_generation (length old) counter
    pub after : map entry_after moves ≡ new

module _ {S T : Type 0} (entry_of : S → ℕ → Option (ℕ × T)) (live_of : S → ℕ)
    (counter_of : S → Option ℕ) (room_of : S → Room) where
  -- no entry at any index, and the counter stepped once for each that was there
  pub record IsGivenUp (last : Option ℕ) (old new : S) : Type 0 where
    pub entries : (j : ℕ) → entry_of new j ≡ None
    pub live : live_of new ≡ 0
    pub counter : counter_of new ≡ option_map (iterate (next_generation last) (live_of old))
        (counter_of old)
    pub room : room_of new ≡ room_of old

  -- so many entries at the indexes from 1 on, each with this generation, which a counter has too,
  -- in this room
  pub record IsFilled (listed : S → List (ℕ × (ℕ × T))) (n g : ℕ) (own : Room) (old new : S)
      : Type 0 where
    pub compact : IsCompact (listed new)
    pub entries : (k : ℕ)
        → entry_of new (k + 1) ≡ option_map entry_of_listed (slice_get (listed new) k)
    pub generations : map generation_of (listed new) ≡ replicate n g
    pub live : live_of new ≡ n
    pub counter : counter_of new ≡ option_map (λ _. g) (counter_of old)
    pub room : room_of new ≡ own

module _ {T : Type 0} where
  -- the content with these values alone, so many, at the indexes from 1 on, where the entries and
  -- the counter have this generation, in a room for them
  abbrev pub filled : Content T → ℕ → ℕ → List T → Content T
  filled c n g values = compacted g values (reallocated c n)

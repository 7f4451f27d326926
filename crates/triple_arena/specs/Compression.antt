-- The live entries at the first indexes, in the order of the indexes that they had.
use Rattle.std.specs.Prelude.{◌≡◌, ℕ, ◌+◌, Bool, false, List, [], ◌∷◌, map, slice_get, Option, Some}
use Rattle.std.specs.Prelude.{None, if◌then◌else◌}
use Rattle.std.specs.List.{FoldsTo, list_any}
use Rattle.triple_arena_ptr.specs.Generation.{second_generation, next_generation, next_wraps}
use Rattle.triple_arena.specs.Content.{Content}
use Rattle.triple_arena.specs.LiveEntries.{live_entries}

-- the generation after this one: with a reset the second, else the next, where `last` is the last
-- one
abbrev pub renewed : Option ℕ → Bool → ℕ → ℕ
renewed last reset g = if reset then second_generation last else next_generation last g

-- whether that step starts the generations again
abbrev pub renewal_wraps : Option ℕ → Bool → ℕ → Bool
renewal_wraps last reset g = if reset then false else next_wraps last g

-- the generation that an entry is given: that of the counter, or its own one renewed where there is
-- no counter
abbrev pub generation_given : Option ℕ → Bool → Option ℕ → ℕ → ℕ
generation_given last reset None own = renewed last reset own
generation_given last reset (Some counter) own = renewed last reset counter

-- whether a step starts the generations again: of the counter, or of an entry's own one where there
-- is no counter
abbrev pub compression_wraps : Option ℕ → Bool → Option ℕ → List ℕ → Bool
compression_wraps last reset None generations = list_any (renewal_wraps last reset) generations
compression_wraps last reset (Some counter) generations = renewal_wraps last reset counter

-- a call of a map: the old pointer and the value, the new pointer and what the map gave
pub record Move (P T : Type 0) : Type 0 where
  pub from : P
  pub value : T
  pub to : P
  pub given : T

module _ {T : Type 0} where
  abbrev pub index_of : ℕ × (ℕ × T) → ℕ
  index_of entry = entry.0

  abbrev pub entry_of_listed : ℕ × (ℕ × T) → ℕ × T
  entry_of_listed entry = entry.1

  abbrev pub generation_of : ℕ × (ℕ × T) → ℕ
  generation_of entry = entry.1.0

  abbrev pub value_of : ℕ × (ℕ × T) → T
  value_of entry = entry.1.1

  -- the index and the generation
  abbrev pub pointer_of : ℕ × (ℕ × T) → ℕ × ℕ
  pointer_of entry = (entry.0, entry.1.0)

  -- the entries stand at the indexes from 1 on
  abbrev pub IsCompact : List (ℕ × (ℕ × T)) → Type 0
  IsCompact entries = (k : ℕ) (entry : ℕ × (ℕ × T)) → slice_get entries k ≡ Some entry
      → index_of entry ≡ k + 1

  -- the content with these values alone, at the indexes from 1 on, where the entries and the
  -- counter have this generation
  abbrev pub compacted : ℕ → List T → Content T → Content T
  compacted g values c = record c { slots = map (λ t. Some (g, t)) values; counter = g; free = [] }

  -- the values in the order of their indexes
  abbrev pub live_values : Content T → List T
  live_values c = map value_of (live_entries c)

module _ {P T : Type 0} (index generation : P → ℕ) where
  -- a value as it is listed under a pointer
  abbrev pub listed_under : P → T → ℕ × (ℕ × T)
  listed_under p t = (index p, (generation p, t))

  -- the entry that a call was made at, and the one that it left
  abbrev pub entry_before : Move P T → ℕ × (ℕ × T)
  entry_before move = listed_under move.from move.value

  abbrev pub entry_after : Move P T → ℕ × (ℕ × T)
  entry_after move = listed_under move.to move.given

  -- a map was called once at each of the entries `old`, in their order, with the pointers that
  -- belong to it and to its place in `new`, and gave the values of `new`
  pub record IsMapped {F : Type 0} (step : F → P → T → P → T → F → Type 0) (f : F)
      (old new : List (ℕ × (ℕ × T))) : Type 0 where
    pub moves : List (Move P T)
    pub last : F
    pub calls : FoldsTo (λ g move h. step g move.from move.value move.to move.given h) f moves last
    pub before : map entry_before moves ≡ old
    pub after : map entry_after moves ≡ new

module _ {S T : Type 0} (given : S → T → T) (next : S → T → S) where
  -- the values that are given one after another, where each call leaves the state of the next one
  abbrev pub given_in_turn : S → List T → List T
  given_in_turn s [] = []
  given_in_turn s (t ∷ values) = given s t ∷ given_in_turn (next s t) values

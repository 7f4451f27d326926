-- The map of a compression from each old pointer to the new one.
use Rattle.std.specs.Prelude.{◌≡◌, ◌↔◌, ℕ, List, map, Some, IsSome}
use Rattle.triple_arena.specs.Compression.{value_of, live_values, IsCompact}
use Rattle.triple_arena.specs.Content.{Content, get}
use Rattle.triple_arena.specs.DirectContent.{DirectContent, get as renamed}
use Rattle.triple_arena.specs.DirectContent.{live_entries as entries_of}
use Rattle.triple_arena.specs.Iterators.{pointer_of}
use Rattle.triple_arena.specs.LiveEntries.{live_entries}

module _ {P : Type 0} (index generation : P → ℕ) where
  -- the index and the generation of the pointer that is stored in a listed entry
  abbrev pub pointer_in : ℕ × (ℕ × P) → ℕ × ℕ
  pointer_in entry = (index (value_of entry), generation (value_of entry))

  -- of the entries `map` each one stands under the pointer of one of the entries `old`, in their
  -- order, and holds the pointer of the one at its place in `new`
  pub record IsRecaster {T : Type 0} (old new : List (ℕ × (ℕ × T))) (entries : List (ℕ × (ℕ × P)))
      : Type 0 where
    pub from : map pointer_of entries ≡ map pointer_of old
    pub to : map pointer_in entries ≡ map pointer_of new

module _ {P T : Type 0} (index generation : P → ℕ) where
  -- the map leads from the entries of `old` to those of `new`, which has the same values, at the
  -- first indexes
  abbrev pub IsRecasterOf : (old new : Content T) → DirectContent P → Type 0
  IsRecasterOf old new recaster
      = IsRecaster index generation (live_entries old) (live_entries new) (entries_of recaster)
      × (live_values new ≡ live_values old) × IsCompact (live_entries new)

  -- a map by pointers is one-to-one from the pointers that are valid in `old` to those that are
  -- valid in `new`, and each finds there what it found
  pub record IsRenaming (old new : Content T) (renaming : DirectContent P) : Type 0 where
    pub renames : (i g : ℕ) → IsSome (get old i g) ↔ IsSome (renamed renaming i g)
    pub follows : (i g : ℕ) (q : P) → renamed renaming i g ≡ Some q
        → get new (index q) (generation q) ≡ get old i g
    pub apart : (i g : ℕ) (q : P) (i' g' : ℕ) (q' : P) → renamed renaming i g ≡ Some q
        → renamed renaming i' g' ≡ Some q' → index q ≡ index q'
        → (i ≡ i') × (g ≡ g')
    pub onto : (j h : ℕ) → IsSome (get new j h)
        → (i : ℕ) × (g : ℕ) × (q : P) × (renamed renaming i g ≡ Some q) × (index q ≡ j)
        × (generation q ≡ h)

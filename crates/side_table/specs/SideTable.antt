-- A table beside an arena: values under the pointers of the arena's entries.
use Rattle.std.specs.Prelude.{◌≡◌, ◌≢◌, ℕ, ◌<◌, ◌≤◌, List, map, Option, Some, None}
use Rattle.triple_arena.specs.Compression.{index_of, generation_of}
use Rattle.triple_arena.specs.DirectContent.{DirectContent, entry_at, get}
use Rattle.triple_arena.specs.Entries.{value_if, with_entry, without}

module _ {P : Type 0} (index : P → ℕ) (named : ℕ → Option (ℕ × P)) where
  -- of two pointers that have new ones, that of the greater index has the new one of the greater
  -- index
  abbrev pub Rises : Type 0
  Rises = (i j g h : ℕ) (p q : P) → named i ≡ Some (g, p) → named j ≡ Some (h, q) → i < j
      → index p < index q

  -- no new pointer has a greater index than the old one
  abbrev pub NeverGoesUp : Type 0
  NeverGoesUp = (i g : ℕ) (p : P) → named i ≡ Some (g, p) → index p ≤ i

module _ {P T : Type 0} (index generation : P → ℕ) where
  -- the value stood under an old pointer, whose new one has this index and this generation
  pub record IsCarried (named : ℕ → Option (ℕ × P)) (old : ℕ → Option (ℕ × T)) (j h : ℕ) (t : T)
      : Type 0 where
    pub old_index : ℕ
    pub old_generation : ℕ
    pub pointer : P
    pub stood : old old_index ≡ Some (old_generation, t)
    pub renamed : named old_index ≡ Some (old_generation, pointer)
    pub has_index : index pointer ≡ j
    pub has_generation : generation pointer ≡ h

  -- the entries without the value at an index, if there is one, which stands under its new pointer,
  -- if there is one
  abbrev pub with_moved : (ℕ → Option (ℕ × T)) → ℕ → Option T → Option P → ℕ → Option (ℕ × T)
  with_moved entries i None new = entries
  with_moved entries i (Some t) None = without entries i
  with_moved entries i (Some t) (Some q)
      = with_entry (without entries i) (index q) (generation q, t)

  -- the entries after the value under an old pointer went to the new one that `named` has for it,
  -- or was dropped if there is none
  abbrev pub with_one_followed : (ℕ → Option (ℕ × P)) → P → (ℕ → Option (ℕ × T)) → ℕ
      → Option (ℕ × T)
  with_one_followed named old entries = with_moved entries (index old)
      (value_if (generation old) (entries (index old)))
      (value_if (generation old) (named (index old)))

-- a table from which the entry at an index was taken out, if there was one
pub record IsEntryTaken {T : Type 0} (i : ℕ) (old new : DirectContent T) : Type 0 where
  pub vacant : entry_at new i ≡ None
  pub others : (j : ℕ) → j ≢ i → entry_at new j ≡ entry_at old j
  pub room : new.room ≡ old.room

-- what the table has under the pointer of each of these entries, in their order
abbrev pub beside : {T U : Type 0} → DirectContent U → List (ℕ × (ℕ × T)) → List (Option U)
beside table entries = map (λ e. get table (index_of e) (generation_of e)) entries

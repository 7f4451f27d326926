-- What an iterator over an arena has left, and what a search by it finds.
use Rattle.std.specs.Prelude.{◌≡◌, ℕ, ◌+◌, ◌<◌, ◌≤◌, Bool, true, false, List, [], ◌∷◌, ◌++◌, length}
use Rattle.std.specs.Prelude.{drop, map, Option, Some, None, IfSome}
use Rattle.std.specs.Iterator.{UpTo, at_most}
use Rattle.std.specs.Iterator.SizeHint.{IsWithinCount}
use Rattle.triple_arena.specs.LiveEntries.{listed_from}

module _ {T : Type 0} where
  -- the index and the generation of a listed entry
  abbrev pub pointer_of : ℕ × (ℕ × T) → ℕ × ℕ
  pointer_of entry = (entry.0, entry.1.0)

-- a listed entry with a part of its value
abbrev pub with_part : {V T : Type 0} → (V → T) → ℕ × (ℕ × V) → ℕ × (ℕ × T)
with_part part entry = (entry.0, (entry.1.0, part entry.1.1))

-- the live entries of slots that have the indexes from 1 on, but for so many slots at the start
abbrev pub listed_behind : {T : Type 0} → ℕ → List (Option (ℕ × T)) → List (ℕ × (ℕ × T))
listed_behind passed slots = listed_from (passed + 1) (drop passed slots)

-- slots of which so many were passed: the others hold so many entries, and the indexes are up to
-- the greatest
pub record IsCursor {E T : Type 0} (shown : E → Option (ℕ × T)) (slots : List E)
    (passed left greatest : ℕ) : Type 0 where
  pub counted : left ≡ length (listed_behind passed (map shown slots))
  pub indexed : length slots ≤ greatest

-- a hint of how many items are left that has the number for both bounds; and so what any hint tells
-- of its bounds
pub record IsExact (hint : ℕ × Option ℕ) (n : ℕ) : Type 0 where
  pub bounds : hint ≡ (n, Some n)
  pub lower : IsWithinCount hint.0 (at_most n)
  pub upper : IfSome hint.1 (UpTo (at_most n))

-- what a test answers at a value
module _ {T : Type 0} (answers : T → Bool → Type 0) where
  -- the first entry whose value passes the test: it stands at this index, with this generation, and
  -- each before it fails
  pub record IsFirstToPass (entries : ℕ → Option (ℕ × T)) (i g : ℕ) : Type 0 where
    pub value : T
    pub stands : entries i ≡ Some (g, value)
    pub passes : answers value true
    pub before : (j h : ℕ) (t : T) → j < i → entries j ≡ Some (h, t) → answers t false

  -- the index and the generation of the first entry whose value passes the test, or nothing where
  -- each fails
  abbrev pub SearchFinds : (ℕ → Option (ℕ × T)) → Option (ℕ × ℕ) → Type 0
  SearchFinds entries None = (j h : ℕ) (t : T) → entries j ≡ Some (h, t) → answers t false
  SearchFinds entries (Some p) = IsFirstToPass entries p.0 p.1

  -- the value of each of these entries fails the test
  abbrev pub EachFails : List (ℕ × (ℕ × T)) → Type 0
  EachFails [] = Unit {0}
  EachFails (entry ∷ entries) = answers entry.1.1 false × EachFails entries

  -- a search that has these entries left, of all, where the value of each before them fails the
  -- test
  pub record HasPassed (all left : List (ℕ × (ℕ × T))) : Type 0 where
    pub passed : List (ℕ × (ℕ × T))
    pub split : all ≡ passed ++ left
    pub failed : EachFails passed

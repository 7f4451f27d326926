-- The items of a stack by their indexes, which begin at 1.
use Rattle.std.specs.Prelude.{ℕ, ◌-◌, List, Option, slice_get, slice_set}
use Rattle.std.specs.List.{swap}

module _ {T : Type 0} where
  -- the item at an index
  abbrev pub item_at : List T → ℕ → Option T
  item_at xs i = slice_get xs (i - 1)

  -- the items after a write at an index
  abbrev pub with_item : List T → ℕ → T → List T
  with_item xs i x = slice_set xs (i - 1) x

  -- the items with those at two indexes in each other's place
  abbrev pub exchanged : List T → ℕ → ℕ → List T
  exchanged xs i j = swap xs (i - 1) (j - 1)

-- Entries and keys along a list.
use Rattle.std.specs.Prelude.{ℕ, List, filter_map, Option}
use Rattle.std.specs.Option.{option_map}
use Rattle.std.specs.List.Sorted.{IsSorted}
use Rattle.std.specs.declared.cmp.Ordering.{Ordering}

-- the entries at these indexes, each beside its index
abbrev pub entries_along : {T : Type 0} → (ℕ → Option (ℕ × T)) → List ℕ → List (ℕ × (ℕ × T))
entries_along entry w = filter_map (λ i. option_map (λ e. (i, e)) (entry i)) w

-- no key of the entries along the list is greater than the next one
abbrev pub AscendsAlong : {K T : Type 0} → (K → K → Ordering) → (T → K) → (ℕ → Option (ℕ × T))
    → List ℕ → Type 0
AscendsAlong {K} {T} cmp key entry w
    = IsSorted {X = ℕ × (ℕ × T)} (λ x y. cmp (key x.1.1) (key y.1.1)) (entries_along entry w)

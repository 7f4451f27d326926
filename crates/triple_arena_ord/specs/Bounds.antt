-- Where a key belongs before or behind the entries with an equal one.
use Rattle.std.specs.Prelude.{◌≡◌, ℕ, Bool, List, [], ◌∷◌, ◌++◌, Option, Some, None, if◌then◌else◌}
use Rattle.std.specs.Option.{option_map}
use Rattle.std.specs.List.{AllByRecursion}
use Rattle.std.specs.declared.cmp.Ordering.{Ordering}
use Rattle.std.specs.declared.cmp.Ordering.TheVariants.{Less, Equal, Greater}
use Rattle.triple_arena_ord.specs.Ordered.{Ordered, ordered_entries}

-- an answer that takes an equal key for a greater one, or for a lesser one
abbrev pub way_past : Bool → Ordering → Ordering
way_past past Less = Less
way_past past Equal = if past then Greater else Less
way_past past Greater = Greater

abbrev pub compares_past : {K : Type 0} → Bool → (K → K → Ordering) → K → K → Ordering
compares_past past cmp a b = way_past past (cmp a b)

-- the index and the generation of the first entry of a list
abbrev pub first_entry : {T : Type 0} → List (ℕ × (ℕ × T)) → Option (ℕ × ℕ)
first_entry [] = None
first_entry (e ∷ entries) = Some (e.0, e.1.0)

-- the entries of the list for whose items this holds come before all others, and the pointer is to
-- the first of the others
pub record IsBound {T P : Type 0} (index generation : P → ℕ)
    (comes_before : T → Type 0) (result : Option P) (o : Ordered T) : Type 0 where
  pub low : List (ℕ × (ℕ × T))
  pub high : List (ℕ × (ℕ × T))
  pub is : ordered_entries o ≡ low ++ high
  pub all_before : AllByRecursion (λ e. comes_before e.1.1) low
  pub none_before : AllByRecursion (λ e. comes_before e.1.1 → ⊥) high
  pub first : option_map {U = ℕ × ℕ} (λ p. (index p, generation p)) result ≡ first_entry high

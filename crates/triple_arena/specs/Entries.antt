-- What is known of any arena: the entry at each index.
use Rattle.std.specs.Prelude.{◌≡◌, ◌⊎◌, ℕ, ◌==◌, Bool, true, false, List, [], ◌∷◌, find, Option}
use Rattle.std.specs.Prelude.{Some, None, if◌then◌else◌}
use Rattle.std.specs.Option.{option_map}
use Rattle.triple_arena_ptr.specs.Generation.{next_wraps}

-- the number where this holds
abbrev pub number_if : Bool → ℕ → Option ℕ
number_if true n = Some n
number_if false n = None

-- whether the step from this counter starts the generations again, where this is the last one; what
-- has no counter steps none
abbrev pub counter_wraps : Option ℕ → Option ℕ → Bool
counter_wraps last None = false
counter_wraps last (Some g) = next_wraps last g

-- p is one of these
abbrev pub IsOneOf : List (ℕ × ℕ) → ℕ × ℕ → Type 0
IsOneOf [] p = ⊥
IsOneOf (q ∷ l) p = (q ≡ p) ⊎ IsOneOf l p

-- the index and the generation of a pointer, if there is one
abbrev pub pointer_by : {P : Type 0} → (P → ℕ) → (P → ℕ) → Option P → Option (ℕ × ℕ)
pointer_by index generation = option_map (λ p. (index p, generation p))

module _ {T : Type 0} where
  -- the value of an entry, if there is one
  abbrev pub value_in : Option (ℕ × T) → Option T
  value_in = option_map (λ (e : ℕ × T). e.1)

  -- the value of an entry that has this generation
  abbrev pub value_if : ℕ → Option (ℕ × T) → Option T
  value_if g None = None
  value_if g (Some entry) = if entry.0 == g then Some entry.1 else None

  -- the generation at an index, if it is live
  abbrev pub generation_at : (ℕ → Option (ℕ × T)) → ℕ → Option ℕ
  generation_at entries i = option_map (λ entry. entry.0) (entries i)

  -- the index and the generation of the entry at an index, if it is live
  abbrev pub pointer_at : (ℕ → Option (ℕ × T)) → ℕ → Option (ℕ × ℕ)
  pointer_at entries i = option_map (λ entry. (i, entry.0)) (entries i)

  -- the entries with this one at an index
  abbrev pub with_entry : (ℕ → Option (ℕ × T)) → ℕ → ℕ × T → ℕ → Option (ℕ × T)
  with_entry entries i entry j = if j == i then Some entry else entries j

  -- the entries with none at an index
  abbrev pub without : (ℕ → Option (ℕ × T)) → ℕ → ℕ → Option (ℕ × T)
  without entries i j = if j == i then None else entries j

  -- the entries with another value at an index, if it has one
  abbrev pub with_value_at : (ℕ → Option (ℕ × T)) → ℕ → T → ℕ → Option (ℕ × T)
  with_value_at entries i t j = if j == i then option_map (λ entry. (entry.0, t))
      (entries i) else entries j

  -- the entries with another generation at an index, if it has one
  abbrev pub with_generation_at : (ℕ → Option (ℕ × T)) → ℕ → ℕ → ℕ → Option (ℕ × T)
  with_generation_at entries i g j = if j == i then option_map (λ entry. (g, entry.1))
      (entries i) else entries j

  -- the first of two entries with the value of the second
  abbrev pub revalued : Option (ℕ × T) → Option (ℕ × T) → Option (ℕ × T)
  revalued None _ = None
  revalued (Some first) second = option_map (λ other. (first.0, other.1)) second

  -- the entries with the values at two indexes exchanged, each under the generation that stood
  -- there
  abbrev pub with_values_exchanged : (ℕ → Option (ℕ × T)) → ℕ → ℕ → ℕ → Option (ℕ × T)
  with_values_exchanged entries i j k =
      if k == i then revalued (entries i) (entries j) else if k == j then revalued (entries j)
      (entries i) else entries k

  -- the generation and the value that are listed under an index
  abbrev pub look_up : List (ℕ × (ℕ × T)) → ℕ → Option (ℕ × T)
  look_up entries i = option_map (λ entry. entry.1) (find (λ entry. entry.0 == i) entries)

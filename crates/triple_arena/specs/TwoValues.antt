-- Two entries of an arena, and two values that are written.
use Rattle.std.specs.Prelude.{◌≡◌, ◌≢◌, ℕ, zero, suc, List, [], ◌∷◌, Option, Some, IsSome}
use Rattle.triple_arena_stack.specs.Stack.{item_at, with_item}
use Rattle.triple_arena.specs.Content.{Content, with_value}
use Rattle.triple_arena.specs.DirectContent.{DirectContent, with_value as with_direct_value}
use Rattle.triple_arena.specs.Entries.{value_if}

module _ {T : Type 0} where
  -- both indexes are live, and they are two
  abbrev pub AreTwo : (ℕ → Option (ℕ × T)) → ℕ → ℕ → Type 0
  AreTwo entries i j = IsSome (entries i) × IsSome (entries j) × (i ≢ j)

  -- both indexes are live, and they are one
  abbrev pub AreOne : (ℕ → Option (ℕ × T)) → ℕ → ℕ → Type 0
  AreOne entries i j = IsSome (entries i) × IsSome (entries j) × (i ≡ j)

module _ {P T : Type 0} (index generation : P → ℕ) where
  -- both pointers find an entry, and these are two
  abbrev pub FindTwo : (ℕ → Option (ℕ × T)) → P → P → Type 0
  FindTwo entries p q = IsSome (value_if (generation p) (entries (index p)))
      × IsSome (value_if (generation q) (entries (index q))) × (index p ≢ index q)

  -- both pointers find an entry, and it is one
  abbrev pub FindOne : (ℕ → Option (ℕ × T)) → P → P → Type 0
  FindOne entries p q = IsSome (value_if (generation p) (entries (index p)))
      × IsSome (value_if (generation q) (entries (index q))) × (index p ≡ index q)

module _ {X T : Type 0} (held : X → Option T) (with_held : X → T → X) where
  -- if the slots at two indexes hold a value each, each has the other's, and all else stays
  abbrev pub HaveValuesExchanged : ℕ → ℕ → (old new : List X) → Type 0
  HaveValuesExchanged i j old new = (x y : X) (t u : T) → Some x ≡ item_at old i
      → Some y ≡ item_at old j → held x ≡ Some t → held y ≡ Some u
      → new ≡ with_item (with_item old i (with_held x u)) j (with_held y t)

module _ {X : Type 0} where
  -- the list with another item where so many come before it
  abbrev pub changed_at : ℕ → (X → X) → List X → List X
  changed_at n f [] = []
  changed_at zero f (x ∷ xs) = f x ∷ xs
  changed_at (suc n) f (x ∷ xs) = x ∷ changed_at n f xs

-- the slots with other values in two of them
abbrev pub written_both : {X T : Type 0} → (X → T → X) → List X → ℕ → ℕ → T → T → List X
written_both with xs low high x y
    = changed_at high (λ e. with e y) (changed_at low (λ e. with e x) xs)

module _ {T : Type 0} where
  -- the content with other values in two slots, each with so many before it
  abbrev pub with_two_values : Content T → ℕ → ℕ → T → T → Content T
  with_two_values c low high x y = with_value (with_value c (suc low) x) (suc high) y

  -- the same of a direct arena
  abbrev pub with_two_direct_values : DirectContent T → ℕ → ℕ → T → T → DirectContent T
  with_two_direct_values d low high x y
      = with_direct_value (with_direct_value d (suc low) x) (suc high) y

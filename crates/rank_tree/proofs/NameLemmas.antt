-- Links by index, and their numbers.
use Rattle.std.proofs.Common.{◌≡◌, ℕ, Option, Some, None, IsSome, IfSome, option_map, refl}
use Rattle.std.proofs.Common.{Bool, true, false, not, is_some}
use Rattle.rank_tree.specs.Store.{Store}

module _ {I : Type 0} (number : I → ℕ) where
  pub not_some : (o : Option I) (h : ℕ) → option_map number o ≡ Some h → ((x : I) → o ≡ Some x → ⊥)
      → ⊥
  not_some None h e n = absurd (cc)
  not_some (Some x) h e n = n x refl

  pub if_live : (n : Store) (o : Option I) → ((i : ℕ) → option_map number o ≡ Some i → IsSome (n i))
      → IfSome o (λ x. IsSome (n (number x)))
  if_live n None h = tt
  if_live n (Some x) h = h (number x) refl

  -- what holds of the number that a link names holds of the link's index, and the other way round
  pub if_named : (Q : ℕ → Type 0) (o : Option I) → IfSome (option_map number o) Q
      → IfSome o (λ x. Q (number x))
  if_named Q None h = tt
  if_named Q (Some x) h = h

  pub if_numbered : (Q : ℕ → Type 0) (o : Option I) → IfSome o (λ x. Q (number x))
      → IfSome (option_map number o) Q
  if_numbered Q None h = tt
  if_numbered Q (Some x) h = h

  -- what a test for an absent link found
  pub none_tested : (o : Option I) (b : Bool) → is_some o ≡ not b → b ≡ true
      → option_map number o ≡ None
  none_tested None b e t = refl
  none_tested (Some x) true e t = absurd (cc)
  none_tested (Some x) false e t = absurd (cc)

  pub some_tested : (o : Option I) (b : Bool) → is_some o ≡ not b → b ≡ false
      → option_map number o ≡ None → ⊥
  some_tested None true e f none = cc
  some_tested None false e f none = cc
  some_tested (Some x) b e f none = cc

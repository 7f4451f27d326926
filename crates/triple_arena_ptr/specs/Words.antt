-- How a word holds an index or none: 0 holds none.
use Rattle.std.specs.Prelude.{MatchOption, ◌≡◌, ◌<◌, ℕ, zero, suc, Option, Some, None, refl}
use Rattle.std.proofs.Common.{sym, subst, ap, ◌∙◌}
use Rattle.std.proofs.Math.Nat.{lt_irrefl, zero-lt-suc}
use Rattle.std.specs.Option.{option_map}

-- the word for a number, or for none
abbrev pub word_for : Option ℕ → ℕ
word_for None = zero
word_for (Some n) = n

-- the word for an index holds it
pub held_word : {N W : Type 0} (number : N → ℕ) (held : W → Option N) (word : Option ℕ → W)
    → held (word None) ≡ None → ((i : N) → held (word (Some (number i))) ≡ Some i)
    → (o : Option N) → held (word (option_map number o)) ≡ o
held_word number held word none some None = none
held_word number held word none some (Some i) = some i

-- at numbers that are not 0: `made` makes one, `value` gives its value
module _ {N : Type 0} (made : (n : ℕ) → 0 < n → N) (value : N → ℕ) where
  abbrev pub held_in : ℕ → Option N
  held_in zero = None
  held_in (suc n) = Some (made (suc n) (zero-lt-suc n))

  pub word-held : ((n : ℕ) (ok : 0 < n) → value (made n ok) ≡ n) → (n : ℕ)
      → word_for (option_map value (held_in n)) ≡ n
  word-held values zero = refl
  word-held values (suc n) = values (suc n) (zero-lt-suc n)

  pub held-of_positive : ((n : ℕ) (ok : 0 < n) → value (made n ok) ≡ n)
      → ((a b : N) → value a ≡ value b → a ≡ b) → (n : ℕ) → 0 < n → (i : N)
      → n ≡ value i → held_in n ≡ Some i
  held-of_positive values determined zero positive i same = absurd (lt_irrefl zero positive)
  held-of_positive values determined (suc n) positive i same
      = ap Some (determined _ i (values (suc n) (zero-lt-suc n) ∙ same))

  pub held-word : ((n : ℕ) (ok : 0 < n) → value (made n ok) ≡ n)
      → ((a b : N) → value a ≡ value b → a ≡ b) → ((i : N) → 0 < value i) → (i : N)
      → held_in (value i) ≡ Some i
  held-word values determined positive i = held-of_positive values determined (value i)
      (positive i) i refl

  -- what the checked conversion makes of a word
  pub made_held : ((n : ℕ) (ok : 0 < n) → value (made n ok) ≡ n)
      → ((a b : N) → value a ≡ value b → a ≡ b) → ((i : N) → 0 < value i) → (n : ℕ)
      → (o : Option N) → MatchOption o (n ≡ 0) (λ i. value i ≡ n) → o ≡ held_in n
  made_held values determined positive n None none = sym (ap held_in none)
  made_held values determined positive n (Some i) same
      = sym (held-of_positive values determined n
      (subst (λ k. 0 < k) same (positive i)) i (sym same))

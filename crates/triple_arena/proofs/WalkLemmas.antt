-- Steps over the indexes of an arena.
use Rattle.std.proofs.Common.{◌≡◌, ℕ, zero, suc, ◌<◌, ◌≤◌, List, [], ◌∷◌, length, get_or, Bool}
use Rattle.std.proofs.Common.{true, Option, Some, None, IfSome, IfNone, inl, inr, refl, arith}
use Rattle.std.proofs.lemmas.Bool.Decides.{leb_tells}
use Rattle.std.specs.Option.{option_map}
use Rattle.triple_arena.specs.Content.{Content, entry_at}
use Rattle.triple_arena.specs.Walk.{FindsAhead}

module _ {T : Type 0} where
  -- no index past the slots is live
  pub none_past : (c : Content T) (j : ℕ) → length c.slots < j → entry_at c j ≡ None
  none_past c zero beyond = refl
  none_past c (suc k) beyond = absent c.slots k (omega arith)
    where
      absent : (xs : List (Option (ℕ × T))) (k : ℕ) → length xs ≤ k → get_or xs k None ≡ None
      absent [] k beyond = refl
      absent (x ∷ xs) zero beyond = absurd (omega arith)
      absent (x ∷ xs) (suc k) beyond = absent xs k (omega arith)

  -- nothing found among all slots: nothing is live
  pub none_at_all : {P : Type 0} (c : Content T) (number : P → ℕ × ℕ) (n : ℕ) (falls : Bool)
      (given : Option P) → n ≡ length c.slots
      → FindsAhead (entry_at c) (record { low = 1; high = n; falls = falls })
      (option_map number given)
      → IfNone given ((j : ℕ) → entry_at c j ≡ None)
  none_at_all c number n falls (Some p) all finds = tt
  none_at_all c number n falls None all finds = each
    where
      each : (j : ℕ) → entry_at c j ≡ None
      each zero = refl
      each (suc k) =
          elim (leb_tells (suc k) n) [
            | inl within ↦ finds (suc k) (omega arith, within.1)
            | inr beyond ↦ none_past c (suc k) (omega (arith, all, beyond.1))
          ]

  -- the last one found among all slots: nothing after it is live
  pub none_after : {P : Type 0} (c : Content T) (number : P → ℕ × ℕ) (n : ℕ) (given : Option P)
      → n ≡ length c.slots
      → FindsAhead (entry_at c) (record { low = 1; high = n; falls = true })
      (option_map number given)
      → IfSome given (λ p. (j : ℕ) → (number p).0 < j → entry_at c j ≡ None)
  none_after c number n None all finds = tt
  none_after c number n (Some p) all finds =
      λ j beyond. elim (leb_tells j n) [
        | inl within ↦ finds.first j (omega (arith, beyond), within.1) beyond
        | inr past ↦ none_past c j (omega (arith, all, past.1))
      ]

-- Entries that are listed by rising indexes, and when two such lists are one.
use Rattle.std.proofs.Common.{◌≡◌, ◌≢◌, ℕ, suc, ◌+◌, ◌<◌, ◌≤◌, List, [], ◌∷◌, length, map, arith}
use Rattle.std.proofs.Common.{slice_index, Some, None, IsSome, is_some, true≢false}
use Rattle.std.proofs.Common.{inl, inr, refl, sym, ap, subst, ◌∙◌}
use Rattle.std.proofs.lemmas.Bool.{eq-eqb, ne_eqb, cases_order}
use Rattle.std.proofs.lemmas.Bool.Decides.{eqb_tells}
use Rattle.std.specs.List.Sorted.{IsStrictlyIncreasing}
use Rattle.triple_arena.specs.Compression.{index_of}
use Rattle.triple_arena.specs.Entries.{look_up}

module _ {T : Type 0} where
  -- the entries have indexes from this one on, each above those before it
  unfoldable pub RiseFrom : ℕ → List (ℕ × (ℕ × T)) → Type 0
  RiseFrom n [] = Unit {0}
  RiseFrom n (e ∷ l) = (n ≤ e.0) × RiseFrom (e.0 + 1) l

  pub rise_from : (n : ℕ) (l : List (ℕ × (ℕ × T))) → IsStrictlyIncreasing (map index_of l)
      → (0 < length l → n ≤ slice_index (map index_of l) 0) → RiseFrom n l
  unfolding RiseFrom
  rise_from n [] rises first = tt
  rise_from n (e ∷ l) rises first = (
    first (omega arith),
    rise_from (e.0 + 1) l (λ k below. step k (rises (suc k)
        (omega (arith, below)))) (λ some. later l rises some),
  )
    where
      step : (k : ℕ)
          → slice_index (map index_of (e ∷ l)) (suc k)
          < slice_index (map index_of (e ∷ l)) (suc k + 1)
          → slice_index (map index_of l) k < slice_index (map index_of l) (k + 1)
      step k less = let next : suc k + 1 ≡ suc (k + 1) = omega arith in rw next at less

      later : (l : List (ℕ × (ℕ × T))) → IsStrictlyIncreasing (map index_of (e ∷ l))
          → 0 < length l → e.0 + 1 ≤ slice_index (map index_of l) 0
      later [] rises some = absurd (omega (arith, some))
      later (x ∷ l) rises some = let next = rises 0 (omega arith) in omega (arith, next)

  -- nothing is listed below the first
  pub low_none : (n : ℕ) (l : List (ℕ × (ℕ × T))) → RiseFrom n l → (j : ℕ) → j < n
      → look_up l j ≡ None
  unfolding RiseFrom
  low_none n [] rise j less = refl
  low_none n (e ∷ l) rise j less =
      let up = rise.0 in
      let other : e.0 ≢ j = λ s. omega (arith, s, up, less) in
      rw (ne_eqb e.0 j other) (low_none (e.0 + 1) l rise.1 j (omega (arith, up, less)))

  pub first_stands : (e : ℕ × (ℕ × T)) (l : List (ℕ × (ℕ × T))) → look_up (e ∷ l) e.0 ≡ None → ⊥
  first_stands e l none = true≢false (ap is_some (rw (eq-eqb e.0 e.0 refl) at none))

  look_up_here : (e : ℕ × (ℕ × T)) (l : List (ℕ × (ℕ × T))) → look_up (e ∷ l) e.0 ≡ Some e.1
  look_up_here e l = rw (eq-eqb e.0 e.0 refl) refl

  pub look_up_other : (e : ℕ × (ℕ × T)) (l : List (ℕ × (ℕ × T))) (i : ℕ) → e.0 ≢ i
      → look_up (e ∷ l) i ≡ look_up l i
  look_up_other e l i differs = rw (ne_eqb e.0 i differs) refl

  -- what is listed under each index makes the list
  pub by_look_up : (n : ℕ) (k l : List (ℕ × (ℕ × T))) → RiseFrom n k → RiseFrom n l
      → ((i : ℕ) → look_up k i ≡ look_up l i) → k ≡ l
  unfolding RiseFrom
  by_look_up n [] [] rk rl same = refl
  by_look_up n [] (y ∷ l) rk rl same = absurd (first_stands y l (sym (same y.0)))
  by_look_up n (x ∷ k) [] rk rl same = absurd (first_stands x k (same x.0))
  by_look_up n (x ∷ k) (y ∷ l) rk rl same =
      elim (cases_order x.0 y.0) [
        | inl is ↦
            let here : Some x.1 ≡ Some y.1 =
            sym (look_up_here x k) ∙ same x.0 ∙ ap (look_up (y ∷ l)) is ∙ look_up_here y l in
            let first : x.1 ≡ y.1 = cc in
            let rest =
            by_look_up (x.0 + 1) k l rk.1 (subst (λ m. RiseFrom (m + 1) l) (sym is) rl.1)
            (others is) in
            ap (λ m. (m, x.1) ∷ k) is ∙ ap (λ e. (y.0, e) ∷ k) first ∙ ap (λ m. y ∷ m) rest
        | inr (inl less) ↦
            absurd (first_stands x k (same x.0 ∙ low_none (x.0 + 1) (y ∷ l)
            (omega (arith, less), rl.1) x.0 (omega arith)))
        | inr (inr more) ↦
            absurd (first_stands y l (sym (same y.0) ∙ low_none (y.0 + 1) (x ∷ k)
            (omega (arith, more), rk.1) y.0 (omega arith)))
      ]
    where
      others : x.0 ≡ y.0 → (i : ℕ) → look_up k i ≡ look_up l i
      others is i =
          elim (eqb_tells x.0 i) [
            | inl this ↦
                let low = this.1 in
                low_none (x.0 + 1) k rk.1 i (omega (arith, low))
                ∙ sym (low_none (y.0 + 1) l rl.1 i (omega (arith, low, is)))
            | inr other ↦
                sym (look_up_other x k i other.1) ∙ same i
                ∙ look_up_other y l i (λ z. other.1 (is ∙ z))
          ]

  -- a list whose indexes increase rises from where each of them is above
  pub rise_above : (n : ℕ) (l : List (ℕ × (ℕ × T))) → IsStrictlyIncreasing (map index_of l)
      → ((i : ℕ) → IsSome (look_up l i) → n ≤ i) → RiseFrom n l
  rise_above n l increase above = rise_from n l increase (first l above)
    where
      first : (m : List (ℕ × (ℕ × T))) → ((i : ℕ) → IsSome (look_up m i) → n ≤ i) → 0 < length m
          → n ≤ slice_index (map index_of m) 0
      first [] each some = absurd (omega (arith, some))
      first (x ∷ m) each some = each x.0 (ap is_some (look_up_here x m))

  -- so do the same entries under rising indexes
  pub same_listed : (k l : List (ℕ × (ℕ × T))) → IsStrictlyIncreasing (map index_of k)
      → IsStrictlyIncreasing (map index_of l) → ((i : ℕ) → look_up k i ≡ look_up l i) → k ≡ l
  same_listed k l ik il same =
      by_look_up 0 k l (rise_above 0 k ik (λ i some. omega arith))
      (rise_above 0 l il (λ i some. omega arith)) same

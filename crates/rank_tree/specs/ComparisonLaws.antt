-- What the bound on a search is.
use Rattle.std.proofs.Common.{◌≡◌, ℕ, zero, suc, ◌+◌, ◌*◌, ◌^◌, ◌<◌, ◌≤◌, inl, inr, arith, subst}
use Rattle.std.proofs.Common.{refl, Bool, true, false, cond, nat_le}
use Rattle.std.proofs.lemmas.Bool.{cases_cond, cases_lt, le-leb, leb-true}
use Rattle.std.proofs.lemmas.Nat.{mul-le}
use Rattle.std.proofs.Math.Nat.{pow-suc}
use Rattle.rank_tree.specs.Comparisons.{most_comparisons, most_comparisons_up_to}

-- no greater number of comparisons is within the bound
pub greatest : (n most c : ℕ) → c ≤ most → 2 ^ (c + 1) ≤ (n + 1) * (n + 1)
    → c ≤ most_comparisons_up_to n most
greatest n zero c within fits = within
greatest n (suc most) c within fits =
    elim (cases_lt most c) [
      | inl above ↦
          let is : c ≡ suc most = omega arith in
          let test : nat_le (2 ^ (suc most + 1)) ((n + 1) * (n + 1)) ≡ true =
          le-leb _ _ (subst (λ k. 2 ^ (k + 1) ≤ (n + 1) * (n + 1)) is fits) in
          rw test within
      | inr below ↦
          let smaller = greatest n most c below fits in
          elim (cases_cond (nat_le (2 ^ (suc most + 1)) ((n + 1) * (n + 1))) (suc most)
          (most_comparisons_up_to n most) _ refl) [
            | inl e ↦ rw e within
            | inr e ↦ rw e smaller
          ]
    ]

-- a number of comparisons is no more than its power of two
pub below_pow : (c : ℕ) → c < 2 ^ c
below_pow zero = omega arith
below_pow (suc c) = let h = below_pow c in rw pow-suc (omega arith)

-- a number found is within its bound
pub within_bound : (n most : ℕ) → 0 < n
    → 2 ^ (most_comparisons_up_to n most + 1) ≤ (n + 1) * (n + 1)
within_bound n zero some = let h =
    mul-le 2 2 (n + 1) (n + 1) (omega arith) (omega arith) in omega (arith, h)
within_bound n (suc most) some = at (nat_le (2 ^ (suc most + 1)) ((n + 1) * (n + 1))) refl
    (within_bound n most some)
  where
    at : (b : Bool) → nat_le (2 ^ (suc most + 1)) ((n + 1) * (n + 1)) ≡ b
        → 2 ^ (most_comparisons_up_to n most + 1) ≤ (n + 1) * (n + 1)
        → 2 ^ (cond b (suc most) (most_comparisons_up_to n most) + 1) ≤ (n + 1) * (n + 1)
    at true e below = leb-true _ _ e
    at false e below = below

-- and no greater number is: one that fits is no more than the square
pub most_comparisons-greatest : (n c : ℕ) → 2 ^ (c + 1) ≤ (n + 1) * (n + 1) → c ≤ most_comparisons n
most_comparisons-greatest n c fits =
    let below = below_pow (c + 1) in
    greatest n ((n + 1) * (n + 1)) c (omega (arith, below, fits)) fits

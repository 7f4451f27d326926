-- Where a linear chain is cut, and the neighbors of one of its indexes.
use Rattle.std.proofs.Common.{◌≡◌, ℕ, List, [], ◌∷◌, ◌++◌, Option, Some, None, IsSome, refl, sym}
use Rattle.std.proofs.Common.{ap, subst, inr, ◌⊎◌}
use Rattle.linked_lists.specs.LinkedLists.{Ends, IsSegment, IsLinear, first_or, last_or, IsBetween}
use Rattle.linked_lists.specs.LinkedLists.{next_in, prev_in, prev_at}
use Rattle.linked_lists.specs.LinkedListLaws.{segment-front, segment-back, last_or-append}

-- the last of a list
pub record Last (xs : List ℕ) (p : ℕ) : Type 0 where
  pub front : List ℕ
  pub is : xs ≡ front ++ p ∷ []

pub last_in : (xs : List ℕ) (p : ℕ) → last_or None xs ≡ Some p → Last xs p
last_in [] p e = absurd (cc)
last_in (x ∷ xs) p e = go x xs e
  where
    go : (x : ℕ) (xs : List ℕ) → last_or (Some x) xs ≡ Some p → Last (x ∷ xs) p
    go x [] e = record { front = []; is = let z : x ≡ p = cc in ap (λ y. y ∷ []) z }
    go x (y ∷ ys) e = let h = go y ys e in record { front = x ∷ h.front; is = ap (λ l. x ∷ l) h.is }

-- where a linear chain is cut, one more index may stand
pub linear_gap : (e : ℕ → Option Ends) (xs ys : List ℕ) → IsLinear e (xs ++ ys)
    → IsBetween e (last_or None xs, first_or ys None)
linear_gap e xs ys s = record {
  before = λ p is.
      let l = last_in xs p is in
      let front = subst (λ z. IsSegment e None z (first_or ys None)) l.is
      (segment-front e None None xs ys s) in
      let at : e p ≡ Some (last_or None l.front, first_or ys None) =
      (segment-back e None (first_or ys None) l.front (p ∷ []) front).0 in
      (some_at at, inr (ap next_in at));
  after = λ q is. at_first ys (segment-back e None None xs ys s) q is;
}
  where
    some_at : {o : Option Ends} {v : Ends} → o ≡ Some v → IsSome o
    some_at is = subst IsSome (sym is) refl

    at_first : (zs : List ℕ) → IsSegment e (last_or None xs) zs None → (q : ℕ)
        → first_or zs None ≡ Some q
        → IsSome (e q) × ((prev_at e q ≡ None) ⊎ (prev_at e q ≡ last_or None xs))
    at_first [] s q is = absurd (cc)
    at_first (z ∷ zs) s q is =
        let w : z ≡ q = cc in
        let at : e q ≡ Some (last_or None xs, first_or zs None) =
        subst (λ y. e y ≡ Some (last_or None xs, first_or zs None)) w s.0 in
        (some_at at, inr (ap prev_in at))

-- the neighbors of an index
pub linear_ends : (e : ℕ → Option Ends) (xs : List ℕ) (h : ℕ) (ys : List ℕ)
    → IsLinear e (xs ++ h ∷ ys) → e h ≡ Some (last_or None xs, first_or ys None)
linear_ends e xs h ys s = (segment-back e None None xs (h ∷ ys) s).0

pub last_snoc : (xs : List ℕ) (h : ℕ) → last_or None (xs ++ h ∷ []) ≡ Some h
last_snoc xs h = last_or-append None xs (h ∷ [])

-- Which pointers a list has.
use Rattle.std.proofs.Common.{◌≡◌, ◌⊎◌, inl, inr, ℕ, List, [], ◌∷◌, ◌++◌, sym, subst}
use Rattle.std.specs.Prelude.{reverse}
use Rattle.std.proofs.lemmas.List.{reverse-append}
use Rattle.triple_arena.specs.Entries.{IsOneOf}

pub either_of : (l m : List (ℕ × ℕ)) (p : ℕ × ℕ) → IsOneOf (l ++ m) p → IsOneOf l p ⊎ IsOneOf m p
either_of [] m p one = inr one
either_of (q ∷ l) m p (inl here) = inl (inl here)
either_of (q ∷ l) m p (inr one) = later (either_of l m p one)
  where
    later : IsOneOf l p ⊎ IsOneOf m p → IsOneOf (q ∷ l) p ⊎ IsOneOf m p
    later (inl first) = inl (inr first)
    later (inr second) = inr second

pub first_of : (l m : List (ℕ × ℕ)) (p : ℕ × ℕ) → IsOneOf l p → IsOneOf (l ++ m) p
first_of [] m p one = absurd one
first_of (q ∷ l) m p (inl here) = inl here
first_of (q ∷ l) m p (inr one) = inr (first_of l m p one)

pub second_of : (l m : List (ℕ × ℕ)) (p : ℕ × ℕ) → IsOneOf m p → IsOneOf (l ++ m) p
second_of [] m p one = one
second_of (q ∷ l) m p one = inr (second_of l m p one)

-- the list turned round, with its first item last
pub turned : {X : Type 0} (x : X) (l : List X) → reverse (x ∷ l) ≡ reverse l ++ x ∷ []
turned x l = reverse-append (x ∷ []) l

-- it has the same pointers
pub in_turned : (l : List (ℕ × ℕ)) (p : ℕ × ℕ) → IsOneOf (reverse l) p → IsOneOf l p
in_turned [] p one = one
in_turned (q ∷ l) p one =
    back (in_turned l p) (either_of (reverse l) (q ∷ []) p
    (subst (λ m. IsOneOf m p) (turned q l) one))
  where
    back : (IsOneOf (reverse l) p → IsOneOf l p) → IsOneOf (reverse l) p ⊎ IsOneOf (q ∷ []) p
        → IsOneOf (q ∷ l) p
    back behind (inl later) = inr (behind later)
    back behind (inr (inl here)) = inl here
    back behind (inr (inr none)) = absurd none

pub turned_in : (l : List (ℕ × ℕ)) (p : ℕ × ℕ) → IsOneOf l p → IsOneOf (reverse l) p
turned_in [] p one = one
turned_in (q ∷ l) p (inl here) =
    subst (λ m. IsOneOf m p) (sym (turned q l)) (second_of (reverse l) (q ∷ []) p (inl here))
turned_in (q ∷ l) p (inr one) =
    subst (λ m. IsOneOf m p) (sym (turned q l))
    (first_of (reverse l) (q ∷ []) p (turned_in l p one))

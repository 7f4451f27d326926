-- The laws of comparisons and of hashing, at options.
use Rattle.std.specs.Prelude.{◌≡◌, List, ℕ, ◌∷◌, Bool, true, Option, Some, None, IsTrue, refl}
use Rattle.std.specs.Cmp.{IsPartialEquivalence, IsPartialOrder, IsTotalOrder}
use Rattle.std.specs.Hash.{le_bytes, option as option_fed}
use Rattle.std.specs.Option.{option_map, option_eq, option_cmp, option_partial_cmp}
use Rattle.std.specs.Ordering.{ordering_reverse}
use Rattle.std.specs.declared.cmp.Ordering.{Ordering}
use Rattle.std.specs.declared.cmp.Ordering.TheVariants.{Less, Equal}
use Rattle.std.proofs.Common.{ap, is_eq}

-- what a write of 1 feeds
abbrev tagged : List ℕ
tagged = le_bytes 8 1

module _ {K : Type 0} {E : K → K → Bool} where
  pub options_per : IsPartialEquivalence E → IsPartialEquivalence (option_eq E)
  options_per e = record { symm = flip; trans = on }
    where
      flip : (p q : Option K) → option_eq E p q ≡ option_eq E q p
      flip None None = refl
      flip None (Some y) = refl
      flip (Some x) None = refl
      flip (Some x) (Some y) = e.symm x y

      on : (p q s : Option K) → option_eq E p q ≡ true → option_eq E q s ≡ true
          → option_eq E p s ≡ true
      on None None s h k = k
      on None (Some y) s h k = absurd (cc)
      on (Some x) None s h k = absurd (cc)
      on (Some x) (Some y) None h k = k
      on (Some x) (Some y) (Some z) h k = e.trans x y z h k

  pub options_fed : (F : K → List (List ℕ)) → ((x y : K) → IsTrue (E x y) → F x ≡ F y)
      → (p q : Option K) → IsTrue (option_eq E p q)
      → option_fed F p ≡ option_fed F q
  options_fed F same None None h = refl
  options_fed F same None (Some y) h = absurd (cc)
  options_fed F same (Some x) None h = absurd (cc)
  options_fed F same (Some x) (Some y) h = ap (λ l. tagged ∷ l) (same x y h)

  pub options_tied : (R : K → K → Ordering) → ((x y : K) → E x y ≡ is_eq (R x y)) → (p q : Option K)
      → option_eq E p q ≡ is_eq (option_cmp R p q)
  options_tied R tied None None = refl
  options_tied R tied None (Some y) = refl
  options_tied R tied (Some x) None = refl
  options_tied R tied (Some x) (Some y) = tied x y

  pub options_po : (C : K → K → Option Ordering) → IsPartialOrder E C
      → IsPartialOrder (option_eq E) (option_partial_cmp C)
  options_po C o = record { antisymm = flip; trans = on; matches_eq = tied; congr = alike }
    where
      flip : (p q : Option K)
          → option_partial_cmp C p q ≡ option_map ordering_reverse (option_partial_cmp C q p)
      flip None None = refl
      flip None (Some y) = refl
      flip (Some x) None = refl
      flip (Some x) (Some y) = o.antisymm x y

      on : (p q s : Option K) → option_partial_cmp C p q ≡ Some Less
          → option_partial_cmp C q s ≡ Some Less → option_partial_cmp C p s ≡ Some Less
      on None None s h k = absurd (cc)
      on None (Some y) None h k = absurd (cc)
      on None (Some y) (Some z) h k = refl
      on (Some x) None s h k = absurd (cc)
      on (Some x) (Some y) None h k = absurd (cc)
      on (Some x) (Some y) (Some z) h k = o.trans x y z h k

      tied : (p q : Option K) → (option_eq E p q ≡ true → option_partial_cmp C p q ≡ Some Equal)
          × (option_partial_cmp C p q ≡ Some Equal → option_eq E p q ≡ true)
      tied None None = (λ h. refl, λ h. refl)
      tied None (Some y) = (λ h. absurd (cc), λ h. absurd (cc))
      tied (Some x) None = (λ h. absurd (cc), λ h. absurd (cc))
      tied (Some x) (Some y) = o.matches_eq x y

      alike : (p q s : Option K) → option_eq E p q ≡ true
          → option_partial_cmp C p s ≡ option_partial_cmp C q s
      alike None None s h = refl
      alike None (Some y) s h = absurd (cc)
      alike (Some x) None s h = absurd (cc)
      alike (Some x) (Some y) None h = refl
      alike (Some x) (Some y) (Some z) h = o.congr x y z h

module _ {K : Type 0} where
  pub options_agree : (C : K → K → Option Ordering) (R : K → K → Ordering)
      → ((x y : K) → C x y ≡ Some (R x y)) → (p q : Option K)
      → option_partial_cmp C p q ≡ Some (option_cmp R p q)
  options_agree C R same None None = refl
  options_agree C R same None (Some y) = refl
  options_agree C R same (Some x) None = refl
  options_agree C R same (Some x) (Some y) = same x y

-- the laws of a comparison hold of what a function makes of two things
module _ {K V : Type 0} (E : K → K → Bool) where
  pub per_by : (f : V → K) → IsPartialEquivalence E
      → IsPartialEquivalence (λ (x : V) (y : V). E (f x) (f y))
  per_by f e = record {
    symm = λ p q. e.symm (f p) (f q);
    trans = λ p q s. e.trans (f p) (f q) (f s);
  }

  pub po_by : (C : K → K → Option Ordering) (f : V → K) → IsPartialOrder E C
      → IsPartialOrder (λ (x : V) (y : V). E (f x) (f y)) (λ (x : V) (y : V). C (f x) (f y))
  po_by C f o = record {
    antisymm = λ p q. o.antisymm (f p) (f q);
    trans = λ p q s. o.trans (f p) (f q) (f s);
    matches_eq = λ p q. o.matches_eq (f p) (f q);
    congr = λ p q s. o.congr (f p) (f q) (f s);
  }

pub total_by : {K V : Type 0} (R : K → K → Ordering) (f : V → K) → IsTotalOrder R
    → IsTotalOrder (λ (x : V) (y : V). R (f x) (f y))
total_by R f o = record {
  antisymm = λ p q. o.antisymm (f p) (f q);
  trans = λ p q s. o.trans (f p) (f q) (f s);
  congr = λ p q s. o.congr (f p) (f q) (f s);
}

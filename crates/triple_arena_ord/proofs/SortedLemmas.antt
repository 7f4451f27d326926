-- A sorted list parts at a key.
use Rattle.std.specs.List.{AllByRecursion}
use Rattle.std.proofs.Common.{◌≡◌, ℕ, suc, ◌+◌, List, [], ◌∷◌, get_or, filter_map, Option, Some}
use Rattle.std.proofs.Common.{None, IsSome, refl, sym, ap, ◌∙◌, subst, arith, false, true}
use Rattle.std.specs.Option.{option_map}
use Rattle.std.specs.Cmp.{IsTotalOrder}
use Rattle.std.specs.Ordering.{is_lt, ordering_reverse}
use Rattle.std.specs.List.Sorted.{IsSorted}
use Rattle.std.specs.declared.cmp.Ordering.{Ordering}
use Rattle.std.specs.declared.cmp.Ordering.TheVariants.{Less, Equal, Greater}
use Rattle.std.proofs.lemmas.Cmp.{alike_right}
use Rattle.rank_tree.specs.Search.{MayPrecede, IsParted}
use Rattle.triple_arena_ord.specs.Ordered.{asked_of}
use Rattle.rank_tree.specs.DescentLaws.{all-map}

before-trans : (a b c : Ordering) → MayPrecede a b → MayPrecede b c → MayPrecede a c
before-trans a b c p q =
    record { less = λ e. q.less (p.less e); greater = λ e. p.greater (q.greater e) }

module _ {K : Type 0} {R : K → K → Ordering} (o : IsTotalOrder R) where
  -- what is not above something parts no later than it
  pub parts : (k x y : K) → is_lt (R y x) ≡ false → MayPrecede (R k x) (R k y)
  parts k x y h = by (R x y) refl
    where
      by : (a : Ordering) → R x y ≡ a → MayPrecede (R k x) (R k y)
      by Less e = record {
        less = λ u. o.trans k x y u e;
        greater = λ u.
            let back : R y k ≡ Less = o.antisymm y k ∙ ap ordering_reverse u in
            o.antisymm k x ∙ ap ordering_reverse (o.trans x y k e back);
      }
      by Equal e = let same = alike_right o x y k e in
          record { less = λ u. sym same ∙ u; greater = λ u. same ∙ u }
      by Greater e = let back : R y x ≡ Less = o.antisymm y x
          ∙ ap ordering_reverse e in let z : is_lt (R y x) ≡ true = ap is_lt back in absurd (cc)

  module _ {T : Type 0} (key : T → K) (entry : ℕ → Option (ℕ × T)) where
    abbrev listed_of : List ℕ → List (ℕ × (ℕ × T))
    listed_of w = filter_map (λ i. option_map (λ e. (i, e)) (entry i)) w

    abbrev below : ℕ × (ℕ × T) → ℕ × (ℕ × T) → Ordering
    below x y = R (key x.1.1) (key y.1.1)

    sorted-tail : (x : ℕ × (ℕ × T)) (xs : List (ℕ × (ℕ × T))) → IsSorted below (x ∷ xs)
        → IsSorted below xs
    sorted-tail x xs s k d low high =
        let up : suc k + 1 ≡ suc (k + 1) = omega arith in
        subst (λ z. is_lt (below (get_or (x ∷ xs) z d) (get_or xs k d)) ≡ false) up
        (s (suc k) d (omega arith) (omega arith))

    listed-cons : (i : ℕ) (e : ℕ × T) (w : List ℕ) → entry i ≡ Some e
        → listed_of (i ∷ w) ≡ (i, e) ∷ listed_of w
    listed-cons i e w at = rw at refl

    pub parted_from : (k : K) (w : List ℕ) → AllByRecursion (λ i. IsSome (entry i)) w
        → IsSorted below (listed_of w) → IsParted (λ i. asked_of R key k (entry i)) w
    parted_from k [] all s = tt
    parted_from k (i ∷ []) all s = (tt, tt)
    parted_from k (i ∷ j ∷ w) all s =
        by (entry i) (entry j) refl refl (λ t. parted_from k (j ∷ w) all.1 t)
      where
        f : ℕ → Ordering
        f = λ i. asked_of R key k (entry i)

        by : (a b : Option (ℕ × T)) → entry i ≡ a → entry j ≡ b
            → (IsSorted below (listed_of (j ∷ w)) → IsParted f (j ∷ w)) → IsParted f (i ∷ j ∷ w)
        by None b at_i at_j next = absurd (let z = subst IsSome at_i all.0 in cc)
        by (Some a) None at_i at_j next = absurd (let z = subst IsSome at_j all.1.0 in cc)
        by (Some a) (Some b) at_i at_j next =
            let opened : listed_of (i ∷ j ∷ w) ≡ (i, a) ∷ listed_of (j ∷ w) =
            listed-cons i a (j ∷ w) at_i in
            let second : listed_of (j ∷ w) ≡ (j, b) ∷ listed_of w = listed-cons j b w at_j in
            let s2 : IsSorted below ((i, a) ∷ listed_of (j ∷ w)) =
            subst (IsSorted below) opened s in
            let s3 : IsSorted below ((i, a) ∷ (j, b) ∷ listed_of w) =
            subst (λ l. IsSorted below ((i, a) ∷ l)) second s2 in
            let later : IsParted f (j ∷ w) = next (sorted-tail (i, a) (listed_of (j ∷ w)) s2) in
            let fi : f i ≡ R k (key a.1) = ap (λ e. asked_of R key k e) at_i in
            let fj : f j ≡ R k (key b.1) = ap (λ e. asked_of R key k e) at_j in
            let step : MayPrecede (f i) (f j) =
            rw (fi, fj) (parts k (key a.1) (key b.1) (s3 0 (i, a) (omega arith) (omega arith)))
            in (
              (
                step,
                all-map (λ y. MayPrecede (f j) (f y)) (λ y. MayPrecede (f i) (f y))
                    (λ y z. before-trans (f i) (f j) (f y) step z) w later.0,
              ),
              later,
            )

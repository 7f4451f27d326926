-- The halving tree keeps the rank rules, at every length.
use Rattle.std.proofs.Common.{◌≡◌, ℕ, zero, suc, ◌+◌, ◌-◌, ◌*◌, ◌/◌, ◌^◌, ◌<◌, ◌≤◌, ◌⊎◌, arith, inl}
use Rattle.std.proofs.Common.{inr, refl, sym, ap, subst, ◌∙◌, lit<, List, [], ◌∷◌, ◌++◌, length}
use Rattle.std.specs.Prelude.{min}
use Rattle.std.proofs.lemmas.Bool.Decides.{leb_tells, nat_tests}
use Rattle.std.proofs.Math.Nat.{pow-succ', pow-le-pow_right}
use Rattle.rank_tree.specs.Tree.{Tree, leaf, node, walk, size, rank_of, Fits, IsRanked}
use Rattle.rank_tree.specs.ClimbLaws.{size-walk}
use Rattle.rank_tree.specs.Halving.{part_rank, IsHalving, IsTopRank, IsHalvingOf}

-- the sizes of the parts at a depth whose greater parts have rank k
pub record Within (k m : ℕ) : Type 0 where
  pub exponent : ℕ
  pub is : k ≡ 1 + exponent
  pub upper : m ≤ 2 ^ exponent + 1
  pub lower : 2 ^ exponent ≤ 2 * (m + 1)

small : (k m : ℕ) → m ≤ 4 → part_rank k m ≡ min m 3
small k m h = grind (arith, nat_tests)

great : (k m : ℕ) → 5 ≤ m → part_rank k m ≡ k
great k m h = grind (arith, nat_tests)

-- either few entries, or as many as the rank says
abbrev pub IsPart : ℕ → ℕ → Type 0
IsPart k m = (m ≤ 4) ⊎ Within k m

-- of more than four entries the exponent is at least 2
exponent-two : (s m : ℕ) → 5 ≤ m → m ≤ 2 ^ s + 1 → 2 ≤ s
exponent-two zero m h g = absurd (omega (arith, h, g))
exponent-two (suc zero) m h g = absurd (omega (arith, h, g))
exponent-two (suc (suc s)) m h g = omega arith

half-within : (k m c : ℕ) → 5 ≤ m → Within k m → 2 * c ≤ m → m ≤ 2 * c + 2 → Within (k - 1) c
half-within k m c five w up low
    = by w.exponent w.is w.upper w.lower (exponent-two w.exponent m five w.upper)
  where
    by : (s : ℕ) → k ≡ 1 + s → m ≤ 2 ^ s + 1 → 2 ^ s ≤ 2 * (m + 1) → 2 ≤ s → Within (k - 1) c
    by zero is upper lower two = absurd (omega (arith, two))
    by (suc zero) is upper lower two = absurd (omega (arith, two))
    by (suc (suc s)) is upper lower two =
        let double : 2 ^ suc (suc s) ≡ 2 * 2 ^ suc s = pow-succ' 2 (suc s) in
        let even : 2 ^ suc s ≡ 2 * 2 ^ s = pow-succ' 2 s in
        record {
          exponent = suc s;
          is = omega (arith, is);
          upper = omega (arith, double, upper, up);
          lower = omega (arith, double, even, lower, low);
        }

record IsUnder (a k : ℕ) : Type 0 where
  above : a < k
  near : k ≤ a + 2

child-under : (k m c : ℕ) → 5 ≤ m → Within k m → 2 * c ≤ m → m ≤ 2 * c + 2
    → IsUnder (part_rank (k - 1) c) k
child-under k m c five w up low =
    elim (leb_tells c 4) [
      | inl few ↦ rw (small (k - 1) c few.1) (by w.exponent w.is w.upper w.lower few.1)
      | inr many ↦
          let big : 5 ≤ c = omega (arith, many.1) in
          let two = exponent-two w.exponent m five w.upper in
          let is = w.is in
          rw (great (k - 1) c big)
          (record { above = omega (arith, is, two); near = omega (arith, is, two) })
    ]
  where
    by : (s : ℕ) → k ≡ 1 + s → m ≤ 2 ^ s + 1 → 2 ^ s ≤ 2 * (m + 1) → c ≤ 4 → IsUnder (min c 3) k
    by zero is upper lower few = absurd (omega (arith, five, upper))
    by (suc zero) is upper lower few = absurd (omega (arith, five, upper))
    by (suc (suc zero)) is upper lower few = record { above = omega arith; near = omega arith }
    by (suc (suc (suc zero))) is upper lower few
        = record { above = omega arith; near = omega arith }
    by (suc (suc (suc (suc zero)))) is upper lower few
        = record { above = omega arith; near = omega arith }
    by (suc (suc (suc (suc (suc s))))) is upper lower few =
        let more : 2 ^ 5 ≤ 2 ^ suc (suc (suc (suc (suc s)))) =
        pow-le-pow_right {n = 2} (lit< tt) {i = 5} {j = suc (suc (suc (suc (suc s))))}
        (omega arith) in
        absurd (omega (arith, more, lower, few, low))

rank_is : (k : ℕ) (t : Tree) → IsHalving k t → rank_of t ≡ part_rank k (size t)
rank_is k leaf h = refl
rank_is k (node l i r t) h = h.1

-- a halving tree whose size fits its rank keeps the rules
pub ranked : (k : ℕ) (t : Tree) → IsPart k (size t) → IsHalving k t → IsRanked t
ranked k leaf p h = tt
ranked k (node l i r t) p h
    = (
      fits p,
      ranked (k - 1) l (part (size l) (omega arith) (omega arith) p) h.2,
      ranked (k - 1) t (part (size t) (omega arith) (omega arith) p) h.3,
    )
  where
    m : ℕ
    m = size l + size t + 1

    part : (c : ℕ) → 2 * c ≤ size l + size t + 1 → size l + size t + 1 ≤ 2 * c + 2
        → IsPart k (size l + size t + 1) → IsPart (k - 1) c
    part c up low (inl few) = inl (omega arith)
    part c up low (inr w) =
        elim (leb_tells (size l + size t + 1) 4) [
          | inl few ↦ inl (omega (arith, few.1))
          | inr many ↦ inr (half-within k (size l + size t + 1) c (omega (arith, many.1)) w up low)
        ]

    few_fits : size l + size t + 1 ≤ 4 → Fits (rank_of l) r (rank_of t)
    few_fits few =
        rw (
          rank_is (k - 1) l h.2,
          rank_is (k - 1) t h.3,
          h.1,
          small k (size l + size t + 1) few,
          small (k - 1) (size l) (omega arith),
          small (k - 1) (size t) (omega arith),
        )
        (record {
          above_left = omega arith;
          near_left = omega arith;
          above_right = omega arith;
          near_right = omega arith;
          childless = omega arith;
        })

    many_fits : 5 ≤ size l + size t + 1 → Within k (size l + size t + 1)
        → Fits (rank_of l) r (rank_of t)
    many_fits many w =
        let a = child-under k (size l + size t + 1) (size l) many w (omega arith) (omega arith) in
        let b = child-under k (size l + size t + 1) (size t) many w (omega arith) (omega arith) in
        let two = exponent-two w.exponent (size l + size t + 1) many w.upper in
        let is = w.is in
        rw (rank_is (k - 1) l h.2, rank_is (k - 1) t h.3, h.1, great k (size l + size t + 1) many)
        (record {
          above_left = a.above;
          near_left = a.near;
          above_right = b.above;
          near_right = b.near;
          childless = omega (arith, a.near, b.near, is, two);
        })

    fits : IsPart k (size l + size t + 1) → Fits (rank_of l) r (rank_of t)
    fits (inl few) = few_fits few
    fits (inr w) =
        elim (leb_tells (size l + size t + 1) 4) [
          | inl few ↦ few_fits few.1
          | inr many ↦ many_fits (omega (arith, many.1)) w
        ]

-- the least exponent is that of the size
top-within : (n k : ℕ) → 5 ≤ n → IsTopRank n k → Within k n
top-within n k five top = by top.exponent top.is top.reaches top.least
  where
    by : (s : ℕ) → k ≡ 1 + s → n ≤ 2 ^ s + 1 → ((r : ℕ) → n ≤ 2 ^ r + 1 → s ≤ r) → Within k n
    by zero is upper least = absurd (omega (arith, five, upper))
    by (suc s) is upper least =
        let double : 2 ^ suc s ≡ 2 * 2 ^ s = pow-succ' 2 s in
        record {
          exponent = suc s;
          is = is;
          upper = upper;
          lower =
              elim (leb_tells n (2 ^ s + 1)) [
                | inl within ↦ absurd (let short = least s within.1 in omega (arith, short))
                | inr past ↦ let over = past.1 in omega (arith, over, double)
              ];
        }

-- the halving tree of a list keeps the rank rules
pub halving_ranked : (w : List ℕ) (t : Tree) → IsHalvingOf w t → IsRanked t
halving_ranked w t h =
    ranked h.top t (elim (leb_tells (size t) 4) [
      | inl few ↦ inl few.1
      | inr many ↦ inr (top-within (size t) h.top (omega (arith, many.1)) h.top_rank)
    ]) h.halves

-- two lists of which a front of one length and the rest are the same
seam : (xs ys v w : List ℕ) → length xs ≡ length ys → xs ++ v ≡ ys ++ w → (xs ≡ ys) × (v ≡ w)
seam [] [] v w long same = (refl, same)
seam [] (y ∷ ys) v w long same = absurd (cc)
seam (x ∷ xs) [] v w long same = absurd (cc)
seam (x ∷ xs) (y ∷ ys) v w long same =
    let rest = seam xs ys v w (cc) (cc) in let first : x ≡ y =
    cc in (ap (λ z. z ∷ xs) first ∙ ap (λ zs. y ∷ zs) rest.0, rest.1)

-- halving trees of one walk, with one rank at the top, are the same
halving_same : (k : ℕ) (t u : Tree) → walk t ≡ walk u → IsHalving k t → IsHalving k u → t ≡ u
halving_same k leaf leaf same h g = refl
halving_same k leaf (node l i r t) same h g
    = absurd (let n = size-walk (node l i r t) ∙ ap length (sym same) in omega (arith, n))
halving_same k (node l i r t) leaf same h g
    = absurd (let n = size-walk (node l i r t) ∙ ap length same in omega (arith, n))
halving_same k (node l i r t) (node l' i' r' t') same h g =
    let whole : size l + size t + 1 ≡ size l' + size t' + 1 =
    size-walk (node l i r t) ∙ ap length same ∙ sym (size-walk (node l' i' r' t')) in
    let half : size l ≡ size l' = h.0 ∙ ap (λ n. n / 2) whole ∙ sym g.0 in
    let parts = seam (walk l) (walk l') (i ∷ walk t) (i' ∷ walk t')
    (sym (size-walk l) ∙ half ∙ size-walk l') same in
    let left : l ≡ l' = halving_same (k - 1) l l' parts.0 h.2 g.2 in
    let right : t ≡ t' = halving_same (k - 1) t t' (cc) h.3 g.3 in
    let root : i ≡ i' = cc in
    let rank : r ≡ r' = h.1 ∙ ap (part_rank k) whole ∙ sym g.1 in
    rw (left, right, root, rank) refl

-- a list has one halving tree
pub halving_unique : (w : List ℕ) (t u : Tree) → IsHalvingOf w t → IsHalvingOf w u → t ≡ u
halving_unique w t u h g =
    let same : walk t ≡ walk u = h.is_walk ∙ sym g.is_walk in
    let long : size t ≡ size u = size-walk t ∙ ap length same ∙ sym (size-walk u) in
    halving_same h.top t u same h.halves
    (subst (λ k. IsHalving k u)
    (top_same (size t) (size u) long h.top g.top h.top_rank g.top_rank) g.halves)
  where
    top_same : (m n : ℕ) → m ≡ n → (j k : ℕ) → IsTopRank m j → IsTopRank n k → k ≡ j
    top_same m n long j k a b =
        let low = a.least b.exponent (subst (λ x. x ≤ 2 ^ b.exponent + 1) (sym long) b.reaches) in
        let high = b.least a.exponent (subst (λ x. x ≤ 2 ^ a.exponent + 1) long a.reaches) in
        let one = a.is in let two = b.is in omega (arith, low, high, one, two)

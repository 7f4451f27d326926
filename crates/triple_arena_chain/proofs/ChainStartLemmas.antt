-- The walk back to the first index of a chain.
use Rattle.std.proofs.Common.{◌≡◌, ◌≢◌, ℕ, suc, ◌+◌, ◌<◌, ◌≤◌, List, [], ◌∷◌, ◌++◌, length, Option}
use Rattle.std.proofs.Common.{Some, None, IsSome, is_some, true≢false, refl, sym, ap, subst, ◌∙◌}
use Rattle.std.proofs.Common.{arith, inl, inr}
use Rattle.linked_lists.specs.LinkedLists.{Ends, next_in, prev_in, next_at, prev_at, IsAgreed}
use Rattle.linked_lists.specs.LinkedLists.{first_or, last_or, IsSegment, Off, On, Apart, IsRing}
use Rattle.linked_lists.specs.LinkedListLaws.{segment-back, few, Below}
use Rattle.linked_lists.specs.UniquenessLaws.{ended, Ended, none, some_last}
use Rattle.linked_lists.specs.ChainLaws.{On-first, On-back, off_or_not, on_differs, of_live}
use Rattle.linked_lists.specs.ChainLaws.{live_next_in, live_on, holds_prev, turned}
use Rattle.linked_lists.specs.LinkedListLaws.{last_or-append}
use Rattle.linked_lists.specs.Chains.{Chain, Cyclic, members, IsChainOf}
use Rattle.triple_arena_chain.specs.CanonicalLayout.{IsHead, IsClosed}

module _ (e : ℕ → Option Ends) where
  -- a walk back from `k` has come to `at`
  pub record IsBack (k at steps : ℕ) : Type 0 where
    pub ys : List ℕ
    pub stands : IsSegment e (prev_at e at) (at ∷ ys) (next_at e k)
    pub ends_with : last_or (Some at) ys ≡ Some k
    pub apart : Apart (at ∷ ys)
    pub long : length ys ≡ steps
    pub past : (low : ℕ) → IsClosed e low → low < k → low < at
    pub same : (c : Chain) → IsChainOf e c → On (members c) k → On (members c) at
    pub starts : prev_at e k ≡ None → at ≡ k

  pub back_begun : (k : ℕ) → IsSome (e k) → IsBack k k 0
  back_begun k some =
      record {
        ys = [];
        stands = (of_live (e k) some, tt);
        ends_with = refl;
        apart = (tt, tt);
        long = refl;
        past = λ low closed less. less;
        same = λ c is on. on;
        starts = λ no. refl;
      }

  -- the links passed are few
  all_below : (n : ℕ) (xs : List ℕ) → ((i : ℕ) → IsSome (e i) → i ≤ n)
      → ((i : ℕ) → On xs i → IsSome (e i)) → Below (suc n) xs
  all_below n [] bound live = tt
  all_below n (x ∷ xs) bound live =
      let here = bound x (live x (On-first x xs)) in
      (omega (arith, here), all_below n xs bound (λ i on. live i (On-back (x ∷ []) xs i on)))

  pub back_few : (n k at steps : ℕ) → IsBack k at steps → e 0 ≡ None
      → ((i : ℕ) → IsSome (e i) → i ≤ n) → steps + 1 ≤ n
  back_few n k at steps b zeroth bound =
      let live = λ (i : ℕ) (on : On (at ∷ b.ys) i). live_on e (prev_at e at) (next_at e k)
      (at ∷ b.ys) i b.stands on in
      let off : Off (at ∷ b.ys) 0 =
      off_or_not (at ∷ b.ys) 0 (λ on. true≢false (sym (live 0 on) ∙ ap is_some zeroth)) in
      let all = few (suc n) (0 ∷ (at ∷ b.ys)) (off, b.apart)
      (omega arith, all_below n (at ∷ b.ys) bound live) in
      let long = b.long in
      omega (arith, all, long)

  module _ (agreed : IsAgreed e) (k at steps : ℕ) (b : IsBack k at steps) where
    -- what is before is passed only where the walk comes round
    off_back : (p : ℕ) → prev_at e at ≡ Some p → p ≢ k → Off (at ∷ b.ys) p
    off_back p comes other =
        off_or_not (at ∷ b.ys) p
        (λ on.
        let t = segment-back e (prev_at e at) (next_at e k) on.front (p ∷ on.back)
        (subst (λ l. IsSegment e (prev_at e at) l (next_at e k)) on.is b.stands) in
        let goes = agreed.backward p at comes in
        by on.front on.back on.is (sym (ap next_in t.0) ∙ goes))
      where
        last_here : (front : List ℕ) → at ∷ b.ys ≡ front ++ p ∷ [] → p ≡ k
        last_here front is =
            let end : Some p ≡ Some k = sym (last_or-append None front (p ∷ []))
            ∙ sym (ap (last_or None) is) ∙ b.ends_with in cc

        twice : (front back : List ℕ) → at ∷ b.ys ≡ front ++ p ∷ at ∷ back → ⊥
        twice [] back is =
            let rest : b.ys ≡ at ∷ back = cc in
            on_differs b.ys at at (subst (λ l. On l at) (sym rest) (On-first at back)) b.apart.0
            refl
        twice (x ∷ front) back is =
            let rest : b.ys ≡ front ++ p ∷ at ∷ back = cc in
            on_differs b.ys at at
            (subst (λ l. On l at) (sym rest)
            (On-back front (p ∷ at ∷ back) at
            (On-back (p ∷ []) (at ∷ back) at (On-first at back)))) b.apart.0 refl

        by : (front back : List ℕ) → at ∷ b.ys ≡ front ++ p ∷ back
            → first_or back (next_at e k) ≡ Some at → ⊥
        by front [] is next = other (last_here front is)
        by front (z ∷ zs) is next =
            let same : z ≡ at = cc in
            twice front zs (is ∙ ap (λ y. front ++ p ∷ y ∷ zs) same)

    pub back_more : (p : ℕ) → prev_at e at ≡ Some p → p ≢ k → IsBack k p (steps + 1)
    back_more p comes other =
        let goes = agreed.backward p at comes in
        let some = live_next_in (e p) at goes in
        let long = b.long in
        record {
          ys = at ∷ b.ys;
          stands = (
            of_live (e p) some ∙ ap (λ o. Some (prev_at e p, o)) goes,
            subst (λ o. IsSegment e o (at ∷ b.ys) (next_at e k)) comes b.stands,
          );
          ends_with = b.ends_with;
          apart = (off_back p comes other, b.apart);
          long = omega (arith, long);
          past = λ low closed less.
              let up = b.past low closed less in
              (λ (within : p ≤ low → at ≤ low). before p at low within up)
              (λ within. closed.on p at goes within);
          same = λ c is on. holds_prev e c at p is (b.same c is on) comes;
          starts = λ no. absurd
              (let is = b.starts no in let gone : None ≡ Some p = sym no ∙ ap (prev_at e) (sym is)
              ∙ comes in cc);
        }
      where
        before : (p at low : ℕ) → (p ≤ low → at ≤ low) → low < at → low < p
        before p at low within up = grind arith

    -- without a previous one it is the first
    pub back_none : prev_at e at ≡ None → (IsHead e k → at ≡ k)
    back_none lone (inl start) = b.starts start
    back_none lone (inr ring) =
        absurd (by (b.same (Cyclic (k ∷ ring.0)) ring.1 (On-first k ring.0)))
      where
        by : On (k ∷ ring.0) at → ⊥
        by on =
            let t = turned e on.front at on.back (subst (IsRing e) on.is ring.1) in
            let last : prev_at e at ≡ last_or (Some at) (on.back ++ on.front) =
            ap prev_in t.stands.0 in
            never (on.back ++ on.front) at (sym last ∙ lone)
          where
            never : (xs : List ℕ) (x : ℕ) → last_or (Some x) xs ≡ None → ⊥
            never [] x is = let gone : Some x ≡ None = is in cc
            never (y ∷ ys) x is = never ys y is

    -- and where it comes round it was on a ring
    pub back_ring : prev_at e at ≡ Some k → IsHead e k
    back_ring comes =
        let goes = agreed.backward k at comes in
        let s : IsSegment e (Some k) (at ∷ b.ys) (Some at) =
        subst (IsSegment e (Some k) (at ∷ b.ys)) goes
        (subst (λ o. IsSegment e o (at ∷ b.ys) (next_at e k)) comes b.stands) in
        let ring : IsRing e (at ∷ b.ys) =
        record {
          stands = subst (λ o. IsSegment e o (at ∷ b.ys) (Some at)) (sym b.ends_with) s;
          apart = b.apart;
        } in
        by ring (ended (at ∷ b.ys))
      where
        by : IsRing e (at ∷ b.ys) → Ended (at ∷ b.ys) → IsHead e k
        by ring (none is) = absurd (cc)
        by ring (some_last zs z is) =
            let end : Some z ≡ Some k = sym (last_or-append None zs (z ∷ []))
            ∙ sym (ap (last_or None) is) ∙ b.ends_with in
            let same : z ≡ k = cc in
            let whole : at ∷ b.ys ≡ zs ++ k ∷ [] = is ∙ ap (λ y. zs ++ y ∷ []) same in
            inr (zs, turned e zs k [] (subst (IsRing e) whole ring))

-- an index on the way back
module _ (e : ℕ → Option Ends) (agreed : IsAgreed e) (k at steps : ℕ) (b : IsBack e k at steps)
  where
    pub back_live : IsSome (e at)
    back_live = live_on e (prev_at e at) (next_at e k) (at ∷ b.ys) at b.stands (On-first at b.ys)

    pub back_past : (low : ℕ) → IsClosed e low → low < k → low < at
    back_past = b.past

    -- where the walk comes round, the chain is a ring
    pub ring_head : prev_at e at ≡ Some k → IsHead e k
    ring_head = back_ring e agreed k at steps b

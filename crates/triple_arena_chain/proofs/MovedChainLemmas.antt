-- Chains that are moved to another arena, one after another, each from its start.
use Rattle.std.proofs.Common.{◌≡◌, ◌≢◌, ℕ, ◌+◌, ◌<◌, ◌≤◌, List, [], ◌∷◌, ◌++◌, Option, Some, None}
use Rattle.std.proofs.Common.{IsSome, is_some, true≢false, refl, sym, ap, subst, ◌∙◌, arith, inl}
use Rattle.std.proofs.Common.{inr, ◌⊎◌}
use Rattle.std.proofs.lemmas.Bool.Decides.{eqb_tells, leb_tells}
use Rattle.linked_lists.specs.LinkedLists.{Ends, next_in, prev_in, next_at, prev_at, IsAgreed}
use Rattle.linked_lists.specs.LinkedLists.{first_or, last_or, IsSegment, Off, On, Apart, IsLinear}
use Rattle.linked_lists.specs.LinkedLists.{Standing, linear, ring, reprev, with_prev}
use Rattle.linked_lists.specs.LinkedListLaws.{segment-back, last_or-append, stands}
use Rattle.linked_lists.specs.UniquenessLaws.{linear_apart}
use Rattle.linked_lists.specs.ChainLaws.{On-first, On-front, On-back, On-split, On-either}
use Rattle.linked_lists.specs.ChainLaws.{Apart-split, Apart-append, on_differs, off_or_not}
use Rattle.linked_lists.specs.ChainLaws.{first_on, live_in, live_next_in, live_prev_in}
use Rattle.linked_lists.specs.ChainLaws.{holds_next, holds_prev, ring_or_linear, chain_where}
use Rattle.linked_lists.specs.Chains.{Chain, Linear, Cyclic, members, all_members, IsChainOf}
use Rattle.linked_lists.specs.Chains.{IsWritten, AreAllChainsOf}
use Rattle.triple_arena_chain.specs.CanonicalLayout.{IsHead}
use Rattle.triple_arena_chain.specs.CanonicalTransfer.{AreRising}
use Rattle.triple_arena_chain.proofs.GatheredLemmas.{all_append, are_append}

-- what stands before the first link of a chain, and behind its last one
abbrev pub opening : Chain → Option ℕ
opening (Linear xs) = None
opening (Cyclic xs) = last_or None xs

abbrev pub closing : Chain → Option ℕ
closing (Linear xs) = None
closing (Cyclic xs) = first_or xs None

-- each chain has an index below this one and below all those of the chains behind it
abbrev pub AreRisingBelow : ℕ → List Chain → Type 0
AreRisingBelow low [] = Unit {0}
AreRisingBelow low (c ∷ cs) =
    ((least : ℕ) × On (members c) least × (least < low)
    × ((k : ℕ) → On (all_members cs) k → least < k)) × AreRisingBelow low cs

pub rising_of : (low : ℕ) (cs : List Chain) → AreRisingBelow low cs → AreRising cs
rising_of low [] r = tt
rising_of low (c ∷ cs) r = ((r.0.0, r.0.1, r.0.3), rising_of low cs r.1)

rising_push : (low k : ℕ) (cs : List Chain) (c : Chain) → AreRisingBelow low cs → low ≤ k
    → On (members c) k
    → ((i : ℕ) → On (members c) i → k ≤ i) → AreRisingBelow (k + 1) (cs ++ c ∷ [])
rising_push low k [] c r above on least =
    ((k, on, omega arith, λ i there. absurd (on_differs [] i i there tt refl)), tt)
rising_push low k (d ∷ cs) c r above on least =
    let below = r.0.2 in (
      (
        r.0.0,
        r.0.1,
        omega (arith, below, above),
        λ i there.
            elim (On-either (all_members cs) (members c) i
            (subst (λ l. On l i) (all_append cs c) there)) [
              | inl old ↦ r.0.3 i old
              | inr new ↦ let more = least i new in omega (arith, below, above, more)
            ],
      ),
      rising_push low k cs c r.1 above on least,
    )

module _ (e : ℕ → Option Ends) where
  -- the chains that were moved: those of the indexes below this one
  pub record AreDone (low : ℕ) (done : List Chain) : Type 0 where
    pub chains : AreAllChainsOf e done
    pub once : Apart (all_members done)
    pub below : (i : ℕ) → i < low → IsSome (e i) → On (all_members done) i
    pub rising : AreRisingBelow low done

  -- the chain in hand, which begins at `start` and has the least index `k` of those left
  pub record IsInHand (done : List Chain) (start k : ℕ) (c : Chain) : Type 0 where
    pub is_chain : IsChainOf e c
    pub written : IsWritten c
    pub begins : first_or (members c) None ≡ Some start
    pub apart : Apart (members c)
    pub fresh : (i : ℕ) → On (members c) i → Off (all_members done) i
    pub holds : On (members c) k
    pub least : (i : ℕ) → On (members c) i → k ≤ i

  -- the neighbors of what is in whole chains are there too
  pub done_next : (cs : List Chain) (i j : ℕ) → AreAllChainsOf e cs → On (all_members cs) i
      → next_at e i ≡ Some j → On (all_members cs) j
  done_next [] i j are on goes = absurd (on_differs [] i i on tt refl)
  done_next (c ∷ cs) i j are on goes =
      elim (On-either (members c) (all_members cs) i on) [
        | inl here ↦ On-front (members c) (all_members cs) j (holds_next e c i j are.0.0 here goes)
        | inr there ↦ On-back (members c) (all_members cs) j (done_next cs i j are.1 there goes)
      ]

  pub done_prev : (cs : List Chain) (i j : ℕ) → AreAllChainsOf e cs → On (all_members cs) i
      → prev_at e i ≡ Some j → On (all_members cs) j
  done_prev [] i j are on goes = absurd (on_differs [] i i on tt refl)
  done_prev (c ∷ cs) i j are on goes =
      elim (On-either (members c) (all_members cs) i on) [
        | inl here ↦ On-front (members c) (all_members cs) j (holds_prev e c i j are.0.0 here goes)
        | inr there ↦ On-back (members c) (all_members cs) j (done_prev cs i j are.1 there goes)
      ]

  -- the chains that are done, with the one in hand
  pub done_more : (low k start : ℕ) (done : List Chain) (c : Chain) → AreDone low done
      → IsInHand done start k c → low ≤ k
      → ((i : ℕ) → i < k → IsSome (e i) → On (all_members done) i)
      → AreDone (k + 1) (done ++ c ∷ [])
  done_more low k start done c d h above before =
      let all = all_append done c in
      record {
        chains = are_append e done c d.chains h.is_chain h.written;
        once =
            subst Apart (sym all) (Apart-append (all_members done) (members c) d.once h.apart
            (λ i on. off_or_not (members c) i
            (λ there. on_differs (all_members done) i i on (h.fresh i there) refl)));
        below = λ i less some.
            subst (λ l. On l i) (sym all)
            (elim (eqb_tells i k) [
              | inl same ↦ On-back (all_members done) (members c) i
                  (subst (On (members c)) (sym same.1) h.holds)
              | inr other ↦ let differs : i ≢ k = other.1 in
                  On-front (all_members done) (members c) i
                  (before i (omega (arith, less, differs)) some)
            ]);
        rising = rising_push low k done c d.rising above h.holds h.least;
      }

  pub done_none : e 0 ≡ None → AreDone 1 []
  done_none zeroth =
      record {
        chains = tt;
        once = tt;
        below = λ i less some. absurd
            (let none : i ≡ 0 = omega (arith, less) in
            true≢false (sym some ∙ ap (λ j. is_some (e j)) none ∙ ap is_some zeroth));
        rising = tt;
      }

  -- the interlinks of an index of a chain
  pub chain_at : (c : Chain) (front back : List ℕ) (i : ℕ) → IsChainOf e c
      → members c ≡ front ++ i ∷ back
      → e i ≡ Some (last_or (opening c) front, first_or back (closing c))
  chain_at (Linear xs) front back i s is =
      (segment-back e None None front (i ∷ back) (subst (IsLinear e) is s)).0
  chain_at (Cyclic xs) front back i r is =
      (segment-back e (last_or None xs) (first_or xs None) front (i ∷ back)
      (subst (λ l. IsSegment e (last_or None xs) l (first_or xs None)) is r.stands)).0

  module _ (done : List Chain) (start k : ℕ) (c : Chain) (h : IsInHand done start k c) where
    -- where the way along the chain begins
    pub hand_begun : (back : List ℕ) × (members c ≡ start ∷ back)
    hand_begun = by (members c) h.begins
      where
        by : (xs : List ℕ) → first_or xs None ≡ Some start → (back : List ℕ) × (xs ≡ start ∷ back)
        by [] is = absurd (cc)
        by (x ∷ xs) is = (xs, let same : x ≡ start = cc in ap (λ y. y ∷ xs) same)

    pub hand_start : On (members c) start
    hand_start = first_on (members c) start h.begins

    pub hand_live : (i : ℕ) → On (members c) i → IsSome (e i)
    hand_live i on = live_in e c i h.is_chain on

    -- the interlinks of a link of the chain, while the first one has no previous one yet
    pub opened_at : (front back : List ℕ) (i : ℕ) → members c ≡ front ++ i ∷ back
        → with_prev e start None i ≡ Some (last_or None front, first_or back (closing c))
    opened_at front back i is = by front is
      where
        by : (xs : List ℕ) → members c ≡ xs ++ i ∷ back
            → with_prev e start None i ≡ Some (last_or None xs, first_or back (closing c))
        by [] at =
            let both : Some i ≡ Some start = sym (ap (λ l. first_or l None) at) ∙ h.begins in
            let same : i ≡ start = cc in
            elim (eqb_tells i start) [
              | inl hit ↦ rw hit.0 (ap (reprev None) (chain_at c [] back i h.is_chain at))
              | inr other ↦ absurd (other.1 same)
            ]
        by (x ∷ xs) at =
            let both : Some x ≡ Some start = sym (ap (λ l. first_or l None) at) ∙ h.begins in
            let same : x ≡ start = cc in
            let off = (Apart-split (x ∷ xs) back i (subst Apart at h.apart)).0 in
            elim (eqb_tells i start) [
              | inl hit ↦ absurd (off.0 (same ∙ sym hit.1))
              | inr other ↦ rw other.0 (chain_at c (x ∷ xs) back i h.is_chain at)
            ]

    -- the next of a link of the chain, where another one follows
    pub next_inside : (front back : List ℕ) (i j : ℕ) → members c ≡ front ++ i ∷ j ∷ back
        → j ≢ start
    next_inside front back i j is same =
        by front is
      where
        by : (xs : List ℕ) → members c ≡ xs ++ i ∷ j ∷ back → ⊥
        by [] at =
            let both : Some i ≡ Some start = sym (ap (λ l. first_or l None) at) ∙ h.begins in
            let is : i ≡ start = cc in
            (subst Apart at h.apart).0.0 (same ∙ sym is)
        by (x ∷ xs) at =
            let both : Some x ≡ Some start = sym (ap (λ l. first_or l None) at) ∙ h.begins in
            let is : x ≡ start = cc in
            on_differs (xs ++ i ∷ j ∷ back) x j
            (On-back xs (i ∷ j ∷ back) j (On-back (i ∷ []) (j ∷ back) j (On-first j back)))
            (subst Apart at h.apart).0 (same ∙ sym is)

    -- what stands before the first link of the chain
    start_prev : prev_at e start ≡ opening c
    start_prev = let begun = hand_begun in
        ap prev_in (chain_at c [] begun.0 start h.is_chain begun.1)

    pub open_start : closing c ≡ None → prev_at e start ≡ None
    open_start ends = start_prev ∙ by c ends h.begins
      where
        by : (d : Chain) → closing d ≡ None → first_or (members d) None ≡ Some start
            → opening d ≡ None
        by (Linear xs) is begins = refl
        by (Cyclic xs) is begins = absurd (let gone : None ≡ Some start = sym is ∙ begins in cc)

    pub ring_start : (front : List ℕ) (i : ℕ) → members c ≡ front ++ i ∷ [] → closing c ≡ Some start
        → prev_at e start ≡ Some i
    ring_start front i is round = start_prev ∙ by c is round
      where
        by : (d : Chain) → members d ≡ front ++ i ∷ [] → closing d ≡ Some start → opening d ≡ Some i
        by (Linear xs) at closes = absurd (let gone : None ≡ Some start = closes in cc)
        by (Cyclic xs) at closes = ap (last_or None) at ∙ last_or-append None front (i ∷ [])

    -- the last link of the chain leads nowhere, or to the first one
    pub last_next : (front : List ℕ) (i : ℕ) → members c ≡ front ++ i ∷ []
        → (next_at e i ≡ None) ⊎ (next_at e i ≡ Some start)
    last_next front i is = by c h.begins (ap next_in (chain_at c front [] i h.is_chain is))
      where
        by : (d : Chain) → first_or (members d) None ≡ Some start → next_at e i ≡ closing d
            → (next_at e i ≡ None) ⊎ (next_at e i ≡ Some start)
        by (Linear xs) begins goes = inl goes
        by (Cyclic xs) begins goes = inr (goes ∙ begins)

-- the interlinks that are left where whole chains are gone
module _ (e e' : ℕ → Option Ends) (low : ℕ) (done : List Chain) (d : AreDone e low done)
    (gone : (j : ℕ) → On (all_members done) j → e' j ≡ None)
    (stay : (j : ℕ) → Off (all_members done) j → e' j ≡ e j) where
  left_off : (j : ℕ) → IsSome (e' j) → Off (all_members done) j
  left_off j some = off_or_not (all_members done) j
      (λ on. true≢false (sym some ∙ ap is_some (gone j on)))

  left_same : (j : ℕ) → IsSome (e' j) → e' j ≡ e j
  left_same j some = stay j (left_off j some)

  pub left_agreed : IsAgreed e → IsAgreed e'
  left_agreed agreed =
      record {
        forward = λ p q goes.
            let some = live_next_in (e' p) q goes in
            let there : next_at e p ≡ Some q = sym (ap next_in (left_same p some)) ∙ goes in
            let back = agreed.forward p q there in
            let off = off_or_not (all_members done) q
            (λ on. on_differs (all_members done) p p (done_prev e done q p d.chains on back)
            (left_off p some) refl) in
            ap prev_in (stay q off) ∙ back;
        backward = λ p q comes.
            let some = live_prev_in (e' q) p comes in
            let there : prev_at e q ≡ Some p = sym (ap prev_in (left_same q some)) ∙ comes in
            let goes = agreed.backward p q there in
            let off = off_or_not (all_members done) p
            (λ on. on_differs (all_members done) q q (done_next e done p q d.chains on goes)
            (left_off q some) refl) in
            ap next_in (stay p off) ∙ goes;
      }

  -- the chain of the least index that is left
  pub in_hand : (k start n : ℕ) → IsAgreed e' → ((i : ℕ) → IsSome (e' i) → i < n) → IsSome (e' k)
      → ((j : ℕ) → j < k → e' j ≡ None)
      → ((c : Chain) → IsChainOf e' c → On (members c) k → On (members c) start) → IsHead e' start
      → (IsHead e' k → start ≡ k)
      → (c : Chain) × IsInHand e done start k c
  in_hand k start n agreed bounded live first same head own = by (stands e' agreed n bounded k live)
    where
      least : (i : ℕ) → IsSome (e' i) → k ≤ i
      least i some = elim (leb_tells k i) [
        | inl up ↦ up.1
        | inr down ↦
            absurd (true≢false (sym some ∙ ap is_some (first i down.1)))
      ]

      held : (c : Chain) → IsChainOf e' c → On (members c) k → IsWritten c
          → first_or (members c) None ≡ Some start → Apart (members c) → IsInHand e done start k c
      held c is on written begins apart =
          record {
            is_chain = chain_where e' e c (λ j at. sym (left_same j (live_in e' c j is at))) is;
            written = written;
            begins = begins;
            apart = apart;
            fresh = λ i at. left_off i (live_in e' c i is at);
            holds = on;
            least = λ i at. least i (live_in e' c i is at);
          }

      by : Standing e' k → (c : Chain) × IsInHand e done start k c
      by (ring after r) =
          let is = own (inr (after, r)) in (
            Cyclic (k ∷ after),
            held (Cyclic (k ∷ after)) r (On-first k after)
                (k, refl, λ i at. least i (live_in e' (Cyclic (k ∷ after)) i r at))
                (ap Some (sym is)) r.apart,
          )
      by (linear before after s) =
          let xs = before ++ k ∷ after in
          let on = On-split before after k in
          let at = same (Linear xs) s on in (
            Linear xs,
            held (Linear xs) s on
                (λ empty. on_differs [] k k (subst (λ l. On l k) empty on) tt refl)
                (by_head xs s at head) (linear_apart e' None xs s),
          )
        where
          first_of : (front back xs : List ℕ) → xs ≡ front ++ start ∷ back
              → last_or None front ≡ None → first_or xs None ≡ Some start
          first_of [] back xs is none = ap (λ l. first_or l None) is
          first_of (x ∷ front) back xs is none = absurd (never x front none)
            where
              never : (y : ℕ) (ys : List ℕ) → last_or (Some y) ys ≡ None → ⊥
              never y [] is = let no : Some y ≡ None = is in cc
              never y (z ∷ zs) is = never z zs is

          by_head : (xs : List ℕ) → IsLinear e' xs → On xs start → IsHead e' start
              → first_or xs None ≡ Some start
          by_head xs s at (inl lone) =
              first_of at.front at.back xs at.is
              (sym (ap prev_in (segment-back e' None None at.front (start ∷ at.back)
              (subst (IsLinear e') at.is s)).0) ∙ lone)
          by_head xs s at (inr round) =
              absurd (ring_or_linear e' (start ∷ round.0) xs start round.1 s
              (On-first start round.0) at)

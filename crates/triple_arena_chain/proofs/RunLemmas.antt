-- Runs of successive indexes, and chains that are runs.
use Rattle.std.proofs.Common.{◌≡◌, ◌≢◌, ℕ, zero, suc, ◌+◌, ◌-◌, ◌<◌, ◌≤◌, List, [], ◌∷◌, ◌++◌}
use Rattle.std.proofs.Common.{length, Option, Some, None, refl, sym, ap, subst, ◌∙◌, arith, inl}
use Rattle.std.proofs.Common.{inr, ◌⊎◌}
use Rattle.std.specs.List.{range_with_len}
use Rattle.std.proofs.lemmas.Bool.Decides.{eqb_tells, leb_tells}
use Rattle.linked_lists.specs.LinkedLists.{Ends, next_in, next_at, prev_at, IsAgreed, last_or}
use Rattle.linked_lists.specs.LinkedLists.{IsSegment, Off, On, Apart, IsLinear, IsRing}
use Rattle.linked_lists.specs.ChainLaws.{On-first, On-back, On-either, on_differs}
use Rattle.linked_lists.specs.ChainLaws.{live_next_in}
use Rattle.linked_lists.specs.Chains.{Chain, Linear, Cyclic, members, all_members, IsChainOf}
use Rattle.linked_lists.specs.Chains.{AreAllChainsOf}
use Rattle.triple_arena_chain.specs.CanonicalLayout.{IsLaidOut, IsHead, IsClosed}

pub run-append : (u m k : ℕ)
    → range_with_len u (m + k) ≡ range_with_len u m ++ range_with_len (u + m) k
run-append u zero k = let none : zero + k ≡ k = omega arith in let here : u ≡ u + 0 = omega arith in
    ap (range_with_len u) none ∙ ap (λ v. range_with_len v k) here
run-append u (suc m) k =
    let count : suc m + k ≡ suc (m + k) = omega arith in
    let next : (u + 1) + m ≡ u + suc m = omega arith in
    ap (range_with_len u) count ∙ ap (λ l. u ∷ l) (run-append (u + 1) m k)
    ∙ ap (λ v. u ∷ range_with_len (u + 1) m ++ range_with_len v k) next

pub run-on : (u m k : ℕ) → u ≤ k → k < u + m → On (range_with_len u m) k
run-on u zero k low high = absurd (omega (arith, low, high))
run-on u (suc m) k low high =
    elim (eqb_tells u k) [
      | inl same ↦ subst (On (u ∷ range_with_len (u + 1) m)) same.1
          (On-first u (range_with_len (u + 1) m))
      | inr other ↦
          let differs : u ≢ k = other.1 in
          On-back (u ∷ []) (range_with_len (u + 1) m) k
          (run-on (u + 1) m k (omega (arith, differs, low)) (omega (arith, high)))
    ]

pub run-off : (u m k : ℕ) → (k < u) ⊎ (u + m ≤ k) → Off (range_with_len u m) k
run-off u zero k out = tt
run-off u (suc m) k (inl below) =
    (λ same. omega (arith, same, below), run-off (u + 1) m k (inl (omega (arith, below))))
run-off u (suc m) k (inr past) =
    (λ same. omega (arith, same, past), run-off (u + 1) m k (inr (omega (arith, past))))

pub run-within : (u m k : ℕ) → On (range_with_len u m) k → (u ≤ k) × (k < u + m)
run-within u m k on =
    elim (leb_tells u k) [
      | inr below ↦ absurd (on_differs (range_with_len u m) k k on (run-off u m k (inl below.1))
          refl)
      | inl low ↦
          elim (leb_tells (u + m) k) [
            | inl past ↦ absurd (on_differs (range_with_len u m) k k on (run-off u m k (inr past.1))
                refl)
            | inr high ↦ (low.1, high.1)
          ]
    ]

pub run-apart : (u m : ℕ) → Apart (range_with_len u m)
run-apart u zero = tt
run-apart u (suc m) = (run-off (u + 1) m u (inl (omega arith)), run-apart (u + 1) m)

pub run-split : (xs ys : List ℕ) (u n : ℕ) → xs ++ ys ≡ range_with_len u n
    → (xs ≡ range_with_len u (length xs)) × (ys ≡ range_with_len (u + length xs) (n - length xs))
run-split [] ys u n is = let here : u ≡ u + 0 = omega arith in let all : n ≡ n - 0 = omega arith in
    (refl, is ∙ ap (λ v. range_with_len v n) here ∙ ap (range_with_len (u + 0)) all)
run-split (x ∷ xs) ys u zero is = absurd (cc)
run-split (x ∷ xs) ys u (suc n) is =
    let first : x ≡ u = cc in
    let others : xs ++ ys ≡ range_with_len (u + 1) n = cc in
    let rest = run-split xs ys (u + 1) n others in
    let next : (u + 1) + length xs ≡ u + suc (length xs) = omega arith in
    let left : n - length xs ≡ suc n - suc (length xs) = omega arith in (
      ap (λ y. y ∷ xs) first ∙ ap (λ l. u ∷ l) rest.0,
      rest.1 ∙ ap (λ v. range_with_len v (n - length xs)) next
          ∙ ap (range_with_len (u + suc (length xs))) left,
    )

module _ (e : ℕ → Option Ends) where
  -- the nexts along a run
  pub run_next : (b a : Option ℕ) (u m p : ℕ) → IsSegment e b (range_with_len u m) a → u ≤ p
      → p + 1 < u + m → next_at e p ≡ Some (p + 1)
  run_next b a u zero p s low high = absurd (omega (arith, low, high))
  run_next b a u (suc zero) p s low high = absurd (omega (arith, low, high))
  run_next b a u (suc (suc m)) p s low high =
      elim (eqb_tells u p) [
        | inl same ↦ ap (next_at e) (sym same.1) ∙ ap next_in s.0 ∙ ap (λ v. Some (v + 1)) same.1
        | inr other ↦
            let differs : u ≢ p = other.1 in
            run_next (Some u) a (u + 1) (suc m) p s.1 (omega (arith, differs, low))
            (omega (arith, high))
      ]

  pub run_end : (b a : Option ℕ) (u m p : ℕ) → IsSegment e b (range_with_len u m) a → u ≤ p
      → p + 1 ≡ u + m → next_at e p ≡ a
  run_end b a u zero p s low is = absurd (omega (arith, low, is))
  run_end b a u (suc zero) p s low is = let same : u ≡ p = omega (arith, is) in
      ap (next_at e) (sym same) ∙ ap next_in s.0
  run_end b a u (suc (suc m)) p s low is =
      run_end (Some u) a (u + 1) (suc m) p s.1 (omega (arith, is)) (omega (arith, is))

  -- where a next leads in a run: one further, or round to the first of a ring
  pub data Leads (p q : ℕ) : Type 0 where
    further : q ≡ p + 1 → Leads p q
    around : (m : ℕ) → IsRing e (q ∷ range_with_len (q + 1) m) → p ≡ q + m → Leads p q

  leads_in : (c : Chain) (u m p q : ℕ) → IsChainOf e c → members c ≡ range_with_len u m
      → On (members c) p → next_at e p ≡ Some q → Leads p q
  leads_in (Linear xs) u m p q s is on goes =
      let t = subst (IsLinear e) is s in
      let at = run-within u m p (subst (λ l. On l p) is on) in
      elim (leb_tells (u + m) (p + 1)) [
        | inl last ↦ absurd (let no : Some q ≡ None = sym goes
            ∙ run_end None None u m p t at.0 (omega (arith, last.1, at.1)) in cc)
        | inr before ↦ let both : Some q ≡ Some (p + 1) = sym goes
            ∙ run_next None None u m p t at.0 before.1 in further (cc)
      ]
  leads_in (Cyclic xs) u m p q r is on goes =
      by m (subst (IsRing e) is r) (run-within u m p (subst (λ l. On l p) is on))
    where
      by : (m : ℕ) → IsRing e (range_with_len u m) → (u ≤ p) × (p < u + m) → Leads p q
      by zero ring at = absurd (omega (arith, at.0, at.1))
      by (suc m) ring at =
          elim (leb_tells (u + suc m) (p + 1)) [
            | inl last ↦
                let end : p + 1 ≡ u + suc m = omega (arith, last.1, at.1) in
                let both : Some q ≡ Some u = sym goes
                ∙ run_end (last_or None (range_with_len u (suc m))) (Some u) u (suc m) p
                ring.stands at.0 end in
                let same : q ≡ u = cc in
                around m (subst (λ v. IsRing e (v ∷ range_with_len (v + 1) m)) (sym same) ring)
                (omega (arith, same, end))
            | inr before ↦
                let both : Some q ≡ Some (p + 1) = sym goes
                ∙ run_next (last_or None (range_with_len u (suc m))) (Some u) u (suc m) p
                ring.stands at.0 before.1 in
                further (cc)
          ]

  leads_among : (cs : List Chain) (u n p q : ℕ) → AreAllChainsOf e cs
      → all_members cs ≡ range_with_len u n → On (all_members cs) p
      → next_at e p ≡ Some q → Leads p q
  leads_among [] u n p q are runs on goes = absurd (on_differs [] p p on tt refl)
  leads_among (c ∷ cs) u n p q are runs on goes =
      let parts = run-split (members c) (all_members cs) u n runs in
      elim (On-either (members c) (all_members cs) p on) [
        | inl here ↦ leads_in c u (length (members c)) p q are.0.0 parts.0 here goes
        | inr there ↦ leads_among cs (u + length (members c)) (n - length (members c)) p q are.1
            parts.1 there goes
      ]

  -- where a next leads in the canonical layout
  pub laid_next : (n p q : ℕ) → IsLaidOut e n → next_at e p ≡ Some q → Leads p q
  laid_next n p q laid goes =
      leads_among laid.chains 1 n p q laid.are.chains laid.runs
      (laid.are.whole p (live_next_in (e p) q goes)) goes

  -- the first index past whole chains is the first of its chain
  pub laid_head : (n low : ℕ) → IsAgreed e → IsLaidOut e n → IsClosed e low → IsHead e (low + 1)
  laid_head n low agreed laid closed = by (prev_at e (low + 1)) refl
    where
      by : (o : Option ℕ) → prev_at e (low + 1) ≡ o → IsHead e (low + 1)
      by None is = inl is
      by (Some q) is = from (laid_next n q (low + 1) laid goes)
        where
          goes : next_at e q ≡ Some (low + 1)
          goes = agreed.backward q (low + 1) is

          from : Leads q (low + 1) → IsHead e (low + 1)
          from (further next) =
              absurd (let within = closed.on q (low + 1) goes (omega (arith, next)) in
              omega (arith, within))
          from (around m ring last) = inr (range_with_len (low + 1 + 1) m, ring)

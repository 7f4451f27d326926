-- Stored references where removals leave them alone: one that finds nothing is past for as long as
-- the counter only rises.
use Rattle.std.proofs.Common.{◌≡◌, ◌≢◌, ◌∙◌, sym, ap, subst, refl, if◌then◌else◌, ℕ, ◌+◌, ◌<◌, ◌⊎◌}
use Rattle.std.proofs.Common.{inl, inr, Option, Some, None, IsSome, true≢false, arith}
use Rattle.std.proofs.lemmas.Bool.{ne_eqb, eq-eqb}
use Rattle.std.proofs.lemmas.Bool.Decides.{eqb_tells}
use Rattle.triple_arena.specs.Entries.{value_if, with_entry, without}
use Rattle.route_book.specs.Holds.{found_by, IsLive, IsSettled, AreUpTo}
use Rattle.route_book.proofs.OptionLemmas.{some_same}

-- one entry more, with the counter as its generation
module _ {T : Type 0} (at at' : ℕ → Option (ℕ × T)) (i c : ℕ) (t : T) (vacant : at i ≡ None)
    (entries : (k : ℕ) → at' k ≡ with_entry at i (c, t) k) where
  here : at' i ≡ Some (c, t)
  here = entries i ∙ rw (eq-eqb i i refl) refl

  there : (k : ℕ) → k ≢ i → at' k ≡ at k
  there k other = entries k ∙ rw (ne_eqb k i other) refl

  pub found_added : (r : Option (ℕ × ℕ)) → IsSettled at c r → found_by at' r ≡ found_by at r
  found_added None settled = refl
  found_added (Some q) settled = elim (eqb_tells q.0 i) [
    | inr other ↦ ap (value_if q.1) (there q.0 other.1)
    | inl same ↦ by same.1 settled
  ]
    where
      by : q.0 ≡ i → IsSome (value_if q.1 (at q.0)) ⊎ (q.1 < c)
          → value_if q.1 (at' q.0) ≡ value_if q.1 (at q.0)
      by is (inl live) = absurd
          (true≢false (sym (subst (λ o. IsSome (value_if q.1 o)) (ap at is ∙ vacant) live)))
      by is (inr past) =
          let new : value_if q.1 (at' q.0) ≡ None = ap (λ k. value_if q.1 (at' k)) is
          ∙ ap (value_if q.1) here ∙ rw (ne_eqb c q.1 (λ e. omega (arith, e, past))) refl in
          new ∙ sym (ap (λ k. value_if q.1 (at k)) is ∙ ap (value_if q.1) vacant)

  pub settled_added : (r : Option (ℕ × ℕ)) → IsSettled at c r → IsSettled at' c r
  settled_added None settled = settled
  settled_added (Some q) settled = by settled
    where
      by : IsSome (value_if q.1 (at q.0)) ⊎ (q.1 < c) → IsSome (value_if q.1 (at' q.0)) ⊎ (q.1 < c)
      by (inl live) = inl (subst IsSome (sym (found_added (Some q) (inl live))) live)
      by (inr past) = inr past

  pub up_to_added : AreUpTo at c → AreUpTo at' c
  up_to_added upto k g u is = elim (eqb_tells k i) [
    | inl same ↦
        let both : Some (c, t) ≡ Some (g, u) = sym here ∙ sym (ap at' same.1) ∙ is in
        let pair = ap (λ (x : ℕ × T). x.0) (some_same both) in omega (arith, pair)
    | inr other ↦ upto k g u (sym (there k other.1) ∙ is)
  ]

-- an entry less, and the counter goes one up
module _ {T : Type 0} (at at' : ℕ → Option (ℕ × T)) (i g c c' : ℕ) (t : T)
    (stood : at i ≡ Some (g, t)) (entries : (k : ℕ) → at' k ≡ without at i k)
    (steps : c' ≡ c + 1) (upto : AreUpTo at c) where
  gone : at' i ≡ None
  gone = entries i ∙ rw (eq-eqb i i refl) refl

  stays : (k : ℕ) → k ≢ i → at' k ≡ at k
  stays k other = entries k ∙ rw (ne_eqb k i other) refl

  pub settled_left : (r : Option (ℕ × ℕ)) → IsSettled at c r → IsSettled at' c' r
  settled_left None settled = settled
  settled_left (Some q) settled = by settled
    where
      live_at : (o : Option (ℕ × T)) → at q.0 ≡ o → IsSome (value_if q.1 o) → q.0 ≡ i → q.1 < c'
      live_at None is live same = absurd (true≢false (sym live))
      live_at (Some x) is live same = elim (eqb_tells x.0 q.1) [
        | inl own ↦ let up = upto q.0 x.0 x.1 is in let e = own.1 in omega (arith, up, e, steps)
        | inr other ↦ absurd (true≢false
            (sym (subst (λ b. IsSome (if b then Some x.1 else None)) other.0 live)))
      ]

      by : IsSome (value_if q.1 (at q.0)) ⊎ (q.1 < c) → IsSome (value_if q.1 (at' q.0)) ⊎ (q.1 < c')
      by (inr past) = inr (omega (arith, past, steps))
      by (inl live) = elim (eqb_tells q.0 i) [
        | inl same ↦ inr (live_at (at q.0) refl live same.1)
        | inr other ↦ inl (subst (λ o. IsSome (value_if q.1 o)) (sym (stays q.0 other.1)) live)
      ]

  pub up_to_left : AreUpTo at' c'
  up_to_left k h u is = elim (eqb_tells k i) [
    | inl same ↦ absurd (let no : None ≡ Some (h, u) = sym gone ∙ sym (ap at' same.1) ∙ is in cc)
    | inr other ↦ let up = upto k h u (sym (stays k other.1) ∙ is) in omega (arith, up, steps)
  ]

-- a reference that finds an item is settled under any counter
pub live_settled : {T : Type 0} (at : ℕ → Option (ℕ × T)) (c : ℕ) (r : Option (ℕ × ℕ)) → IsLive at r
    → IsSettled at c r
live_settled at c None live = live
live_settled at c (Some q) live = inl live

-- What the chains are once an index was taken out of its own.
use Rattle.std.proofs.Common.{◌≡◌, ◌≢◌, ℕ, ◌==◌, if◌then◌else◌, List, [], ◌∷◌, ◌++◌, Option, Some}
use Rattle.std.proofs.Common.{None, refl, sym, ap, subst, ◌∙◌, inl, inr}
use Rattle.std.proofs.lemmas.Bool.{eq-eqb, ne_eqb}
use Rattle.std.proofs.lemmas.Bool.Decides.{eqb_tells}
use Rattle.linked_lists.specs.LinkedLists.{Ends, next_in, prev_in, next_at, prev_at, IsAgreed}
use Rattle.linked_lists.specs.LinkedLists.{first_or, last_or, IsSegment, Off, IsLinear, IsRing}
use Rattle.linked_lists.specs.LinkedLists.{with_next_if, with_prev_if, bridged, taken_from}
use Rattle.linked_lists.specs.LinkedLists.{taken_out, dropped}
use Rattle.linked_lists.specs.Chains.{members, IsTaken}
use Rattle.linked_lists.specs.ChainLaws.{on_differs, holds_next, holds_prev, chain_where}
use Rattle.linked_lists.specs.ChainLaws.{segment-where}
use Rattle.linked_lists.specs.SegmentLaws.{taken}

-- this, or another in its place where it is this index
abbrev over : ℕ → Option ℕ → Option ℕ → Option ℕ
over i other None = None
over i other (Some k) = if k == i then other else Some k

over_self : (i : ℕ) (other : Option ℕ) → over i other (Some i) ≡ other
over_self i other = rw (eq-eqb i i refl) refl

over_other : (i k : ℕ) (other : Option ℕ) → k ≢ i → over i other (Some k) ≡ Some k
over_other i k other differs = rw (ne_eqb k i differs) refl

over_first : (i : ℕ) (other a : Option ℕ) (xs : List ℕ) → Off xs i
    → over i other (first_or xs a) ≡ first_or xs (over i other a)
over_first i other a [] off = refl
over_first i other a (x ∷ xs) off = over_other i x other off.0

module _ (e : ℕ → Option Ends) (agreed : IsAgreed e) (i : ℕ) (b n : Option ℕ)
    (at : e i ≡ Some (b, n)) where
  pub taken_is : (k : ℕ) → taken_out e i k ≡ dropped (bridged e b n) i k
  taken_is k = ap (λ o. taken_from e i o k) at

  after_next : (x : ℕ) (v : Ends) → e x ≡ Some v → with_next_if e b n x ≡ Some (v.0, over i n v.1)
  after_next x v found = by b (ap prev_in at) v.1 refl
    where
      kept : (w : Option ℕ) → v.1 ≡ w → (w ≢ Some i) → over i n w ≡ w
      kept None is differs = refl
      kept (Some k) is differs = over_other i k n (λ same. differs (ap Some same))

      by : (o : Option ℕ) → prev_at e i ≡ o → (w : Option ℕ) → v.1 ≡ w
          → with_next_if e o n x ≡ Some (v.0, over i n v.1)
      by None is w next =
          let off : w ≢ Some i = λ same. let no : None ≡ Some x =
          sym is ∙ agreed.forward x i (ap next_in found ∙ next ∙ same) in absurd (cc) in
          found ∙ ap (λ o. Some (v.0, o)) (next ∙ sym (kept w next off) ∙ ap (over i n) (sym next))
      by (Some j) is w next =
          elim (eqb_tells x j) [
            | inl same ↦
                let out : next_at e x ≡ Some i = agreed.backward x i (is ∙ ap Some (sym same.1)) in
                rw (same.0, found) (ap (λ o. Some (v.0, o))
                (sym (ap (over i n) (sym (ap next_in found) ∙ out) ∙ over_self i n)))
            | inr differs ↦
                let off : w ≢ Some i = λ here. let both : Some j ≡ Some x =
                sym is ∙ agreed.forward x i
                (ap next_in found ∙ next ∙ here) in differs.1 (cc) in
                rw (differs.0, found)
                (ap (λ o. Some (v.0, o))
                (next ∙ sym (kept w next off) ∙ ap (over i n) (sym next)))
          ]

  after_prev : (x : ℕ) (v : Ends) (w : Option ℕ) → e x ≡ Some v
      → with_next_if e b n x ≡ Some (v.0, w) → bridged e b n x ≡ Some (over i b v.0, w)
  after_prev x v w found one = by n (ap next_in at) v.0 refl one
    where
      kept : (u : Option ℕ) → (u ≢ Some i) → over i b u ≡ u
      kept None differs = refl
      kept (Some k) differs = over_other i k b (λ same. differs (ap Some same))

      by : (o : Option ℕ) → next_at e i ≡ o → (u : Option ℕ) → v.0 ≡ u
          → with_next_if e b n x ≡ Some (v.0, w)
          → with_prev_if (with_next_if e b n) o b x ≡ Some (over i b v.0, w)
      by None is u prev one =
          let off : u ≢ Some i = λ same. let no : None ≡ Some x =
          sym is ∙ agreed.backward i x (ap prev_in found ∙ prev ∙ same) in absurd (cc) in
          one ∙ ap (λ o. Some (o, w)) (prev ∙ sym (kept u off) ∙ ap (over i b) (sym prev))
      by (Some j) is u prev one =
          elim (eqb_tells x j) [
            | inl same ↦
                let into : prev_at e x ≡ Some i = agreed.forward i x (is ∙ ap Some (sym same.1)) in
                rw (same.0, one) (ap (λ o. Some (o, w))
                (sym (ap (over i b) (sym (ap prev_in found) ∙ into) ∙ over_self i b)))
            | inr differs ↦
                let off : u ≢ Some i = λ here. let both : Some j ≡ Some x =
                sym is ∙ agreed.backward i x
                (ap prev_in found ∙ prev ∙ here) in differs.1 (cc) in
                rw (differs.0, one) (ap (λ o. Some (o, w))
                (prev ∙ sym (kept u off) ∙ ap (over i b) (sym prev)))
          ]

  -- an index that stays has the neighbors of the one that goes in its place
  pub taken_at : (x : ℕ) (v : Ends) → e x ≡ Some v → x ≢ i
      → taken_out e i x ≡ Some (over i b v.0, over i n v.1)
  taken_at x v found differs
      = taken_is x ∙ rw (ne_eqb x i differs)
      (after_prev x v (over i n v.1) found (after_next x v found))

  -- a list without the index that goes
  pub segment-over : (o a : Option ℕ) (xs : List ℕ) → Off xs i → IsSegment e o xs a
      → IsSegment (taken_out e i) (over i b o) xs (over i n a)
  segment-over o a [] off s = tt
  segment-over o a (x ∷ xs) off s =
      let rest = segment-over (Some x) a xs off.1 s.1 in (
        taken_at x (o, first_or xs a) s.0 off.0 ∙ ap (λ w. Some (over i b o, w))
            (over_first i n a xs off.1),
        subst (λ w. IsSegment (taken_out e i) w xs (over i n a)) (over_other i x b off.0) rest,
      )

  -- a linear chain without it
  pub linear_taken : (xs ys : List ℕ) → IsLinear e (xs ++ i ∷ ys)
      → IsLinear (taken_out e i) (xs ++ ys)
  linear_taken xs ys s =
      taken e (taken_out e i) xs ys i b n s at
      (λ k differs. taken_is k ∙ rw (ne_eqb k i differs) refl)

  -- a ring without it
  pub ring_taken : (y : ℕ) (ys : List ℕ) → IsRing e (i ∷ y ∷ ys) → IsRing (taken_out e i) (y ∷ ys)
  ring_taken y ys r =
      let off = r.apart.0 in
      let e' = taken_out e i in
      let n_is : n ≡ Some y = sym (ap next_in at) ∙ ap next_in r.stands.0 in
      let b_is : b ≡ last_or (Some y) ys = sym (ap prev_in at) ∙ ap prev_in r.stands.0 in
      record {
        stands =
            subst (λ w. IsSegment e' (last_or (Some y) ys) (y ∷ ys) w) (over_self i n ∙ n_is)
            (subst (λ w. IsSegment e' w (y ∷ ys) (over i n (Some i))) (over_self i b ∙ b_is)
            (segment-over (Some i) (Some i) (y ∷ ys) off r.stands.1));
        apart = r.apart.1;
      }

  -- what is off the chain stays as it is
  pub untouched : (k : ℕ) → k ≢ i → ((j : ℕ) → b ≡ Some j → j ≢ k) → ((j : ℕ) → n ≡ Some j → j ≢ k)
      → taken_out e i k ≡ e k
  untouched k differs off_b off_n
      = taken_is k ∙ rw (ne_eqb k i differs) (by_next n off_n ∙ by_prev b off_b)
    where
      by_prev : (o : Option ℕ) → ((j : ℕ) → o ≡ Some j → j ≢ k) → with_next_if e o n k ≡ e k
      by_prev None off = refl
      by_prev (Some j) off = rw (ne_eqb k j (λ same. off j refl (sym same))) refl

      by_next : (o : Option ℕ) → ((j : ℕ) → o ≡ Some j → j ≢ k)
          → with_prev_if (with_next_if e b n) o b k ≡ with_next_if e b n k
      by_next None off = refl
      by_next (Some j) off = rw (ne_eqb k j (λ same. off j refl (sym same))) refl

  module _ (new : ℕ → Option Ends) (same : (k : ℕ) → new k ≡ taken_out e i k) where
    pub is_taken : IsTaken i e new
    is_taken =
        record {
          from_linear = λ before after s. segment-where (taken_out e i) new None None
              (before ++ after) (λ k on. same k) (linear_taken before after s);
          from_ring = λ rest r. from_ring rest r;
          gone = same i ∙ taken_is i ∙ rw (eq-eqb i i refl) refl;
          others = λ c chain off.
              chain_where e new c
              (λ k on.
              same k
              ∙ untouched k (on_differs (members c) i k on off)
              (λ j is_b at_k. on_differs (members c) i i
              (holds_next e c k i chain on
              (ap (next_at e) (sym at_k) ∙ agreed.backward j i (ap prev_in at ∙ is_b))) off refl)
              (λ j is_n at_k. on_differs (members c) i i
              (holds_prev e c k i chain on
              (ap (prev_at e) (sym at_k) ∙ agreed.forward i j (ap next_in at ∙ is_n))) off refl))
              chain;
        }
      where
        from_ring : (rest : List ℕ) → IsRing e (i ∷ rest) → IsRing new rest
        from_ring [] r = record { stands = tt; apart = tt }
        from_ring (y ∷ ys) r =
            let taken = ring_taken y ys r in
            record {
              stands = segment-where (taken_out e i) new (last_or (Some y) ys) (Some y) (y ∷ ys)
                  (λ k on. same k) taken.stands;
              apart = taken.apart;
            }

-- What the chains are once the first index of a walk was taken out.
use Rattle.std.proofs.Common.{◌≡◌, ◌≢◌, ℕ, List, [], ◌∷◌, ◌++◌, reverse, Option, Some, None, refl}
use Rattle.std.proofs.Common.{sym, ap, subst, ◌∙◌, inl, inr}
use Rattle.std.proofs.lemmas.Bool.{eq-eqb, ne_eqb}
use Rattle.std.proofs.lemmas.Bool.Decides.{eqb_tells}
use Rattle.std.proofs.lemmas.List.{reverse-append, append-nil}
use Rattle.linked_lists.specs.LinkedLists.{Ends, next_in, prev_in, IsAgreed, first_or, last_or}
use Rattle.linked_lists.specs.LinkedLists.{Off, IsLinear, taken_out}
use Rattle.linked_lists.specs.LinkedListLaws.{off_or_on, Off-front, Off-back, segment-back}
use Rattle.linked_lists.specs.LinkedListLaws.{last_or-append}
use Rattle.linked_lists.specs.ChainLaws.{Apart-split}
use Rattle.linked_lists.specs.TakenLaws.{linear_taken, ring_taken, taken_is, untouched}
use Rattle.linked_lists.specs.UniquenessLaws.{Ended, none, some_last, ended, linear_apart}
use Rattle.triple_arena_chain.specs.Drains.{IsWalk, dropped_all, next_or_prev}
use Rattle.triple_arena_chain.specs.Walks.{IsWalkFrom, along, around}

Off-last : (b : Option ℕ) (xs : List ℕ) (j k : ℕ) → last_or b xs ≡ Some j → Off xs k
    → (b ≡ Some j → j ≢ k) → j ≢ k
Off-last b [] j k is off before = before is
Off-last b (x ∷ xs) j k is off before =
    Off-last (Some x) xs j k is off.1 (λ same. let x_is : x ≡ j = cc in λ at. off.0 (x_is ∙ at))

Off-reverse : (xs : List ℕ) (k : ℕ) → Off (reverse xs) k → Off xs k
Off-reverse [] k off = tt
Off-reverse (x ∷ xs) k off =
    let both : Off (reverse xs ++ x ∷ []) k =
    subst (λ l. Off l k) (reverse-append (x ∷ []) xs) off in (
      (Off-back (reverse xs) (x ∷ []) k both).0,
      Off-reverse xs k (Off-front (reverse xs) (x ∷ []) k both),
    )

-- what is dropped after it is dropped with it
gone_all : (f : ℕ → Option Ends) (xs : List ℕ) (k : ℕ) → f k ≡ None → dropped_all f xs k ≡ None
gone_all f [] k missing = missing
gone_all f (x ∷ xs) k missing =
    elim (eqb_tells k x) [
      | inl same ↦ rw same.0 refl
      | inr differs ↦
          rw differs.0 (gone_all f xs k missing)
    ]

pub gone_with : (f : ℕ → Option Ends) (xs ys : List ℕ) (k : ℕ)
    → dropped_all f (xs ++ k ∷ ys) k ≡ None
gone_with f [] ys k = rw (eq-eqb k k refl) refl
gone_with f (x ∷ xs) ys k =
    elim (eqb_tells k x) [
      | inl same ↦ rw same.0 refl
      | inr differs ↦
          rw differs.0 (gone_with f xs ys k)
    ]

pub left_off : (f : ℕ → Option Ends) (xs : List ℕ) (k : ℕ) → Off xs k → dropped_all f xs k ≡ f k
left_off f [] k off = refl
left_off f (x ∷ xs) k off = rw (ne_eqb k x (λ same. off.0 (sym same))) (left_off f xs k off.1)

module _ (e : ℕ → Option Ends) (agreed : IsAgreed e) (i : ℕ) (b n : Option ℕ)
    (at : e i ≡ Some (b, n)) where
  -- what the walk goes on with
  pub record Onward (walk : List ℕ) : Type 0 where
    pub rest : List ℕ
    pub is : walk ≡ i ∷ rest
    pub goes_on : IsWalk (taken_out e i) (next_or_prev i (b, n)) rest

  ends_are : (own : Ends) → Some (b, n) ≡ Some own → next_or_prev i (b, n) ≡ next_or_prev i own
  ends_are own is = let same : (let v : Ends = (b, n) in v) ≡ own = cc in ap (next_or_prev i) same

  pub walk_goes_on : (walk : List ℕ) → IsWalkFrom e i walk → Onward walk
  walk_goes_on walk (along before [] s is) = by_before (ended before)
    where
      own : b ≡ last_or None before
      own = sym (ap prev_in at) ∙ ap prev_in (segment-back e None None before (i ∷ []) s).0

      last : n ≡ None
      last = sym (ap next_in at) ∙ ap next_in (segment-back e None None before (i ∷ []) s).0

      by_before : Ended before → Onward walk
      by_before (none none_is) =
          let nothing : b ≡ None = own ∙ ap (last_or None) none_is in
          let on : next_or_prev i (b, n) ≡ None = rw (nothing, last) refl in
          record {
            rest = [];
            is = is ∙ ap (λ l. i ∷ reverse l) none_is;
            goes_on = subst (λ o. IsWalk (taken_out e i) o []) (sym on) refl;
          }
      by_before (some_last zs z some_is) =
          let before_is : b ≡ Some z = own ∙ ap (last_or None) some_is
          ∙ last_or-append None zs (z ∷ []) in
          let t : IsLinear (taken_out e i) (before ++ []) =
          linear_taken e agreed i b n at before [] s in
          let u : IsLinear (taken_out e i) (zs ++ z ∷ []) =
          subst (IsLinear (taken_out e i)) (append-nil before ∙ some_is) t in
          let off = (Apart-split before [] i (linear_apart e None (before ++ i ∷ []) s)).0 in
          let differs : z ≢ i = (Off-back zs (z ∷ []) i (subst (λ l. Off l i) some_is off)).0 in
          let on : next_or_prev i (b, n) ≡ Some z = rw (before_is, last, ne_eqb z i differs) refl in
          record {
            rest = z ∷ reverse zs;
            is = is ∙ ap (λ l. i ∷ reverse l) some_is
                ∙ ap (λ l. i ∷ l) (reverse-append zs (z ∷ []));
            goes_on = subst (λ o. IsWalk (taken_out e i) o (z ∷ reverse zs)) (sym on)
                (along zs [] u refl);
          }
  walk_goes_on walk (along before (x ∷ after) s is) =
      let back = segment-back e None None before (i ∷ x ∷ after) s in
      let n_is : n ≡ Some x = sym (ap next_in at) ∙ ap next_in back.0 in
      let off = (Apart-split before (x ∷ after) i
      (linear_apart e None (before ++ i ∷ x ∷ after) s)).1 in
      let on : next_or_prev i (b, n) ≡ Some x = rw (n_is, ne_eqb x i off.0) refl in
      record {
        rest = x ∷ (after ++ reverse before);
        is = is;
        goes_on = subst (λ o. IsWalk (taken_out e i) o (x ∷ (after ++ reverse before))) (sym on)
            (along before after (linear_taken e agreed i b n at before (x ∷ after) s) refl);
      }
  walk_goes_on walk (around [] r is) =
      let n_is : n ≡ Some i = sym (ap next_in at) ∙ ap next_in r.stands.0 in
      let on : next_or_prev i (b, n) ≡ None = rw (n_is, eq-eqb i i refl) refl in
      record {
        rest = [];
        is = is;
        goes_on = subst (λ o. IsWalk (taken_out e i) o []) (sym on) refl;
      }
  walk_goes_on walk (around (y ∷ ys) r is) =
      let n_is : n ≡ Some y = sym (ap next_in at) ∙ ap next_in r.stands.0 in
      let on : next_or_prev i (b, n) ≡ Some y = rw (n_is, ne_eqb y i r.apart.0.0) refl in
      record {
        rest = y ∷ ys;
        is = is;
        goes_on =
            subst (λ o. IsWalk (taken_out e i) o (y ∷ ys)) (sym on)
            (around ys (ring_taken e agreed i b n at y ys r) refl);
      }

  none_at : (j : ℕ) {A : Type 0} → None ≡ Some j → A
  none_at j is = absurd (cc)

  pub stays_off : (walk : List ℕ) (k : ℕ) → IsWalkFrom e i walk → Off walk k → taken_out e i k ≡ e k
  stays_off walk k (along before after s is) off =
      let off' : Off (i ∷ (after ++ reverse before)) k = subst (λ l. Off l k) is off in
      let front = Off-front after (reverse before) k off'.1 in
      let back = Off-reverse before k (Off-back after (reverse before) k off'.1) in
      let own = (segment-back e None None before (i ∷ after) s).0 in
      untouched e agreed i b n at k (λ same. off'.0 (sym same))
      (λ j is_b. Off-last None before j k (sym (sym (ap prev_in at) ∙ ap prev_in own) ∙ is_b) back
      (λ first. none_at j first))
      (λ j is_n. next_off after j (sym (sym (ap next_in at) ∙ ap next_in own) ∙ is_n) front)
    where
      next_off : (xs : List ℕ) (j : ℕ) → first_or xs None ≡ Some j → Off xs k → j ≢ k
      next_off [] j first off = none_at j first
      next_off (x ∷ xs) j same off = let x_is : x ≡ j = cc in λ at_k. off.0 (x_is ∙ at_k)
  stays_off walk k (around after r is) off =
      let off' : Off (i ∷ after) k = subst (λ l. Off l k) is off in
      untouched e agreed i b n at k (λ same. off'.0 (sym same))
      (λ j is_b. Off-last None (i ∷ after) j k
      (sym (sym (ap prev_in at) ∙ ap prev_in r.stands.0) ∙ is_b) off'
      (λ first. none_at j first))
      (λ j is_n. next_off after j (sym (sym (ap next_in at) ∙ ap next_in r.stands.0) ∙ is_n) off'.1
      off'.0)
    where
      next_off : (xs : List ℕ) (j : ℕ) → first_or xs (Some i) ≡ Some j → Off xs k → i ≢ k → j ≢ k
      next_off [] j same off differs = let i_is : i ≡ j = cc in λ at_k. differs (i_is ∙ at_k)
      next_off (x ∷ xs) j same off differs = let x_is : x ≡ j = cc in λ at_k. off.0 (x_is ∙ at_k)

  pub dropped_with : (rest : List ℕ) (k : ℕ) → IsWalkFrom e i (i ∷ rest)
      → dropped_all (taken_out e i) rest k ≡ dropped_all e (i ∷ rest) k
  dropped_with rest k walk =
      elim (eqb_tells k i) [
        | inl same ↦
            rw same.0 (gone_all (taken_out e i) rest k
            (taken_is e agreed i b n at k ∙ rw same.0 refl))
        | inr differs ↦
            rw differs.0
            (elim (off_or_on rest k) [
              | inl off ↦ left_off (taken_out e i) rest k off
                  ∙ stays_off (i ∷ rest) k walk ((λ same. differs.1 (sym same)), off)
                  ∙ sym (left_off e rest k off)
              | inr on ↦
                  ap (λ l. dropped_all (taken_out e i) l k) on.is
                  ∙ gone_with (taken_out e i) on.front on.back k
                  ∙ sym (ap (λ l. dropped_all e l k) on.is ∙ gone_with e on.front on.back k)
            ])
      ]

-- One more index in a gap keeps the two ways agreed.
use Rattle.std.proofs.Common.{◌≡◌, ◌≢◌, ℕ, Option, Some, None, IsSome, is_some, refl, sym, ap}
use Rattle.std.proofs.Common.{subst, ◌∙◌, inl, inr, ◌⊎◌, true≢false}
use Rattle.std.proofs.lemmas.Bool.{eq-eqb, ne_eqb}
use Rattle.std.proofs.lemmas.Bool.Decides.{eqb_tells}
use Rattle.linked_lists.specs.LinkedLists.{Ends, with_next_if, with_prev_if, added, put_between}
use Rattle.linked_lists.specs.LinkedLists.{IsBetween}
use Rattle.linked_lists.specs.LinkedLists.{IsAgreed, next_at, prev_at, next_in, prev_in}
use Rattle.linked_lists.specs.AgreedLaws.{next_reprev, prev_renext}

pub is_it : (o : Option ℕ) (i : ℕ) → (o ≡ Some i) ⊎ (o ≢ Some i)
is_it None i = inr (λ is. absurd (cc))
is_it (Some j) i =
    elim (eqb_tells j i) [
      | inl same ↦ inl (ap Some same.1)
      | inr differs ↦ inr (λ is. differs.1 (let same : j ≡ i = cc in same))
    ]

pub some_ends : (o : Option Ends) → IsSome o → (v : Ends) × (o ≡ Some v)
some_ends None some = absurd (true≢false (sym some))
some_ends (Some v) some = (v, refl)

module _ (f : ℕ → Option Ends) where
  pub next-with_prev_if : (o m : Option ℕ) (i : ℕ) → next_at (with_prev_if f o m) i ≡ next_at f i
  next-with_prev_if None m i = refl
  next-with_prev_if (Some j) m i =
      elim (eqb_tells i j) [
        | inl same ↦ rw same.0 (next_reprev (f i) m)
        | inr differs ↦ rw differs.0 refl
      ]

  pub prev-with_next_if : (o m : Option ℕ) (i : ℕ) → prev_at (with_next_if f o m) i ≡ prev_at f i
  prev-with_next_if None m i = refl
  prev-with_next_if (Some j) m i =
      elim (eqb_tells i j) [
        | inl same ↦ rw same.0 (prev_renext (f i) m)
        | inr differs ↦ rw differs.0 refl
      ]

  pub next-hit : (o n : Option ℕ) (i : ℕ) (v : Ends) → o ≡ Some i → f i ≡ Some v
      → next_at (with_next_if f o n) i ≡ n
  next-hit o n i v is found = rw (is, eq-eqb i i refl, found) refl

  pub next-miss : (o n : Option ℕ) (i : ℕ) → o ≢ Some i
      → next_at (with_next_if f o n) i ≡ next_at f i
  next-miss None n i other = refl
  next-miss (Some j) n i other = rw (ne_eqb i j (λ same. other (ap Some (sym same)))) refl

  pub prev-hit : (o n : Option ℕ) (i : ℕ) (v : Ends) → o ≡ Some i → f i ≡ Some v
      → prev_at (with_prev_if f o n) i ≡ n
  prev-hit o n i v is found = rw (is, eq-eqb i i refl, found) refl

  pub prev-miss : (o n : Option ℕ) (i : ℕ) → o ≢ Some i
      → prev_at (with_prev_if f o n) i ≡ prev_at f i
  prev-miss None n i other = refl
  prev-miss (Some j) n i other = rw (ne_eqb i j (λ same. other (ap Some (sym same)))) refl

  pub valid-with_next_if : (o n : Option ℕ) (i : ℕ) (v : Ends) → f i ≡ Some v
      → (w : Ends) × (with_next_if f o n i ≡ Some w)
  valid-with_next_if None n i v found = (v, found)
  valid-with_next_if (Some j) n i v found =
      elim (eqb_tells i j) [
        | inl same ↦ ((v.0, n), rw (same.0, found) refl)
        | inr differs ↦ (v, rw differs.0 found)
      ]

module _ (e : ℕ → Option Ends) (n : ℕ) (gap : Ends) (vacant : e n ≡ None) (is_gap : IsBetween e gap)
  where
    abbrev f : ℕ → Option Ends
    f = added e n gap

    abbrev g : ℕ → Option Ends
    g = with_next_if f gap.0 (Some n)

    pub apart : (i : ℕ) → IsSome (e i) → i ≢ n
    apart i some same = true≢false (sym some ∙ ap is_some (ap e same ∙ vacant))

    added_here : f n ≡ Some gap
    added_here = rw (eq-eqb n n refl) refl

    added_other : (i : ℕ) → i ≢ n → f i ≡ e i
    added_other i differs = rw (ne_eqb i n differs) refl

    not_before : gap.0 ≢ Some n
    not_before is = apart n (is_gap.before n is).0 refl

    not_after : gap.1 ≢ Some n
    not_after is = apart n (is_gap.after n is).0 refl

    pub next_new : next_at (put_between e n gap) n ≡ gap.1
    next_new = next-with_prev_if g gap.1 (Some n) n ∙ next-miss f gap.0 (Some n) n not_before
        ∙ ap next_in added_here

    pub prev_new : prev_at (put_between e n gap) n ≡ gap.0
    prev_new = prev-miss g gap.1 (Some n) n not_after ∙ prev-with_next_if f gap.0 (Some n) n
        ∙ ap prev_in added_here

    pub next_before : (p : ℕ) → gap.0 ≡ Some p → next_at (put_between e n gap) p ≡ Some n
    next_before p is =
        let some = (is_gap.before p is).0 in
        let v = some_ends (e p) some in
        next-with_prev_if g gap.1 (Some n) p
        ∙ next-hit f gap.0 (Some n) p v.0 is (added_other p (apart p some) ∙ v.1)

    pub prev_after : (q : ℕ) → gap.1 ≡ Some q → prev_at (put_between e n gap) q ≡ Some n
    prev_after q is =
        let some = (is_gap.after q is).0 in
        let v = some_ends (e q) some in
        let w = valid-with_next_if f gap.0 (Some n) q v.0 (added_other q (apart q some) ∙ v.1) in
        prev-hit g gap.1 (Some n) q w.0 is w.1

    pub next_other : (i : ℕ) → i ≢ n → gap.0 ≢ Some i
        → next_at (put_between e n gap) i ≡ next_at e i
    next_other i differs miss = next-with_prev_if g gap.1 (Some n) i
        ∙ next-miss f gap.0 (Some n) i miss ∙ ap next_in (added_other i differs)

    pub prev_other : (i : ℕ) → i ≢ n → gap.1 ≢ Some i
        → prev_at (put_between e n gap) i ≡ prev_at e i
    prev_other i differs miss = prev-miss g gap.1 (Some n) i miss
        ∙ prev-with_next_if f gap.0 (Some n) i ∙ ap prev_in (added_other i differs)

    pub IsAgreed-put_between : IsAgreed e → IsAgreed (put_between e n gap)
    IsAgreed-put_between agreed =
        record {
          forward =
              λ x y h.
              elim (eqb_tells x n) [
                | inl same ↦
                    let is : gap.1 ≡ Some y = sym next_new
                    ∙ subst (λ z. next_at (put_between e n gap) z ≡ Some y) same.1 h in
                    prev_after y is ∙ ap Some (sym same.1)
                | inr differs ↦
                    elim (is_it gap.0 x) [
                      | inl hit ↦
                          let t : Some n ≡ Some y = sym (next_before x hit) ∙ h in
                          let y_is : y ≡ n = cc in
                          ap (prev_at (put_between e n gap)) y_is ∙ prev_new ∙ hit
                      | inr miss ↦
                          let b = agreed.forward x y (sym (next_other x differs.1 miss) ∙ h) in
                          let not_n : y ≢ n = λ same.
                          let none : prev_at e y ≡ None = ap prev_in (ap e same ∙ vacant) in
                          absurd (let t : None ≡ Some x = sym none ∙ b in cc) in
                          let not_q : gap.1 ≢ Some y = λ is. elim (is_gap.after y is).1 [
                            | inl none ↦ absurd (let t : None ≡ Some x = sym none ∙ b in cc)
                            | inr back
                                ↦ miss (sym back ∙ b)
                          ] in
                          prev_other y not_n not_q ∙ b
                    ]
              ];
          backward =
              λ x y h.
              elim (eqb_tells y n) [
                | inl same ↦
                    let is : gap.0 ≡ Some x = sym prev_new
                    ∙ subst (λ z. prev_at (put_between e n gap) z ≡ Some x) same.1 h in
                    next_before x is ∙ ap Some (sym same.1)
                | inr differs ↦
                    elim (is_it gap.1 y) [
                      | inl hit ↦
                          let t : Some n ≡ Some x = sym (prev_after y hit) ∙ h in
                          let x_is : x ≡ n = cc in
                          ap (next_at (put_between e n gap)) x_is ∙ next_new ∙ hit
                      | inr miss ↦
                          let b = agreed.backward x y (sym (prev_other y differs.1 miss) ∙ h) in
                          let not_n : x ≢ n = λ same.
                          let none : next_at e x ≡ None = ap next_in (ap e same ∙ vacant) in
                          absurd (let t : None ≡ Some y = sym none ∙ b in cc) in
                          let not_p : gap.0 ≢ Some x = λ is. elim (is_gap.before x is).1 [
                            | inl none ↦ absurd (let t : None ≡ Some y = sym none ∙ b in cc)
                            | inr on ↦
                                miss (sym on ∙ b)
                          ] in
                          next_other x not_n not_p ∙ b
                    ]
              ];
        }

-- Taking an index out of its list keeps the two ways agreed.
use Rattle.std.proofs.Common.{◌≡◌, ◌≢◌, ℕ, Option, Some, None, sym, ap, subst, ◌∙◌, inl, inr}
use Rattle.std.proofs.lemmas.Bool.{ne_eqb}
use Rattle.std.proofs.lemmas.Bool.Decides.{eqb_tells}
use Rattle.linked_lists.specs.LinkedLists.{Ends, with_next_if, dropped, bridged}
use Rattle.linked_lists.specs.LinkedLists.{IsAgreed, next_at, prev_at, next_in, prev_in}
use Rattle.linked_lists.specs.AgreedLaws.{valid_next, valid_prev}
use Rattle.linked_lists.specs.GapLaws.{is_it, next-with_prev_if, prev-with_next_if}
use Rattle.linked_lists.specs.GapLaws.{next-hit, next-miss, prev-hit, prev-miss}
use Rattle.linked_lists.specs.GapLaws.{valid-with_next_if}

module _ (e : ℕ → Option Ends) where
  -- the nexts and previous ones over a bridge
  next_hit : (b n : Option ℕ) (i : ℕ) (v : Ends) → b ≡ Some i → e i ≡ Some v
      → next_at (bridged e b n) i ≡ n
  next_hit b n i v is found = next-with_prev_if (with_next_if e b n) n b i
      ∙ next-hit e b n i v is found

  next_miss : (b n : Option ℕ) (i : ℕ) → b ≢ Some i → next_at (bridged e b n) i ≡ next_at e i
  next_miss b n i not = next-with_prev_if (with_next_if e b n) n b i ∙ next-miss e b n i not

  prev_hit : (b n : Option ℕ) (i : ℕ) (v : Ends) → n ≡ Some i → with_next_if e b n i ≡ Some v
      → prev_at (bridged e b n) i ≡ b
  prev_hit b n i v is found = prev-hit (with_next_if e b n) n b i v is found

  prev_miss : (b n : Option ℕ) (i : ℕ) → n ≢ Some i → prev_at (bridged e b n) i ≡ prev_at e i
  prev_miss b n i other = prev-miss (with_next_if e b n) n b i other ∙ prev-with_next_if e b n i

  split_next : (f : ℕ → Option Ends) (p x y : ℕ) → next_at (dropped f p) x ≡ Some y
      → (x ≢ p) × (next_at f x ≡ Some y)
  split_next f p x y h =
      elim (eqb_tells x p) [
        | inl same ↦ absurd (let missing : None ≡ Some y = rw same.0 at h in cc)
        | inr differs ↦ (differs.1, rw differs.0 at h)
      ]

  split_prev : (f : ℕ → Option Ends) (p x y : ℕ) → prev_at (dropped f p) x ≡ Some y
      → (x ≢ p) × (prev_at f x ≡ Some y)
  split_prev f p x y h =
      elim (eqb_tells x p) [
        | inl same ↦ absurd (let missing : None ≡ Some y = rw same.0 at h in cc)
        | inr differs ↦ (differs.1, rw differs.0 at h)
      ]

  pub IsAgreed-taken : (p : ℕ) (b n : Option ℕ) → e p ≡ Some (b, n) → IsAgreed e
      → IsAgreed (dropped (bridged e b n) p)
  IsAgreed-taken p b n at_p agreed =
      let next_p : next_at e p ≡ n = ap next_in at_p in
      let prev_p : prev_at e p ≡ b = ap prev_in at_p in
      let next_of_b : (x : ℕ) → b ≡ Some x
      → next_at e x ≡ Some p = λ x is. agreed.backward x p (prev_p ∙ is) in
      let prev_of_n : (y : ℕ) → n ≡ Some y
      → prev_at e y ≡ Some p = λ y is. agreed.forward p y (next_p ∙ is) in
      record {
        forward =
            λ x y h.
            let s = split_next (bridged e b n) p x y h in
            elim (is_it b x) [
              | inl hit ↦
                  let v = valid_next (e x) p (next_of_b x hit) in
                  let n_is : n ≡ Some y = sym (next_hit b n x v.0 hit v.1) ∙ s.1 in
                  let w = valid_prev (e y) p (prev_of_n y n_is) in
                  let w' = valid-with_next_if e b n y w.0 w.1 in
                  let not_p : y ≢ p = λ same. let loops : n ≡ Some p = n_is ∙ ap Some same in
                  let b_is : b ≡ Some p = sym prev_p
                  ∙ prev_of_n p loops in let t : Some x ≡ Some p = sym hit ∙ b_is in s.0 (cc) in
                  rw (ne_eqb y p not_p) (prev_hit b n y w'.0 n_is w'.1 ∙ hit)
              | inr miss ↦
                  let out : next_at e x ≡ Some y = sym (next_miss b n x miss) ∙ s.1 in
                  let into : prev_at e y ≡ Some x = agreed.forward x y out in
                  let not_p : y ≢ p = λ same. miss
                  (sym prev_p ∙ subst (λ z. prev_at e z ≡ Some x) same into) in
                  let not_n : n ≢ Some y = λ is. let t : Some p ≡ Some x = sym (prev_of_n y is)
                  ∙ into in s.0 (cc) in
                  rw (ne_eqb y p not_p) (prev_miss b n y not_n ∙ into)
            ];
        backward =
            λ x y h.
            let s = split_prev (bridged e b n) p y x h in
            elim (is_it n y) [
              | inl hit ↦
                  let w = valid_prev (e y) p (prev_of_n y hit) in
                  let w' = valid-with_next_if e b n y w.0 w.1 in
                  let b_is : b ≡ Some x = sym (prev_hit b n y w'.0 hit w'.1) ∙ s.1 in
                  let v = valid_next (e x) p (next_of_b x b_is) in
                  let not_p : x ≢ p = λ same. let loops : b ≡ Some p = b_is ∙ ap Some same in
                  let n_is : n ≡ Some p = sym next_p
                  ∙ next_of_b p loops in let t : Some y ≡ Some p = sym hit ∙ n_is in s.0 (cc) in
                  rw (ne_eqb x p not_p) (next_hit b n x v.0 b_is v.1 ∙ hit)
              | inr miss ↦
                  let into : prev_at e y ≡ Some x = sym (prev_miss b n y miss) ∙ s.1 in
                  let out : next_at e x ≡ Some y = agreed.backward x y into in
                  let not_p : x ≢ p = λ same. miss
                  (sym next_p ∙ subst (λ z. next_at e z ≡ Some y) same out) in
                  let not_b : b ≢ Some x = λ is. let t : Some p ≡ Some y = sym (next_of_b x is)
                  ∙ out in s.0 (cc) in
                  rw (ne_eqb x p not_p) (next_miss b n x not_b ∙ out)
            ];
      }

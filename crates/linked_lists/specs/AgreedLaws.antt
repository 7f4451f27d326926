-- A new interlink and a cut one keep the two ways agreed.
use Rattle.std.proofs.Common.{◌≡◌, ◌≢◌, ℕ, Option, Some, None, refl, sym, ap, subst, ◌∙◌, inl, inr}
use Rattle.std.proofs.lemmas.Bool.{eq-eqb, ne_eqb}
use Rattle.std.proofs.lemmas.Bool.Decides.{eqb_tells}
use Rattle.linked_lists.specs.LinkedLists.{Ends, with_next, with_prev, renext, reprev, linked}
use Rattle.linked_lists.specs.LinkedLists.{unlinked, IsAgreed, next_at, prev_at, next_in, prev_in}

pub valid_next : (o : Option Ends) (x : ℕ) → next_in o ≡ Some x → (v : Ends) × (o ≡ Some v)
valid_next None x h = absurd (cc)
valid_next (Some v) x h = (v, refl)

pub valid_prev : (o : Option Ends) (x : ℕ) → prev_in o ≡ Some x → (v : Ends) × (o ≡ Some v)
valid_prev None x h = absurd (cc)
valid_prev (Some v) x h = (v, refl)

next_renext : (o : Option Ends) (n : Option ℕ) (v : Ends) → o ≡ Some v → next_in (renext n o) ≡ n
next_renext o n v found = rw found refl

pub next_reprev : (o : Option Ends) (n : Option ℕ) → next_in (reprev n o) ≡ next_in o
next_reprev None n = refl
next_reprev (Some v) n = refl

prev_reprev : (o : Option Ends) (n : Option ℕ) (v : Ends) → o ≡ Some v → prev_in (reprev n o) ≡ n
prev_reprev o n v found = rw found refl

pub prev_renext : (o : Option Ends) (n : Option ℕ) → prev_in (renext n o) ≡ prev_in o
prev_renext None n = refl
prev_renext (Some v) n = refl

renext_found : (o : Option Ends) (n : Option ℕ) (v : Ends) → o ≡ Some v → renext n o ≡ Some (v.0, n)
renext_found o n v found = rw found refl

module _ (e : ℕ → Option Ends) (p q : ℕ) (n m : Option ℕ) where
  abbrev both : ℕ → Option Ends
  both = with_prev (with_next e p n) q m

  next_both : (i : ℕ) → next_at both i ≡ next_at (with_next e p n) i
  next_both i =
      elim (eqb_tells i q) [
        | inl same ↦ rw same.0 (next_reprev (with_next e p n i) m)
        | inr differs ↦ rw differs.0 refl
      ]

  pub next_at_p : (v : Ends) → e p ≡ Some v → next_at both p ≡ n
  next_at_p v found = next_both p ∙ rw (eq-eqb p p refl) (next_renext (e p) n v found)

  pub next_at_other : (i : ℕ) → i ≢ p → next_at both i ≡ next_at e i
  next_at_other i differs = next_both i ∙ rw (ne_eqb i p differs) refl

  prev_with_next : (i : ℕ) → prev_at (with_next e p n) i ≡ prev_at e i
  prev_with_next i =
      elim (eqb_tells i p) [
        | inl same ↦ rw same.0 (prev_renext (e i) n)
        | inr differs ↦ rw differs.0 refl
      ]

  pub found_after : (i : ℕ) (v : Ends) → e i ≡ Some v → (w : Ends) × (with_next e p n i ≡ Some w)
  found_after i v found =
      elim (eqb_tells i p) [
        | inl same ↦ ((v.0, n), rw same.0 (renext_found (e i) n v found))
        | inr differs ↦ (v, rw differs.0 found)
      ]

  pub prev_at_q : (v : Ends) → e q ≡ Some v → prev_at both q ≡ m
  prev_at_q v found =
      let after = found_after q v found in
      rw (eq-eqb q q refl) (prev_reprev (with_next e p n q) m after.0 after.1)

  pub prev_at_other : (i : ℕ) → i ≢ q → prev_at both i ≡ prev_at e i
  prev_at_other i differs = rw (ne_eqb i q differs) (prev_with_next i)

pub IsAgreed-linked : (e : ℕ → Option Ends) (p q : ℕ) (v w : Ends) → e p ≡ Some v → v.1 ≡ None
    → e q ≡ Some w → w.0 ≡ None
    → IsAgreed e → IsAgreed (linked e p q)
IsAgreed-linked e p q v w at_p end at_q start agreed =
    record {
      forward =
          λ x y h.
          elim (eqb_tells x p) [
            | inl same ↦
                let n : next_at (linked e p q) p ≡ Some q =
                next_at_p e p q (Some q) (Some p) v at_p in
                let h' : next_at (linked e p q) p ≡ Some y =
                subst (λ z. next_at (linked e p q) z ≡ Some y) same.1 h in
                let t : y ≡ q = cc in
                let x_is : x ≡ p = same.1 in
                rw (t, x_is) (prev_at_q e p q (Some q) (Some p) w at_q)
            | inr differs ↦
                let b = agreed.forward x y
                (sym (next_at_other e p q (Some q) (Some p) x differs.1) ∙ h) in
                let not_q : y ≢ q = λ same. let s : prev_at e q ≡ Some x =
                subst (λ z. prev_at e z ≡ Some x) same b in
                let r : prev_at e q ≡ None = ap prev_in at_q ∙ start in cc in
                prev_at_other e p q (Some q) (Some p) y not_q ∙ b
          ];
      backward =
          λ x y h.
          elim (eqb_tells y q) [
            | inl same ↦
                let n : prev_at (linked e p q) q ≡ Some p =
                prev_at_q e p q (Some q) (Some p) w at_q in
                let h' : prev_at (linked e p q) q ≡ Some x =
                subst (λ z. prev_at (linked e p q) z ≡ Some x) same.1 h in
                let t : x ≡ p = cc in
                let y_is : y ≡ q = same.1 in
                rw (t, y_is) (next_at_p e p q (Some q) (Some p) v at_p)
            | inr differs ↦
                let b = agreed.backward x y
                (sym (prev_at_other e p q (Some q) (Some p) y differs.1) ∙ h) in
                let not_p : x ≢ p = λ same. let s : next_at e p ≡ Some y =
                subst (λ z. next_at e z ≡ Some y) same b in
                let r : next_at e p ≡ None = ap next_in at_p ∙ end in cc in
                next_at_other e p q (Some q) (Some p) x not_p ∙ b
          ];
    }

pub IsAgreed-unlinked : (e : ℕ → Option Ends) (p q : ℕ) (v w : Ends) → e p ≡ Some v → v.1 ≡ Some q
    → e q ≡ Some w → IsAgreed e → IsAgreed (unlinked e p q)
IsAgreed-unlinked e p q v w at_p next at_q agreed =
    let out : next_at e p ≡ Some q = ap next_in at_p ∙ next in
    let into : prev_at e q ≡ Some p = agreed.forward p q out in
    record {
      forward =
          λ x y h.
          elim (eqb_tells x p) [
            | inl same ↦
                let n : next_at (unlinked e p q) p ≡ None = next_at_p e p q None None v at_p in
                let h' : next_at (unlinked e p q) p ≡ Some y =
                subst (λ z. next_at (unlinked e p q) z ≡ Some y) same.1 h in
                absurd (let t : None ≡ Some y = sym n ∙ h' in cc)
            | inr differs ↦
                let b = agreed.forward x y (sym (next_at_other e p q None None x differs.1) ∙ h) in
                let not_q : y ≢ q = λ same. let s : prev_at e q ≡ Some x =
                subst (λ z. prev_at e z ≡ Some x) same b in let t : x ≡ p = cc in differs.1 t in
                prev_at_other e p q None None y not_q ∙ b
          ];
      backward =
          λ x y h.
          elim (eqb_tells y q) [
            | inl same ↦
                let n : prev_at (unlinked e p q) q ≡ None = prev_at_q e p q None None w at_q in
                let h' : prev_at (unlinked e p q) q ≡ Some x =
                subst (λ z. prev_at (unlinked e p q) z ≡ Some x) same.1 h in
                absurd (let t : None ≡ Some x = sym n ∙ h' in cc)
            | inr differs ↦
                let b = agreed.backward x y (sym (prev_at_other e p q None None y differs.1) ∙ h) in
                let not_p : x ≢ p = λ same. let s : next_at e p ≡ Some y =
                subst (λ z. next_at e z ≡ Some y) same b in let t : y ≡ q = cc in differs.1 t in
                next_at_other e p q None None x not_p ∙ b
          ];
    }

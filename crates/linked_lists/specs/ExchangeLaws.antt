-- An exchange of two nexts is two cuts and two joins.
use Rattle.std.proofs.Common.{◌≡◌, ◌≢◌, ℕ, Bool, Option, Some, None, refl, sym, ap, ◌∙◌, inl, inr}
use Rattle.std.proofs.Common.{cond, eqb, true, false}
use Rattle.std.proofs.lemmas.Bool.Decides.{eqb_tells}
use Rattle.linked_lists.specs.LinkedLists.{Ends, with_next, with_prev, renext, reprev, linked}
use Rattle.linked_lists.specs.LinkedLists.{unlinked, exchanged, IsAgreed, next_at, prev_at}
use Rattle.linked_lists.specs.LinkedLists.{next_in, prev_in}
use Rattle.linked_lists.specs.AgreedLaws.{next_at_p, next_at_other, prev_at_q}
use Rattle.linked_lists.specs.AgreedLaws.{prev_at_other, found_after, IsAgreed-linked}
use Rattle.linked_lists.specs.AgreedLaws.{IsAgreed-unlinked, valid_next, valid_prev}

-- a write where a test holds
abbrev pub next_where : Bool → Option ℕ → Option Ends → Option Ends
next_where b n o = cond b (renext n o) o

abbrev pub prev_where : Bool → Option ℕ → Option Ends → Option Ends
prev_where b n o = cond b (reprev n o) o

-- four writes at one index, and the writes of two cuts and two joins
at_one : (p q s t : ℕ) (is_p is_q is_s is_t : Bool) (o : Option Ends)
    → prev_where is_s (Some q)
    (prev_where is_t (Some p) (next_where is_q (Some s) (next_where is_p (Some t) o)))
    ≡ prev_where is_s (Some q)
    (next_where is_q (Some s) (prev_where is_t (Some p) (next_where is_p (Some t)
    (prev_where is_t None (next_where is_q None (prev_where is_s None (next_where is_p None o)))))))
at_one p q s t true true true true None = refl
at_one p q s t true true true true (Some v) = refl
at_one p q s t true true true false None = refl
at_one p q s t true true true false (Some v) = refl
at_one p q s t true true false true None = refl
at_one p q s t true true false true (Some v) = refl
at_one p q s t true true false false None = refl
at_one p q s t true true false false (Some v) = refl
at_one p q s t true false true true None = refl
at_one p q s t true false true true (Some v) = refl
at_one p q s t true false true false None = refl
at_one p q s t true false true false (Some v) = refl
at_one p q s t true false false true None = refl
at_one p q s t true false false true (Some v) = refl
at_one p q s t true false false false None = refl
at_one p q s t true false false false (Some v) = refl
at_one p q s t false true true true None = refl
at_one p q s t false true true true (Some v) = refl
at_one p q s t false true true false None = refl
at_one p q s t false true true false (Some v) = refl
at_one p q s t false true false true None = refl
at_one p q s t false true false true (Some v) = refl
at_one p q s t false true false false None = refl
at_one p q s t false true false false (Some v) = refl
at_one p q s t false false true true None = refl
at_one p q s t false false true true (Some v) = refl
at_one p q s t false false true false None = refl
at_one p q s t false false true false (Some v) = refl
at_one p q s t false false false true None = refl
at_one p q s t false false false true (Some v) = refl
at_one p q s t false false false false None = refl
at_one p q s t false false false false (Some v) = refl

-- a write of a next and one of a previous one may change places
either_first : (a b : Bool) (n m : Option ℕ) (o : Option Ends)
    → next_where a n (prev_where b m o) ≡ prev_where b m (next_where a n o)
either_first false b n m o = refl
either_first true false n m o = refl
either_first true true n m None = refl
either_first true true n m (Some v) = refl

module _ (e : ℕ → Option Ends) (p q s t : ℕ) where
  -- an exchange is two joins
  pub linked_twice : (i : ℕ) → linked (linked e p t) q s i ≡ exchanged e p q s t i
  linked_twice i = ap (prev_where (eqb i s) (Some q))
      (either_first (eqb i q) (eqb i t) (Some s) (Some p) (next_where (eqb i p) (Some t) (e i)))

  -- it is also two cuts and two joins
  pub exchanged_is : (i : ℕ)
      → exchanged e p q s t i ≡ linked (linked (unlinked (unlinked e p s) q t) p t) q s i
  exchanged_is i = at_one p q s t (eqb i p) (eqb i q) (eqb i s) (eqb i t) (e i)

valid_both : (e : ℕ → Option Ends) (p q : ℕ) (n m : Option ℕ) (i : ℕ) (v : Ends) → e i ≡ Some v
    → (w : Ends) × (with_prev (with_next e p n) q m i ≡ Some w)
valid_both e p q n m i v found =
    let a = found_after e p q n m i v found in
    elim (eqb_tells i q) [
      | inl same ↦ ((m, a.0.1), rw (same.0, a.1) refl)
      | inr differs ↦ (a.0, rw differs.0 a.1)
    ]

-- two cuts and two joins keep the two ways agreed
pub IsAgreed-exchanged : (e : ℕ → Option Ends) (p q s t : ℕ) → p ≢ q → next_at e p ≡ Some s
    → next_at e q ≡ Some t → IsAgreed e
    → IsAgreed (linked (linked (unlinked (unlinked e p s) q t) p t) q s)
IsAgreed-exchanged e p q s t differs out_p out_q agreed =
    let e1 : ℕ → Option Ends = unlinked e p s in
    let e2 : ℕ → Option Ends = unlinked e1 q t in
    let e3 : ℕ → Option Ends = linked e2 p t in
    let into_s = agreed.forward p s out_p in
    let into_t = agreed.forward q t out_q in
    let apart : s ≢ t = λ same. let a : Some p ≡ Some q = sym into_s ∙ ap (prev_at e) same
    ∙ into_t in differs (cc) in
    let vp = valid_next (e p) s out_p in
    let vq = valid_next (e q) t out_q in
    let vs = valid_prev (e s) p into_s in
    let vt = valid_prev (e t) q into_t in
    let agreed1 : IsAgreed e1 =
    IsAgreed-unlinked e p s vp.0 vs.0 vp.1 (sym (ap next_in vp.1) ∙ out_p) vs.1 agreed in
    let p1 = valid_both e p s None None p vp.0 vp.1 in
    let q1 = valid_both e p s None None q vq.0 vq.1 in
    let s1 = valid_both e p s None None s vs.0 vs.1 in
    let t1 = valid_both e p s None None t vt.0 vt.1 in
    let next1_p : next_at e1 p ≡ None = next_at_p e p s None None vp.0 vp.1 in
    let next1_q : next_at e1 q ≡ Some t =
    next_at_other e p s None None q (λ same. differs (sym same)) ∙ out_q in
    let prev1_s : prev_at e1 s ≡ None = prev_at_q e p s None None vs.0 vs.1 in
    let agreed2 : IsAgreed e2 =
    IsAgreed-unlinked e1 q t q1.0 t1.0 q1.1 (sym (ap next_in q1.1) ∙ next1_q) t1.1 agreed1 in
    let p2 = valid_both e1 q t None None p p1.0 p1.1 in
    let q2 = valid_both e1 q t None None q q1.0 q1.1 in
    let s2 = valid_both e1 q t None None s s1.0 s1.1 in
    let t2 = valid_both e1 q t None None t t1.0 t1.1 in
    let next2_p : next_at e2 p ≡ None = next_at_other e1 q t None None p differs ∙ next1_p in
    let next2_q : next_at e2 q ≡ None = next_at_p e1 q t None None q1.0 q1.1 in
    let prev2_t : prev_at e2 t ≡ None = prev_at_q e1 q t None None t1.0 t1.1 in
    let prev2_s : prev_at e2 s ≡ None = prev_at_other e1 q t None None s apart ∙ prev1_s in
    let agreed3 : IsAgreed e3 =
    IsAgreed-linked e2 p t p2.0 t2.0 p2.1 (sym (ap next_in p2.1) ∙ next2_p) t2.1
    (sym (ap prev_in t2.1) ∙ prev2_t) agreed2 in
    let q3 = valid_both e2 p t (Some t) (Some p) q q2.0 q2.1 in
    let s3 = valid_both e2 p t (Some t) (Some p) s s2.0 s2.1 in
    let next3_q : next_at e3 q ≡ None =
    next_at_other e2 p t (Some t) (Some p) q (λ same. differs (sym same)) ∙ next2_q in
    let prev3_s : prev_at e3 s ≡ None = prev_at_other e2 p t (Some t) (Some p) s apart ∙ prev2_s in
    IsAgreed-linked e3 q s q3.0 s3.0 q3.1 (sym (ap next_in q3.1) ∙ next3_q) s3.1
    (sym (ap prev_in s3.1) ∙ prev3_s) agreed3

-- an exchange of an index with itself changes nothing
pub exchanged_self : (e : ℕ → Option Ends) (p s : ℕ) → next_at e p ≡ Some s → IsAgreed e → (i : ℕ)
    → exchanged e p p s s i ≡ e i
exchanged_self e p s out agreed i =
    let into = agreed.forward p s out in
    let vp = valid_next (e p) s out in
    let vs = valid_prev (e s) p into in
    elim (eqb_tells i p) [
      | inl same ↦
          let at : e i ≡ Some vp.0 = ap e same.1 ∙ vp.1 in
          let next : vp.0.1 ≡ Some s = sym (ap next_in vp.1) ∙ out in
          elim (eqb_tells i s) [
            | inl too ↦
                let prev : vp.0.0 ≡ Some p = sym (ap prev_in at) ∙ ap (prev_at e) too.1 ∙ into in
                rw (same.0, too.0, at)
                (ap (λ n. Some (Some p, n)) (sym next) ∙ ap (λ n. Some (n, vp.0.1)) (sym prev))
            | inr other ↦ rw (same.0, other.0, at) (ap (λ n. Some (vp.0.0, n)) (sym next))
          ]
      | inr differs ↦
          elim (eqb_tells i s) [
            | inl too ↦
                let at : e i ≡ Some vs.0 = ap e too.1 ∙ vs.1 in
                let prev : vs.0.0 ≡ Some p = sym (ap prev_in vs.1) ∙ into in
                rw (differs.0, too.0, at) (ap (λ n. Some (n, vs.0.1)) (sym prev))
            | inr other ↦ rw (differs.0, other.0) refl
          ]
    ]

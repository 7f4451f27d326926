-- What takes an exchange of nexts, and a new interlink, back.
use Rattle.std.proofs.Common.{◌≡◌, ℕ, Bool, true, false, Option, Some, None, refl, sym, ap, ◌∙◌}
use Rattle.std.proofs.Common.{cond, eqb, inl, inr}
use Rattle.std.proofs.lemmas.Bool.{eqb-true, eq-eqb}
use Rattle.std.proofs.lemmas.Bool.Decides.{eqb_tells}
use Rattle.linked_lists.specs.LinkedLists.{Ends, with_next, with_prev, linked, unlinked, exchanged}
use Rattle.linked_lists.specs.LinkedLists.{IsAgreed, next_at, prev_at, next_in, prev_in}
use Rattle.linked_lists.specs.AgreedLaws.{valid_next, found_after, next_reprev}
use Rattle.linked_lists.specs.ExchangeLaws.{next_where, prev_where}

next_some : (b : Bool) (n : Option ℕ) (v : Ends)
    → next_where b n (Some v) ≡ Some (v.0, cond b n v.1)
next_some true n v = refl
next_some false n v = refl

prev_some : (b : Bool) (n : Option ℕ) (v : Ends)
    → prev_where b n (Some v) ≡ Some (cond b n v.0, v.1)
prev_some true n v = refl
prev_some false n v = refl

next_none : (b : Bool) (n : Option ℕ) → next_where b n None ≡ None
next_none true n = refl
next_none false n = refl

prev_none : (b : Bool) (n : Option ℕ) → prev_where b n None ≡ None
prev_none true n = refl
prev_none false n = refl

-- what was there, written last
written_back : (b : Bool) (n m x : Option ℕ) → (b ≡ true → x ≡ n) → cond b n (cond b m x) ≡ x
written_back true n m x was = sym (was refl)
written_back false n m x was = refl

both_back : (b b' : Bool) (n n' m m' x : Option ℕ) → (b ≡ true → x ≡ n) → (b' ≡ true → x ≡ n')
    → cond b' n' (cond b n (cond b' m' (cond b m x))) ≡ x
both_back true true n n' m m' x was was' = sym (was' refl)
both_back true false n n' m m' x was was' = sym (was refl)
both_back false true n n' m m' x was was' = sym (was' refl)
both_back false false n n' m m' x was was' = refl

-- four writes, of which the later two write what was there
pub two_back_at : (is_p is_q : Bool) (n m n' m' : Option ℕ) (o : Option Ends)
    → (is_p ≡ true → next_in o ≡ n) → (is_q ≡ true → prev_in o ≡ m)
    → prev_where is_q m (next_where is_p n (prev_where is_q m' (next_where is_p n' o))) ≡ o
two_back_at is_p is_q n m n' m' None next prev =
    rw (next_none is_p n', prev_none is_q m', next_none is_p n, prev_none is_q m) refl
two_back_at is_p is_q n m n' m' (Some v) next prev =
    ap (λ o. prev_where is_q m (next_where is_p n (prev_where is_q m' o))) (next_some is_p n' v)
    ∙ ap (λ o. prev_where is_q m (next_where is_p n o)) (prev_some is_q m' (v.0, cond is_p n' v.1))
    ∙ ap (prev_where is_q m) (next_some is_p n (cond is_q m' v.0, cond is_p n' v.1))
    ∙ prev_some is_q m (cond is_q m' v.0, cond is_p n (cond is_p n' v.1))
    ∙ ap (λ x. Some (x, cond is_p n (cond is_p n' v.1))) (written_back is_q m m' v.0 prev)
    ∙ ap (λ x. Some (v.0, x)) (written_back is_p n n' v.1 next)

-- eight writes, of which the later four write what was there
four_back_at : (is_p is_q is_s is_t : Bool) (np nq ms mt np' nq' ms' mt' : Option ℕ)
    (o : Option Ends) → (is_p ≡ true → next_in o ≡ np)
    → (is_q ≡ true → next_in o ≡ nq) → (is_s ≡ true → prev_in o ≡ ms)
    → (is_t ≡ true → prev_in o ≡ mt)
    → prev_where is_t mt
    (prev_where is_s ms (next_where is_q nq
    (next_where is_p np (prev_where is_s ms'
    (prev_where is_t mt' (next_where is_q nq' (next_where is_p np' o)))))))
    ≡ o
four_back_at is_p is_q is_s is_t np nq ms mt np' nq' ms' mt' None fp fq fs ft =
    rw (
      next_none is_p np',
      next_none is_q nq',
      prev_none is_t mt',
      prev_none is_s ms',
      next_none is_p np,
      next_none is_q nq,
      prev_none is_s ms,
      prev_none is_t mt,
    ) refl
four_back_at is_p is_q is_s is_t np nq ms mt np' nq' ms' mt' (Some v) fp fq fs ft =
    let n1 = cond is_p np' v.1 in
    let n2 = cond is_q nq' n1 in
    let m1 = cond is_t mt' v.0 in
    let m2 = cond is_s ms' m1 in
    let n3 = cond is_p np n2 in
    let n4 = cond is_q nq n3 in
    let m3 = cond is_s ms m2 in
    let next : n4 ≡ v.1 = both_back is_p is_q np nq np' nq' v.1 fp fq in
    let prev : cond is_t mt m3 ≡ v.0 = both_inside is_s is_t ms mt ms' mt' v.0 fs ft in
    ap (λ o. prev_where is_t mt
    (prev_where is_s ms (next_where is_q nq
    (next_where is_p np (prev_where is_s ms' (prev_where is_t mt' (next_where is_q nq' o)))))))
    (next_some is_p np' v)
    ∙ ap (λ o. prev_where is_t mt
    (prev_where is_s ms (next_where is_q nq
    (next_where is_p np (prev_where is_s ms' (prev_where is_t mt' o))))))
    (next_some is_q nq' (v.0, n1))
    ∙ ap (λ o. prev_where is_t mt
    (prev_where is_s ms (next_where is_q nq (next_where is_p np (prev_where is_s ms' o)))))
    (prev_some is_t mt' (v.0, n2))
    ∙ ap (λ o. prev_where is_t mt (prev_where is_s ms (next_where is_q nq (next_where is_p np o))))
    (prev_some is_s ms' (m1, n2))
    ∙ ap (λ o. prev_where is_t mt (prev_where is_s ms (next_where is_q nq o)))
    (next_some is_p np (m2, n2))
    ∙ ap (λ o. prev_where is_t mt (prev_where is_s ms o)) (next_some is_q nq (m2, n3))
    ∙ ap (prev_where is_t mt) (prev_some is_s ms (m2, n4))
    ∙ prev_some is_t mt (m3, n4)
    ∙ ap (λ x. Some (x, n4)) prev
    ∙ ap (λ x. Some (v.0, x)) next
  where
    both_inside : (b b' : Bool) (n n' m m' x : Option ℕ) → (b ≡ true → x ≡ n) → (b' ≡ true → x ≡ n')
        → cond b' n' (cond b n (cond b m (cond b' m' x))) ≡ x
    both_inside true true n n' m m' x was was' = sym (was' refl)
    both_inside true false n n' m m' x was was' = sym (was refl)
    both_inside false true n n' m m' x was was' = sym (was' refl)
    both_inside false false n n' m m' x was was' = refl

-- a write of a previous one leaves the nexts
next_with_prev : (e : ℕ → Option Ends) (q : ℕ) (m : Option ℕ) (k : ℕ)
    → next_at (with_prev e q m) k ≡ next_at e k
next_with_prev e q m k =
    elim (eqb_tells k q) [
      | inl same ↦ rw same.0 (next_reprev (e k) m)
      | inr differs ↦ rw differs.0 refl
    ]

module _ (e : ℕ → Option Ends) where
  -- a next and a previous one that are written as they were
  two_back : (p q : ℕ) (n m n' m' : Option ℕ) → next_at e p ≡ n → prev_at e q ≡ m
      → (k : ℕ) → with_prev (with_next (with_prev (with_next e p n') q m') p n) q m k ≡ e k
  two_back p q n m n' m' next prev k =
      two_back_at (eqb k p) (eqb k q) n m n' m' (e k)
      (λ is. ap (next_at e) (eqb-true k p is) ∙ next)
      (λ is. ap (prev_at e) (eqb-true k q is) ∙ prev)

  -- an interlink that is made and cut
  pub linked_back : (p q : ℕ) → next_at e p ≡ None → prev_at e q ≡ None → (k : ℕ)
      → unlinked (linked e p q) p q k ≡ e k
  linked_back p q next prev k = two_back p q None None (Some q) (Some p) next prev k

  -- an interlink that is cut and made
  pub unlinked_back : (p q : ℕ) → next_at e p ≡ Some q → prev_at e q ≡ Some p → (k : ℕ)
      → linked (unlinked e p q) p q k ≡ e k
  unlinked_back p q next prev k = two_back p q (Some q) (Some p) None None next prev k

  -- the nexts after an exchange
  pub next_exchanged : (p q s t : ℕ) → next_at e p ≡ Some s → next_at e q ≡ Some t
      → (next_at (exchanged e p q s t) p ≡ Some t) × (next_at (exchanged e p q s t) q ≡ Some s)
  next_exchanged p q s t out_p out_q =
      let vp = valid_next (e p) s out_p in
      let vq = valid_next (e q) t out_q in
      let e1 = with_next e p (Some t) in
      let at_q = found_after e p q (Some t) None q vq.0 vq.1 in
      let nexts : (k : ℕ) → next_at (exchanged e p q s t) k ≡ next_at (with_next e1 q (Some s)) k =
      λ k. next_with_prev (with_prev (with_next e1 q (Some s)) t (Some p)) s (Some q) k
      ∙ next_with_prev (with_next e1 q (Some s)) t (Some p) k in (
        nexts p
            ∙ elim (eqb_tells p q) [
              | inl same ↦
                  let both : Some s ≡ Some t = sym out_p ∙ ap (next_at e) same.1 ∙ out_q in
                  rw (same.0, eq-eqb p p refl, vp.1) both
              | inr differs ↦ rw (differs.0, eq-eqb p p refl, vp.1) refl
            ],
        nexts q ∙ rw (eq-eqb q q refl, at_q.1) refl,
      )

  -- an exchange of nexts that is done twice
  pub exchanged_back : (p q s t : ℕ) → IsAgreed e → next_at e p ≡ Some s → next_at e q ≡ Some t
      → (k : ℕ) → exchanged (exchanged e p q s t) p q t s k ≡ e k
  exchanged_back p q s t agreed out_p out_q k =
      let into_s = agreed.forward p s out_p in
      let into_t = agreed.forward q t out_q in
      four_back_at (eqb k p) (eqb k q) (eqb k s) (eqb k t) (Some s) (Some t) (Some p) (Some q)
      (Some t) (Some s) (Some q) (Some p) (e k)
      (λ is. ap (next_at e) (eqb-true k p is) ∙ out_p)
      (λ is. ap (next_at e) (eqb-true k q is) ∙ out_q)
      (λ is. ap (prev_at e) (eqb-true k s is) ∙ into_s)
      (λ is. ap (prev_at e) (eqb-true k t is) ∙ into_t)

-- An index that goes to the front of a list, and one that leaves it, where nothing is known of the
-- links of other indexes.
use Rattle.std.proofs.Common.{◌≡◌, ◌≢◌, ℕ, List, [], ◌∷◌, ◌++◌, Option, Some, None, refl, sym, ap}
use Rattle.std.proofs.Common.{subst, ◌∙◌}
use Rattle.std.proofs.lemmas.Bool.{eq-eqb}
use Rattle.linked_lists.specs.LinkedLists.{Ends, next_in, prev_in, first_or, last_or, IsSegment}
use Rattle.linked_lists.specs.LinkedLists.{IsLinear, Off, with_next_if, with_prev_if}
use Rattle.linked_lists.specs.LinkedListLaws.{Off-front, Off-back, last_on, not_first}
use Rattle.linked_lists.specs.LinkedListLaws.{segment-append, segment-back}
use Rattle.linked_lists.specs.UniquenessLaws.{linear_apart}
use Rattle.linked_lists.specs.ChainLaws.{on_differs, segment-where}
use Rattle.linked_lists.specs.JoinLaws.{same-with_next_if, same-with_prev_if, some_differs}

next_written : (e : ℕ → Option Ends) (n : Option ℕ) (x : ℕ) (b a : Option ℕ) → e x ≡ Some (b, a)
    → with_next_if e (Some x) n x ≡ Some (b, n)
next_written e n x b a at = rw (eq-eqb x x refl, at) refl

prev_written : (e : ℕ → Option Ends) (n : Option ℕ) (x : ℕ) (b a : Option ℕ) → e x ≡ Some (b, a)
    → with_prev_if e (Some x) n x ≡ Some (n, a)
prev_written e n x b a at = rw (eq-eqb x x refl, at) refl

-- a previous one that was written over the same links
pub prev_same : (f g : ℕ → Option Ends) (o n : Option ℕ) (k : ℕ) → f k ≡ g k
    → with_prev_if f o n k ≡ with_prev_if g o n k
prev_same f g None n k same = same
prev_same f g (Some j) n k same = rw same refl

module _ (e : ℕ → Option Ends) where
  -- the last before an index is on no list that is behind it
  last_off : (b : Option ℕ) (xs ys : List ℕ) → IsSegment e b (xs ++ ys) None
      → ((x : ℕ) → b ≡ Some x → Off ys x) → (x : ℕ)
      → last_or b xs ≡ Some x → Off ys x
  last_off b [] ys s off x is = off x is
  last_off b (z ∷ xs) ys s off x is =
      last_off (Some z) xs ys s.1
      (λ w same. let h : z ≡ w = cc in
      subst (Off ys) h (Off-back xs ys z (linear_apart e b (z ∷ xs ++ ys) s).0)) x is

module _ (e e' : ℕ → Option Ends) where
  -- an index that is not on a list goes to its front
  pub put_first : (e1 : ℕ → Option Ends) (head : Option ℕ) (i : ℕ) (l : List ℕ) → IsLinear e l
      → head ≡ first_or l None → Off l i
      → e1 i ≡ Some (None, head) → ((k : ℕ) → k ≢ i → e1 k ≡ e k)
      → ((k : ℕ) → e' k ≡ with_prev_if e1 head (Some i) k)
      → IsLinear e' (i ∷ l)
  put_first e1 head i [] s is off at others written =
      let none : e' i ≡ e1 i = written i ∙ ap (λ o. with_prev_if e1 o (Some i) i) is in
      (none ∙ at ∙ ap (λ o. Some (None, o)) is, tt)
  put_first e1 head i (h ∷ t) s is off at others written =
      let put : (k : ℕ) → e' k ≡ with_prev_if e1 (Some h) (Some i) k = λ k. written k
      ∙ ap (λ o. with_prev_if e1 o (Some i) k) is in
      let missed : (k : ℕ) → k ≢ h → e' k ≡ e1 k = λ k other. put k
      ∙ same-with_prev_if e1 (Some h) (Some i) k (some_differs h k other) in
      let once = (linear_apart e None (h ∷ t) s).0 in (
        missed i (λ same. off.0 (sym same)) ∙ at ∙ ap (λ o. Some (None, o)) is,
        (
          put h ∙ prev_written e1 (Some i) h None (first_or t None) (others h off.0 ∙ s.0),
          segment-where e e' (Some h) None t
              (λ k on. missed k (on_differs t h k on once) ∙ others k (on_differs t i k on off.1))
              s.1,
        ),
      )

  front_joined : (b : Option ℕ) (xs ys : List ℕ) (i : ℕ) → IsSegment e b (xs ++ i ∷ ys) None
      → ((k : ℕ) → k ≢ i → first_or ys None ≢ Some k
      → e' k ≡ with_next_if e (last_or b xs) (first_or ys None) k)
      → IsSegment e' b xs (first_or ys None)
  front_joined b [] ys i s written = tt
  front_joined b (x ∷ []) ys i s written =
      let off = (linear_apart e b (x ∷ i ∷ ys) s).0 in (
        written x (λ same. off.0 (sym same)) (λ is. not_first x ys is off.1)
            ∙ next_written e (first_or ys None) x b (Some i) s.0,
        tt,
      )
  front_joined b (x ∷ y ∷ xs) ys i s written =
      let off = (linear_apart e b (x ∷ y ∷ xs ++ i ∷ ys) s).0 in
      let behind = Off-back (y ∷ xs) (i ∷ ys) x off in
      let between = Off-front (y ∷ xs) (i ∷ ys) x off in (
        written x (λ same. behind.0 (sym same)) (λ is. not_first x ys is behind.1)
            ∙ same-with_next_if e (last_or (Some y) xs) (first_or ys None) x
            (λ is. on_differs (y ∷ xs) x x (last_on y xs x is) between refl)
            ∙ s.0,
        front_joined (Some x) (y ∷ xs) ys i s.1 written,
      )

  back_joined : (o prev : Option ℕ) (i : ℕ) (ys : List ℕ) → IsSegment e o (i ∷ ys) None
      → ((x : ℕ) → prev ≡ Some x → Off ys x)
      → ((k : ℕ) → k ≢ i → prev ≢ Some k → e' k ≡ with_prev_if e (first_or ys None) prev k)
      → IsSegment e' prev ys None
  back_joined o prev i [] s off written = tt
  back_joined o prev i (y ∷ ys) s off written =
      let apart = linear_apart e o (i ∷ y ∷ ys) s in (
        written y apart.0.0 (λ is. (off y is).0 refl)
            ∙ prev_written e prev y (Some i) (first_or ys None) s.1.0,
        segment-where e e' (Some y) None ys
            (λ k on. written k (on_differs ys i k on apart.0.1)
            (λ is. on_differs ys k k on (off k is).1 refl)
            ∙ same-with_prev_if e (Some y) prev k
            (some_differs y k (on_differs ys y k on apart.1.0))) s.1.1,
      )

  -- an index leaves its list, and its neighbors are joined
  pub taken : (xs ys : List ℕ) (i : ℕ) (prev next : Option ℕ) → IsLinear e (xs ++ i ∷ ys)
      → e i ≡ Some (prev, next)
      → ((k : ℕ) → k ≢ i → e' k ≡ with_prev_if (with_next_if e prev next) next prev k)
      → IsLinear e' (xs ++ ys)
  taken xs ys i prev next s at written =
      let apart = last_off e None xs (i ∷ ys) s
      (λ x is. absurd (let no : None ≡ Some x = is in cc)) in
      let back = segment-back e None None xs (i ∷ ys) s in
      let both : Some (prev, next) ≡ Some (last_or None xs, first_or ys None) = sym at ∙ back.0 in
      let next_is : next ≡ first_or ys None = ap next_in both in
      let prev_is : prev ≡ last_or None xs = ap prev_in both in
      let put : (k : ℕ) → k ≢ i
      → e' k ≡ with_prev_if (with_next_if e (last_or None xs) (first_or ys None))
      (first_or ys None) (last_or None xs) k =
      λ k other. written k other ∙ ap (λ o. with_prev_if (with_next_if e prev o) o prev k) next_is
      ∙ ap (λ o. with_prev_if (with_next_if e o (first_or ys None)) (first_or ys None) o k) prev_is
      in
      segment-append e' None None xs ys
      (front_joined None xs ys i s
      (λ k other differs. put k other
      ∙ same-with_prev_if _ (first_or ys None) (last_or None xs) k differs))
      (back_joined (last_or None xs) (last_or None xs) i ys back (λ x is. (apart x is).1)
      (λ k other differs. put k other
      ∙ prev_same (with_next_if e (last_or None xs) (first_or ys None)) e (first_or ys None)
      (last_or None xs) k
      (same-with_next_if e (last_or None xs) (first_or ys None) k differs)))

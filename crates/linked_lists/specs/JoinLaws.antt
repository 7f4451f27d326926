-- What one new interlink, and one that is cut, make of the chains.
use Rattle.std.proofs.Common.{◌≡◌, ◌≢◌, ℕ, List, [], ◌∷◌, ◌++◌, Option, Some, None, IsSome, refl}
use Rattle.std.proofs.Common.{sym, ap, subst, ◌∙◌, inl, inr, append_assoc}
use Rattle.std.proofs.lemmas.Bool.{ne_eqb}
use Rattle.std.proofs.lemmas.Bool.Decides.{eqb_tells}
use Rattle.linked_lists.specs.LinkedLists.{Ends, next_in, prev_in, next_at, prev_at, with_next_if}
use Rattle.linked_lists.specs.LinkedLists.{with_prev_if, renext, reprev, linked, unlinked}
use Rattle.linked_lists.specs.LinkedLists.{IsAgreed, first_or, last_or, Off, On, Apart, IsLinear}
use Rattle.linked_lists.specs.LinkedLists.{IsRing}
use Rattle.linked_lists.specs.LinkedListLaws.{first_or-append, last_or-append, On-cons}
use Rattle.linked_lists.specs.UniquenessLaws.{Ended, none, some_last, ended, linear_apart}
use Rattle.linked_lists.specs.Chains.{Chain, members, IsChainOf, IsAppended, IsSplit}
use Rattle.linked_lists.specs.ChainLaws.{On-first, On-split, on_differs, off_or_not, first_on}
use Rattle.linked_lists.specs.ChainLaws.{Apart-split, of_live, live_on, Follows, follows}
use Rattle.linked_lists.specs.ChainLaws.{Follows-append, Follows-front, Follows-back, starts}
use Rattle.linked_lists.specs.ChainLaws.{linear_same, linear_by, chain_where, ring_by}
use Rattle.linked_lists.specs.GapLaws.{next-with_prev_if, prev-with_next_if, next-hit}
use Rattle.linked_lists.specs.GapLaws.{next-miss, prev-hit, prev-miss}

alive-renext : (o : Option Ends) (n : Option ℕ) → IsSome o → IsSome (renext n o)
alive-renext None n some = some
alive-renext (Some v) n some = refl

alive-reprev : (o : Option Ends) (n : Option ℕ) → IsSome o → IsSome (reprev n o)
alive-reprev None n some = some
alive-reprev (Some v) n some = refl

-- what is live is live after a write
pub alive-with_next_if : (f : ℕ → Option Ends) (o n : Option ℕ) (i : ℕ) → IsSome (f i)
    → IsSome (with_next_if f o n i)
alive-with_next_if f None n i some = some
alive-with_next_if f (Some j) n i some =
    elim (eqb_tells i j) [
      | inl same ↦ rw same.0 (alive-renext (f i) n some)
      | inr differs ↦
          rw differs.0 some
    ]

pub alive-with_prev_if : (f : ℕ → Option Ends) (o n : Option ℕ) (i : ℕ) → IsSome (f i)
    → IsSome (with_prev_if f o n i)
alive-with_prev_if f None n i some = some
alive-with_prev_if f (Some j) n i some =
    elim (eqb_tells i j) [
      | inl same ↦ rw same.0 (alive-reprev (f i) n some)
      | inr differs ↦
          rw differs.0 some
    ]

pub same-with_next_if : (f : ℕ → Option Ends) (o n : Option ℕ) (i : ℕ) → o ≢ Some i
    → with_next_if f o n i ≡ f i
same-with_next_if f None n i other = refl
same-with_next_if f (Some j) n i other = rw (ne_eqb i j (λ same. other (ap Some (sym same)))) refl

pub same-with_prev_if : (f : ℕ → Option Ends) (o n : Option ℕ) (i : ℕ) → o ≢ Some i
    → with_prev_if f o n i ≡ f i
same-with_prev_if f None n i other = refl
same-with_prev_if f (Some j) n i other = rw (ne_eqb i j (λ same. other (ap Some (sym same)))) refl

-- the first of a list that ends depends on nothing behind it
pub nonempty : (xs : List ℕ) (y : ℕ) (a : Option ℕ)
    → first_or (xs ++ y ∷ []) a ≡ first_or (xs ++ y ∷ []) None
nonempty [] y a = refl
nonempty (x ∷ xs) y a = refl

pub some_differs : (j k : ℕ) → k ≢ j → (let o : Option ℕ = Some j in o) ≢ Some k
some_differs j k differs is = let same : j ≡ k = cc in differs (sym same)

pub hit_next : (f : ℕ → Option Ends) (o n : Option ℕ) (i : ℕ) → o ≡ Some i → IsSome (f i)
    → next_at (with_next_if f o n) i ≡ n
hit_next f o n i is some = next-hit f o n i (prev_at f i, next_at f i) is (of_live (f i) some)

pub hit_prev : (f : ℕ → Option Ends) (o n : Option ℕ) (i : ℕ) → o ≡ Some i → IsSome (f i)
    → prev_at (with_prev_if f o n) i ≡ n
hit_prev f o n i is some = prev-hit f o n i (prev_at f i, next_at f i) is (of_live (f i) some)

module _ (e e' : ℕ → Option Ends) where
  module _ (alive : (k : ℕ) → IsSome (e k) → IsSome (e' k)) where
    pub Follows-where : (a : Option ℕ) (xs : List ℕ)
        → ((k : ℕ) → On xs k → next_at e' k ≡ next_at e k) → Follows e xs a → Follows e' xs a
    Follows-where a [] same f = tt
    Follows-where a (x ∷ xs) same f = (
      (alive x f.0.0, same x (On-first x xs) ∙ f.0.1),
      Follows-where a xs (λ k on. same k (On-cons x k xs on)) f.1,
    )

-- an interlink from `p` to `q` that is new or cut, as it is in `next` and `prev`
module _ (e e' : ℕ → Option Ends) (p q : ℕ) (n m : Option ℕ) (agreed' : IsAgreed e')
    (same : (k : ℕ) → e' k ≡ with_prev_if (with_next_if e (Some p) n) (Some q) m k) where
  pub one_alive : (k : ℕ) → IsSome (e k) → IsSome (e' k)
  one_alive k some = rw same
      (alive-with_prev_if (with_next_if e (Some p) n) (Some q) m k
      (alive-with_next_if e (Some p) n k some))

  pub one_next : IsSome (e p) → next_at e' p ≡ n
  one_next some = ap next_in (same p) ∙ next-with_prev_if (with_next_if e (Some p) n) (Some q) m p
      ∙ hit_next e (Some p) n p refl some

  pub one_next_else : (k : ℕ) → k ≢ p → next_at e' k ≡ next_at e k
  one_next_else k differs =
      ap next_in (same k) ∙ next-with_prev_if (with_next_if e (Some p) n) (Some q) m k
      ∙ next-miss e (Some p) n k (some_differs p k differs)

  pub one_prev : IsSome (e q) → prev_at e' q ≡ m
  one_prev some = ap prev_in (same q)
      ∙ hit_prev (with_next_if e (Some p) n) (Some q) m q refl
      (alive-with_next_if e (Some p) n q some)

  pub one_prev_else : (k : ℕ) → k ≢ q → prev_at e' k ≡ prev_at e k
  one_prev_else k differs =
      ap prev_in (same k) ∙ prev-miss (with_next_if e (Some p) n) (Some q) m k
      (some_differs q k differs) ∙ prev-with_next_if e (Some p) n k

  pub one_other : (k : ℕ) → k ≢ p → k ≢ q → e' k ≡ e k
  one_other k not_p not_q =
      same k ∙ same-with_prev_if (with_next_if e (Some p) n) (Some q) m k (some_differs q k not_q)
      ∙ same-with_next_if e (Some p) n k (some_differs p k not_p)

  pub others_stay : (c : Chain) → IsChainOf e c → Off (members c) p → Off (members c) q
      → IsChainOf e' c
  others_stay c chain off_p off_q =
      chain_where e e' c (λ k on. one_other k (on_differs (members c) p k on off_p)
      (on_differs (members c) q k on off_q)) chain

  -- a list up to `p`
  pub up_to_p : (a a' : Option ℕ) (before : List ℕ) → Off before p → next_at e' p ≡ a'
      → Follows e (before ++ p ∷ []) a → Follows e' (before ++ p ∷ []) a'
  up_to_p a a' before off out f =
      let front = Follows-where e e' one_alive (Some p) before
      (λ k on. one_next_else k (on_differs before p k on off))
      (Follows-front e a before (p ∷ []) f) in
      let back = Follows-back e a before (p ∷ []) f in
      Follows-append e' a' before (p ∷ []) front ((one_alive p back.0.0, out), tt)

  -- a list without `p`
  pub off_p : (a : Option ℕ) (xs : List ℕ) → Off xs p → Follows e xs a → Follows e' xs a
  off_p a xs off f = Follows-where e e' one_alive a xs
      (λ k on. one_next_else k (on_differs xs p k on off)) f

module _ (e e' : ℕ → Option Ends) (p q : ℕ) (agreed' : IsAgreed e')
    (same : (k : ℕ) → e' k ≡ linked e p q k) where
  appended : (before after : List ℕ) → IsLinear e (before ++ p ∷ []) → IsLinear e (q ∷ after)
      → before ++ p ∷ [] ≢ q ∷ after
      → IsLinear e' (before ++ p ∷ q ∷ after)
  appended before after s t differ =
      let two : (k : ℕ) → On (before ++ p ∷ []) k → On (q ∷ after) k
      → ⊥ = λ k on on'. differ (linear_same e (before ++ p ∷ []) (q ∷ after) k s t on on') in
      let live_p : IsSome (e p) =
      live_on e None None (before ++ p ∷ []) p s (On-split before [] p) in
      let out : next_at e' p ≡ Some q = one_next e e' p q (Some q) (Some p) agreed' same live_p in
      let off : Off before p =
      (Apart-split before [] p (linear_apart e None (before ++ p ∷ []) s)).0 in
      let off' : Off (q ∷ after) p =
      off_or_not (q ∷ after) p (λ on. two p (On-split before [] p) on) in
      let front = up_to_p e e' p q (Some q) (Some p) agreed' same None (Some q) before off out
      (follows e None None (before ++ p ∷ []) s) in
      let back = off_p e e' p q (Some q) (Some p) agreed' same None (q ∷ after) off'
      (follows e None None (q ∷ after) t) in
      let all = Follows-append e' None (before ++ p ∷ []) (q ∷ after) front back in
      let whole = append_assoc before (p ∷ []) (q ∷ after) in
      subst (IsLinear e') whole
      (linear_by e' agreed' ((before ++ p ∷ []) ++ q ∷ after) all
      (λ f is.
      let first : first_or (before ++ p ∷ []) None ≡ Some f =
      sym (first_or-append (before ++ p ∷ []) (q ∷ after) None ∙ nonempty before p (Some q)) ∙ is in
      let on = first_on (before ++ p ∷ []) f first in
      one_prev_else e e' p q (Some q) (Some p) agreed' same f
      (λ at_q. two f on (subst (On (q ∷ after)) (sym at_q) (On-first q after)))
      ∙ starts e (before ++ p ∷ []) f s first))

  closed : (xs before after : List ℕ) → IsLinear e xs → xs ≡ before ++ p ∷ [] → xs ≡ q ∷ after
      → IsRing e' xs
  closed xs before after s is_end is_start =
      let s' : IsLinear e (before ++ p ∷ []) = subst (IsLinear e) is_end s in
      let live_p : IsSome (e p) =
      live_on e None None (before ++ p ∷ []) p s' (On-split before [] p) in
      let out : next_at e' p ≡ Some q = one_next e e' p q (Some q) (Some p) agreed' same live_p in
      let off : Off before p =
      (Apart-split before [] p (linear_apart e None (before ++ p ∷ []) s')).0 in
      let all = up_to_p e e' p q (Some q) (Some p) agreed' same None (Some q) before off out
      (follows e None None (before ++ p ∷ []) s') in
      let round : Follows e' (q ∷ after) (Some q) =
      subst (λ l. Follows e' l (Some q)) (sym is_end ∙ is_start) all in
      let once : Off after q =
      (linear_apart e None (q ∷ after) (subst (IsLinear e) is_start s)).0 in
      subst (IsRing e') (sym is_start) (ring_by e' agreed' q after round once)

  pub is_appended : IsAppended p q e e'
  is_appended = record {
    appended = appended;
    closed = closed;
    others = others_stay e e' p q (Some q) (Some p) agreed' same;
  }

module _ (e e' : ℕ → Option Ends) (p q : ℕ) (agreed : IsAgreed e) (agreed' : IsAgreed e')
    (next : next_at e p ≡ Some q)
    (same : (k : ℕ) → e' k ≡ unlinked e p q k) where
  no_prev : (f : ℕ) → IsSome (e q) → prev_at e f ≡ None → prev_at e' f ≡ None
  no_prev f live_q start =
      elim (eqb_tells f q) [
        | inl at_q ↦ ap (prev_at e') at_q.1 ∙ one_prev e e' p q None None agreed' same live_q
        | inr differs ↦ one_prev_else e e' p q None None agreed' same f differs.1 ∙ start
      ]

  split : (before after : List ℕ) → IsLinear e (before ++ p ∷ q ∷ after)
      → IsLinear e' (before ++ p ∷ []) × IsLinear e' (q ∷ after)
  split before after s =
      let offs = Apart-split before (q ∷ after) p (linear_apart e None (before ++ p ∷ q ∷ after) s)
      in
      let all = follows e None None (before ++ p ∷ q ∷ after) s in
      let back = Follows-back e None before (p ∷ q ∷ after) all in
      let live_q : IsSome (e q) = back.1.0.0 in
      let out : next_at e' p ≡ None = one_next e e' p q None None agreed' same back.0.0 in
      let front = Follows-append e (Some q) before (p ∷ [])
      (Follows-front e None before (p ∷ q ∷ after) all) (back.0, tt) in (
        linear_by e' agreed' (before ++ p ∷ [])
            (up_to_p e e' p q None None agreed' same (Some q) None before offs.0 out front)
            (λ f is.
            let first = first_or-append before (p ∷ q ∷ after) None
            ∙ sym (first_or-append before (p ∷ []) None) ∙ is in
            no_prev f live_q (starts e (before ++ p ∷ q ∷ after) f s first)),
        linear_by e' agreed' (q ∷ after)
            (off_p e e' p q None None agreed' same None (q ∷ after) offs.1 back.1)
            (λ f is. let at_q : q ≡ f = cc in ap (prev_at e') (sym at_q)
            ∙ one_prev e e' p q None None agreed' same live_q),
      )

  opened : (after : List ℕ) → IsRing e (q ∷ after) → IsLinear e' (q ∷ after)
  opened after r = by (ended (q ∷ after))
    where
      last : last_or (Some q) after ≡ Some p
      last = sym (ap prev_in r.stands.0) ∙ agreed.forward p q next

      by : Ended (q ∷ after) → IsLinear e' (q ∷ after)
      by (none is) = absurd (no_list is)
        where
          no_list : q ∷ after ≡ [] → ⊥
          no_list is = let no : Some q ≡ None = ap (λ l. first_or l None) is in cc
      by (some_last before y is) =
          let both : Some y ≡ Some p = sym (last_or-append None before (y ∷ []))
          ∙ sym (ap (last_or None) is) ∙ last in
          let at_p : y ≡ p = cc in
          let is' : q ∷ after ≡ before ++ p ∷ [] = is ∙ ap (λ z. before ++ z ∷ []) at_p in
          let off : Off before p = (Apart-split before [] p (subst Apart is' r.apart)).0 in
          let all : Follows e (before ++ p ∷ []) (Some q) =
          subst (λ l. Follows e l (Some q)) is'
          (follows e (last_or (Some q) after) (Some q) (q ∷ after) r.stands) in
          let live_p = (Follows-back e (Some q) before (p ∷ []) all).0.0 in
          let out : next_at e' p ≡ None = one_next e e' p q None None agreed' same live_p in
          let cut = up_to_p e e' p q None None agreed' same (Some q) None before off out all in
          let live_q : IsSome (e q) =
          live_on e (last_or (Some q) after) (Some q) (q ∷ after) q r.stands (On-first q after)
          in
          linear_by e' agreed' (q ∷ after) (subst (λ l. Follows e' l None) (sym is') cut)
          (λ f first. let at_q : q ≡ f = cc in ap (prev_at e') (sym at_q)
          ∙ one_prev e e' p q None None agreed' same live_q)

  pub is_split : IsSplit p q e e'
  is_split = record {
    split = split;
    opened = opened;
    others = others_stay e e' p q None None agreed' same;
  }

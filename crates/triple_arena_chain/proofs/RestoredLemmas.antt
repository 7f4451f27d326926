-- What a removal takes back, what a walk gives, and what a pointer finds after a change of
-- interlinks.
use Rattle.std.proofs.Common.{◌≡◌, ◌≢◌, ℕ, Bool, true, false, List, [], ◌∷◌, ◌++◌, reverse, Option}
use Rattle.std.proofs.Common.{Some, None, IsSome, IfSome, option_map, refl, sym, ap, ◌∙◌, eqb, inl}
use Rattle.std.proofs.Common.{inr}
use mathlib.Core.List.{reverse-cons, reverse-reverse}
use Rattle.std.proofs.lemmas.Bool.{eqb-true, eq-eqb, ne_eqb}
use Rattle.std.proofs.lemmas.Bool.Decides.{eqb_tells}
use Rattle.triple_arena.specs.Content.{Content, entry_at}
use Rattle.triple_arena.specs.Entries.{value_if, with_entry, without}
use Rattle.triple_arena_chain.specs.LinkShape.{IndexLink}
use Rattle.triple_arena_chain.specs.declared.gap.Gap.TheVariants.{Between}
use Rattle.triple_arena_chain.specs.declared.kind.InsertKind.TheVariants.{NextTo, PrevTo}
use Rattle.triple_arena_chain.specs.KindLaws.{found}
use Rattle.triple_arena_chain.specs.Kinds.{after_link, before_link}
use Rattle.linked_lists.specs.LinkedLists.{Ends, IsAgreed, next_at, prev_at, next_in, prev_in}
use Rattle.linked_lists.specs.LinkedLists.{with_next_if, with_prev_if, added, put_between}
use Rattle.linked_lists.specs.LinkedLists.{bridged}
use Rattle.linked_lists.specs.LinkedLists.{taken_out, On, Apart}
use Rattle.linked_lists.specs.LinkedListLaws.{Apart-both, Apart-last}
use Rattle.triple_arena_chain.specs.Links.{valued, values_in, link_ends, entry_ends, ends_in}
use Rattle.triple_arena_chain.specs.Links.{ends_found, gap_among, IsChained, IsLinkInserted}
use Rattle.triple_arena_chain.specs.Links.{IsTakenOut}
use Rattle.linked_lists.specs.Chains.{Chain, members, IsChainOf, Linear, Cyclic}
use Rattle.linked_lists.specs.ChainLaws.{On-front, On-back, On-either, On-first, On-split}
use Rattle.linked_lists.specs.ChainLaws.{Apart-turned, Apart-front, Apart-back, Apart-append}
use Rattle.linked_lists.specs.ChainLaws.{off_or_not, on_differs, live_next_in, live_prev_in}
use Rattle.linked_lists.specs.ChainLaws.{shares}
use Rattle.linked_lists.specs.TakenLaws.{taken_is}
use Rattle.linked_lists.specs.UniquenessLaws.{linear_apart}
use Rattle.triple_arena_chain.specs.Walks.{IsWalkFrom, along, around}
use Rattle.linked_lists.specs.AgreedLaws.{valid_next}
use Rattle.linked_lists.specs.ExchangeLaws.{next_where, prev_where}
use Rattle.linked_lists.specs.ReversalLaws.{two_back_at}

module _ {T : Type 0} where
  -- a pointer that found a link finds it with the interlinks of now, if the generations stay
  still_found : (g : ℕ) (v : Ends) (o o' : Option (ℕ × IndexLink T))
      → IsSome (option_map link_ends (value_if g o))
      → option_map valued o' ≡ option_map valued o
      → option_map (λ e. link_ends e.1) o' ≡ Some v
      → option_map link_ends (value_if g o') ≡ Some v
  still_found g v None o' was same is = absurd (let no : false ≡ true = was in cc)
  still_found g v (Some e) None was same is = absurd (let no : None ≡ Some v = is in cc)
  still_found g v (Some e) (Some e') was same is =
      let one : valued e' ≡ valued e = cc in
      let at : e'.0 ≡ e.0 = ap (λ x. x.0) one in
      elim (eqb_tells e.0 g) [
        | inl own ↦ rw (at, own.0) is
        | inr differs ↦ absurd (let no : false ≡ true = rw differs.0 at was in cc)
      ]

  -- it has the next that is there now
  pub still_next : (c d : Content (IndexLink T)) (i g n : ℕ) → IsSome (ends_found c i g)
      → values_in d i ≡ values_in c i
      → next_at (ends_in d) i ≡ Some n → IsSome (next_in (ends_found d i g))
  still_next c d i g n was same next =
      let v = valid_next (ends_in d i) n next in
      let found = still_found g v.0 (entry_at c i) (entry_at d i) was same v.1 in
      let out : next_in (ends_found d i g) ≡ Some n = ap next_in (found ∙ sym v.1) ∙ next in
      rw out refl

-- a pointer with a next finds its link
pub found_by_next : (o : Option Ends) → IsSome (next_in o) → IsSome o
found_by_next None h = h
found_by_next (Some v) h = refl

-- whether an index is this one, if there is one
abbrev is_at : Option ℕ → ℕ → Bool
is_at None k = false
is_at (Some p) k = eqb k p

next_by : (e : ℕ → Option Ends) (o n : Option ℕ) (k : ℕ)
    → with_next_if e o n k ≡ next_where (is_at o k) n (e k)
next_by e None n k = refl
next_by e (Some p) n k = refl

prev_by : (e : ℕ → Option Ends) (o n : Option ℕ) (k : ℕ)
    → with_prev_if e o n k ≡ prev_where (is_at o k) n (e k)
prev_by e None n k = refl
prev_by e (Some p) n k = refl

module _ (e f : ℕ → Option Ends) (n : ℕ) (b a : Option ℕ)
    (new : (k : ℕ) → f k ≡ put_between e n (b, a) k) where
  -- the writes at an index that stood there
  placed_at : (k : ℕ) → k ≢ n
      → f k ≡ prev_where (is_at a k) (Some n) (next_where (is_at b k) (Some n) (e k))
  placed_at k differs =
      let others : added e n (b, a) k ≡ e k = rw (ne_eqb k n differs) refl in
      new k ∙ prev_by (with_next_if (added e n (b, a)) b (Some n)) a (Some n) k
      ∙ ap (prev_where (is_at a k) (Some n))
      (next_by (added e n (b, a)) b (Some n) k ∙ ap (next_where (is_at b k) (Some n)) others)

  not_at : (o : Option ℕ) → ((p : ℕ) → o ≡ Some p → p ≢ n) → is_at o n ≡ false
  not_at None differs = refl
  not_at (Some p) differs = ne_eqb n p (λ same. differs p refl (sym same))

  -- the new one has both neighbors
  placed_own : ((p : ℕ) → b ≡ Some p → p ≢ n) → ((q : ℕ) → a ≡ Some q → q ≢ n) → f n ≡ Some (b, a)
  placed_own b_differs a_differs =
      let own : added e n (b, a) n ≡ Some (b, a) = rw (eq-eqb n n refl) refl in
      new n ∙ prev_by (with_next_if (added e n (b, a)) b (Some n)) a (Some n) n
      ∙ ap (prev_where (is_at a n) (Some n))
      (next_by (added e n (b, a)) b (Some n) n ∙ ap (next_where (is_at b n) (Some n)) own)
      ∙ ap (λ t. prev_where t (Some n) (next_where (is_at b n) (Some n) (Some (b, a))))
      (not_at a a_differs)
      ∙ ap (λ t. next_where t (Some n) (Some (b, a))) (not_at b b_differs)

  -- a removal joins the two again
  pub removed_again : IsAgreed f → e n ≡ None → ((p : ℕ) → b ≡ Some p → p ≢ n)
      → ((q : ℕ) → a ≡ Some q → q ≢ n)
      → ((p : ℕ) → b ≡ Some p → next_at e p ≡ a) → ((q : ℕ) → a ≡ Some q → prev_at e q ≡ b)
      → (k : ℕ) → taken_out f n k ≡ e k
  removed_again agreed vacant b_differs a_differs b_next a_prev k =
      taken_is f agreed n b a (placed_own b_differs a_differs) k
      ∙ elim (eqb_tells k n) [
        | inl same ↦
            let none : e k ≡ None = ap e same.1 ∙ vacant in
            rw (same.0, none) refl
        | inr differs ↦
            let joined : bridged f b a k
            ≡ prev_where (is_at a k) b (next_where (is_at b k) a (f k)) =
            prev_by (with_next_if f b a) a b k ∙ ap (prev_where (is_at a k) b) (next_by f b a k) in
            let whole : bridged f b a k ≡ e k =
            joined ∙ ap (λ o. prev_where (is_at a k) b (next_where (is_at b k) a o))
            (placed_at k differs.1)
            ∙ two_back_at (is_at b k) (is_at a k) a b (Some n) (Some n) (e k) (at_b b b_next)
            (at_a a a_prev) in
            rw differs.0 whole
      ]
    where
      at_b : (o : Option ℕ) → ((p : ℕ) → o ≡ Some p → next_at e p ≡ a) → is_at o k ≡ true
          → next_in (e k) ≡ a
      at_b None h is = absurd (let no : false ≡ true = is in cc)
      at_b (Some p) h is = ap (next_at e) (eqb-true k p is) ∙ h p refl

      at_a : (o : Option ℕ) → ((q : ℕ) → o ≡ Some q → prev_at e q ≡ b) → is_at o k ≡ true
          → prev_in (e k) ≡ b
      at_a None h is = absurd (let no : false ≡ true = is in cc)
      at_a (Some q) h is = ap (prev_at e) (eqb-true k q is) ∙ h q refl

without_again : {T : Type 0} (es fs : ℕ → Option (ℕ × T)) (i : ℕ) (t : ℕ × T) → es i ≡ None
    → ((k : ℕ) → fs k ≡ with_entry es i t k)
    → (k : ℕ) → without fs i k ≡ es k
without_again es fs i t vacant new k =
    elim (eqb_tells k i) [
      | inl same ↦
          let none : es k ≡ None = ap es same.1 ∙ vacant in
          rw (same.0, none) refl
      | inr differs ↦
          let is : fs k ≡ es k = new k ∙ rw differs.0 refl in
          rw differs.0 is
    ]

module _ {T : Type 0} (c d f : Content (IndexLink T)) (i g : ℕ) (t : T)
    (last : Option ℕ) (chained : IsChained c) (formed : IsChained d) where
  -- an insertion between two neighbors, or beyond an end, and the removal of what it put in
  restored_between : (b a : Option ℕ) → ((p : ℕ) → b ≡ Some p → IsSome (ends_in c p))
      → ((q : ℕ) → a ≡ Some q → IsSome (ends_in c q))
      → ((p : ℕ) → b ≡ Some p → next_at (ends_in c) p ≡ a)
      → ((q : ℕ) → a ≡ Some q → prev_at (ends_in c) q ≡ b)
      → IsLinkInserted (Between b a) i g t c d → IsTakenOut last i d f
      → (k : ℕ) → (ends_in f k ≡ ends_in c k) × (values_in f k ≡ values_in c k)
  restored_between b a b_lives a_lives b_next a_prev placed taken k =
      let vacant : ends_in c i ≡ None = ap (option_map entry_ends) placed.vacant in
      let differs : (p : ℕ) → IsSome (ends_in c p) → p ≢ i = λ p lives same.
      let no : false ≡ true = rw (ap (ends_in c) same ∙ vacant) at lives in absurd (cc) in (
        taken.ends k
            ∙ removed_again (ends_in c) (ends_in d) i b a placed.ends formed.agreed
            vacant
            (λ p is. differs p (b_lives p is)) (λ q is. differs q (a_lives q is)) b_next a_prev k,
        taken.values k ∙ without_again (values_in c) (values_in d) i (g, t)
            (ap (option_map valued) placed.vacant) placed.values k,
      )

module _ {P I T : Type 0} (index generation : P → ℕ) (number : I → ℕ)
    (c d f : Content (IndexLink T)) (p : P) (i g : ℕ) (t : T) (last : Option ℕ)
    (chained : IsChained c) (formed : IsChained d) where
  pub restored_after : IsSome (gap_among index generation number c (NextTo p))
      → IfSome (gap_among index generation number c (NextTo p))
      (λ place. IsLinkInserted place i g t c d) → IsTakenOut last i d f
      → (k : ℕ) → (ends_in f k ≡ ends_in c k) × (values_in f k ≡ values_in c k)
  restored_after there placed taken k =
      by (ends_found c (index p) (generation p))
      (λ v is. found c (index p) (generation p) v is) there placed
    where
      by : (o : Option Ends) → ((v : Ends) → o ≡ Some v → ends_in c (index p) ≡ Some v)
          → IsSome (after_link (index p) o)
          → IfSome (after_link (index p) o) (λ place. IsLinkInserted place i g t c d)
          → (ends_in f k ≡ ends_in c k) × (values_in f k ≡ values_in c k)
      by None at there placed = absurd (let no : false ≡ true = there in cc)
      by (Some v) at there placed =
          let own = at v refl in
          let next : next_at (ends_in c) (index p) ≡ v.1 = ap next_in own in
          restored_between c d f i g t last chained formed (Some (index p)) v.1
          (λ x is. let same : index p ≡ x = cc in rw (sym same, own) refl)
          (λ q is. live_prev_in (ends_in c q) (index p)
          (chained.agreed.forward (index p) q (next ∙ is)))
          (λ x is. let same : index p ≡ x = cc in rw (sym same) next)
          (λ q is. chained.agreed.forward (index p) q (next ∙ is))
          placed taken k

  pub restored_before : IsSome (gap_among index generation number c (PrevTo p))
      → IfSome (gap_among index generation number c (PrevTo p))
      (λ place. IsLinkInserted place i g t c d) → IsTakenOut last i d f
      → (k : ℕ) → (ends_in f k ≡ ends_in c k) × (values_in f k ≡ values_in c k)
  restored_before there placed taken k =
      by (ends_found c (index p) (generation p))
      (λ v is. found c (index p) (generation p) v is) there placed
    where
      by : (o : Option Ends) → ((v : Ends) → o ≡ Some v → ends_in c (index p) ≡ Some v)
          → IsSome (before_link (index p) o)
          → IfSome (before_link (index p) o) (λ place. IsLinkInserted place i g t c d)
          → (ends_in f k ≡ ends_in c k) × (values_in f k ≡ values_in c k)
      by None at there placed = absurd (let no : false ≡ true = there in cc)
      by (Some v) at there placed =
          let own = at v refl in
          let prev : prev_at (ends_in c) (index p) ≡ v.0 = ap prev_in own in
          restored_between c d f i g t last chained formed v.0 (Some (index p))
          (λ q is. live_next_in (ends_in c q) (index p)
          (chained.agreed.backward q (index p) (prev ∙ is)))
          (λ x is. let same : index p ≡ x = cc in rw (sym same, own) refl)
          (λ q is. chained.agreed.backward q (index p) (prev ∙ is))
          (λ x is. let same : index p ≡ x = cc in rw (sym same) prev)
          placed taken k

On_reverse : (xs : List ℕ) (k : ℕ) → On (reverse xs) k → On xs k
On_reverse [] k on = on
On_reverse (x ∷ xs) k on =
    elim (On-either (reverse xs) (x ∷ []) k (rw (sym (reverse-cons x xs)) on)) [
      | inl there ↦ On-back (x ∷ []) xs k (On_reverse xs k there)
      | inr here ↦ On-front (x ∷ []) xs k here
    ]

On_reversed : (xs : List ℕ) (k : ℕ) → On xs k → On (reverse xs) k
On_reversed xs k on = On_reverse (reverse xs) k (rw (reverse-reverse xs) on)

Apart_reverse : (xs : List ℕ) → Apart xs → Apart (reverse xs)
Apart_reverse [] apart = tt
Apart_reverse (x ∷ xs) apart =
    rw (reverse-cons x xs)
    (Apart-last (reverse xs) x (Apart_reverse xs apart.1)
    (off_or_not (reverse xs) x (λ on. on_differs xs x x (On_reverse xs x on) apart.0 refl)))

-- a walk gives each link once
pub walked_once : (e : ℕ → Option Ends) (i : ℕ) (walk : List ℕ) → IsWalkFrom e i walk → Apart walk
walked_once e i walk (around after ring is) = rw is ring.apart
walked_once e i walk (along before after linear is) =
    let whole = linear_apart e None (before ++ i ∷ after) linear in
    let turned = Apart-turned before (i ∷ after) whole in
    rw is
    (Apart-append (i ∷ after) (reverse before) (Apart-front (i ∷ after) before turned)
    (Apart_reverse before (Apart-back (i ∷ after) before turned))
    (λ k on. off_or_not (reverse before) k
    (λ back. Apart-both (i ∷ after) before k turned on (On_reverse before k back))))

-- it gives the links of the chain
pub walked_all : (e : ℕ → Option Ends) (i : ℕ) (walk : List ℕ) (c : Chain) → IsWalkFrom e i walk
    → IsChainOf e c → On (members c) i
    → (k : ℕ) → (On walk k → On (members c) k) × (On (members c) k → On walk k)
walked_all e i walk c (around after ring is) chain on k = (
  λ there. shares e c (Cyclic (i ∷ after)) i k chain ring on (On-first i after) (rw is at there),
  λ there. rw is (shares e (Cyclic (i ∷ after)) c i k ring chain (On-first i after) on there),
)
walked_all e i walk c (along before after linear is) chain on k =
    let here = On-split before after i in
    let ahead_or_back : On walk k
    → On (before ++ i ∷ after) k =
    λ there. elim (On-either (i ∷ after) (reverse before) k (rw is at there)) [
      | inl ahead ↦ On-back before (i ∷ after) k ahead
      | inr back ↦ On-front before (i ∷ after) k (On_reverse before k back)
    ] in
    let given : On (before ++ i ∷ after) k
    → On (i ∷ after ++ reverse before) k =
    λ there. elim (On-either before (i ∷ after) k there) [
      | inl back ↦ On-back (i ∷ after) (reverse before) k (On_reversed before k back)
      | inr ahead ↦ On-front (i ∷ after) (reverse before) k ahead
    ] in (
      λ there. shares e c (Linear (before ++ i ∷ after)) i k chain linear on here
          (ahead_or_back there),
      λ there. rw is (given
          (shares e (Linear (before ++ i ∷ after)) c i k linear chain here on there)),
    )

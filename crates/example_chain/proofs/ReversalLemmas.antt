-- What becomes of the lists of a playlist where a song and its next are turned round.
use Rattle.std.proofs.Common.{◌≡◌, ◌≢◌, ℕ, List, [], ◌∷◌, ◌++◌, Option, Some, None, IsSome, OnSome}
use Rattle.std.proofs.Common.{is_some, option_map, refl, sym, ap, subst, ◌∙◌, true, false}
use Rattle.std.proofs.Common.{true≢false, inl, inr}
use Rattle.std.proofs.lemmas.Bool.Decides.{eqb_tells}
use Rattle.triple_arena.specs.Content.{Content, entry_at}
use Rattle.triple_arena.specs.Entries.{generation_at, value_if}
use Rattle.triple_arena_chain.specs.declared.kind.InsertKind.TheVariants.{Bridge}
use Rattle.triple_arena_chain.specs.LinkShape.{IndexLink}
use Rattle.linked_lists.specs.LinkedLists.{Ends, next_in, prev_in, next_at, prev_at, first_or, Off}
use Rattle.linked_lists.specs.LinkedLists.{IsLinear, IsRing, renext, reprev, with_next, with_prev}
use Rattle.linked_lists.specs.LinkedLists.{linked, unlinked, exchanged}
use Rattle.linked_lists.specs.LinkedListLaws.{segment-back}
use Rattle.linked_lists.specs.InsertionListLaws.{linear-reversed, ring-reversed}
use Rattle.linked_lists.specs.InsertionListLaws.{linear-reversed_end}
use Rattle.triple_arena_chain.specs.Kinds.{at_bridge}
use Rattle.linked_lists.specs.ChainLaws.{off_or_not, on_differs, holds_next, holds_prev}
use Rattle.linked_lists.specs.ChainLaws.{live_next_in}
use Rattle.triple_arena_chain.specs.Links.{valued, values_in, link_ends, entry_ends, ends_in}
use Rattle.triple_arena_chain.specs.Links.{ends_found, gap_among, IsChained, IsRelinked}
use Rattle.linked_lists.specs.Chains.{Chain, Cyclic, members, IsChainOf, IsAppended, IsSplit}
use Rattle.linked_lists.specs.Chains.{IsExchanged}

module _ (f : ℕ → Option Ends) where
  next-with_prev : (i : ℕ) (v : Option ℕ) (k : ℕ) → next_at (with_prev f i v) k ≡ next_at f k
  next-with_prev i v k =
      elim (eqb_tells k i) [ inl is ↦ rw is.0 (by (f k)) | inr other ↦ rw other.0 refl ]
    where
      by : (o : Option Ends) → next_in (reprev v o) ≡ next_in o
      by None = refl
      by (Some w) = refl

  next-with_next : (i : ℕ) (v : Option ℕ) → IsSome (f i) → next_at (with_next f i v) i ≡ v
  next-with_next i v live =
      elim (eqb_tells i i) [ inl is ↦ rw is.0 (by (f i) live) | inr other ↦ absurd (other.1 refl) ]
    where
      by : (o : Option Ends) → IsSome o → next_in (renext v o) ≡ v
      by None some = absurd (true≢false (sym some))
      by (Some w) some = refl

  live-with_next : (i : ℕ) (v : Option ℕ) (k : ℕ) → IsSome (f k) → IsSome (with_next f i v k)
  live-with_next i v k live =
      elim (eqb_tells k i) [ inl is ↦ rw is.0 (by (f k) live) | inr other ↦ rw other.0 live ]
    where
      by : (o : Option Ends) → IsSome o → IsSome (renext v o)
      by None some = some
      by (Some w) some = refl

  -- one that is parted from itself has no previous one
  parted_alone : (i : ℕ) → prev_at (unlinked f i i) i ≡ None
  parted_alone i = elim (eqb_tells i i)
      [ inl is ↦ rw is.0 (by (f i)) | inr other ↦ absurd (other.1 refl) ]
    where
      by : (o : Option Ends) → prev_in (reprev None (renext None o)) ≡ None
      by None = refl
      by (Some w) = refl

  parted_live : (i : ℕ) → IsSome (f i) → IsSome (unlinked f i i i)
  parted_live i live = elim (eqb_tells i i)
      [ inl is ↦ rw is.0 (by (f i) live) | inr other ↦ absurd (other.1 refl) ]
    where
      by : (o : Option Ends) → IsSome o → IsSome (reprev None (renext None o))
      by None some = some
      by (Some w) some = refl

  parted_other : (i k : ℕ) → (k ≡ i → ⊥) → unlinked f i i k ≡ f k
  parted_other i k differs =
      elim (eqb_tells k i) [ inl is ↦ absurd (differs is.1) | inr other ↦ rw other.0 refl ]

-- an exchange of the nexts of a link and of the next one leaves this one a ring of one
own_next : (e : ℕ → Option Ends) (o p q : ℕ) → IsSome (e p)
    → next_at (exchanged e o p p q) p ≡ Some p
own_next e o p q live =
    next-with_prev (with_prev (with_next (with_next e o (Some q)) p (Some p)) q (Some o)) p (Some p)
    p
    ∙ next-with_prev (with_next (with_next e o (Some q)) p (Some p)) q (Some o) p
    ∙ next-with_next (with_next e o (Some q)) p (Some p) (live-with_next e o (Some q) p live)

bridges : (p q : ℕ) (o n : Option Ends) → IsSome o → next_in o ≡ None → IsSome n → prev_in n ≡ None
    → IsSome (at_bridge p q o n)
bridges p q None n there end there' start = absurd (true≢false (sym there))
bridges p q (Some v) None there end there' start = absurd (true≢false (sym there'))
bridges p q (Some v) (Some w) there end there' start = rw (end, start) refl

pub on_some : {A B : Type 0} (r : Option A) → IsSome r → OnSome r B → B
on_some None there on = absurd (true≢false (sym there))
on_some (Some a) there on = on

some_next : (o : Option Ends) → IsSome (next_in o) → (s : ℕ) × (next_in o ≡ Some s)
some_next o there = by (next_in o) refl there
  where
    by : (n : Option ℕ) → next_in o ≡ n → IsSome n → (s : ℕ) × (next_in o ≡ Some s)
    by None is some = absurd (true≢false (sym some))
    by (Some s) is some = (s, is)

module _ {T : Type 0} (c : Content (IndexLink T)) (i g : ℕ) where
  -- what is found at a pointer has its generation
  pub generation_of : IsSome (ends_found c i g) → generation_at (values_in c) i ≡ Some g
  generation_of there = by (entry_at c i) there
    where
      by : (o : Option (ℕ × IndexLink T)) → IsSome (option_map link_ends (value_if g o))
          → option_map (λ v. v.0) (option_map valued o) ≡ Some g
      by None some = absurd (true≢false (sym some))
      by (Some e) some = elim (eqb_tells e.0 g) [
        | inl is ↦ ap Some is.1
        | inr other ↦
            absurd (let no : false ≡ true = rw other.0 at some in cc)
      ]

  -- and what has this generation is found
  pub finds : generation_at (values_in c) i ≡ Some g → ends_found c i g ≡ ends_in c i
  finds is = by (entry_at c i) is
    where
      by : (o : Option (ℕ × IndexLink T)) → option_map (λ v. v.0) (option_map valued o) ≡ Some g
          → option_map link_ends (value_if g o) ≡ option_map entry_ends o
      by None none = refl
      by (Some e) some =
          let at : e.0 ≡ g = cc in
          elim (eqb_tells e.0 g) [ inl same ↦ rw same.0 refl | inr other ↦ absurd (other.1 at) ]

  -- and is live
  pub live_with : generation_at (values_in c) i ≡ Some g → IsSome (ends_in c i)
  live_with is = by (entry_at c i) is
    where
      by : (o : Option (ℕ × IndexLink T)) → option_map (λ v. v.0) (option_map valued o) ≡ Some g
          → IsSome (option_map entry_ends o)
      by None none = absurd (let no : None ≡ Some g = none in cc)
      by (Some e) some = refl

  next_found : (n : ℕ) → next_in (ends_found c i g) ≡ Some n
      → next_at (ends_in c) i ≡ Some n
  next_found n is = ap next_in
      (sym (finds (generation_of (live_next_in (ends_found c i g) n is)))) ∙ is

module _ {T : Type 0} (c : Content (IndexLink T)) (o p : ℕ) where
  -- what it makes of the lists
  pub record Reversed (d : Content (IndexLink T)) : Type 0 where
    pub linear : (front rest : List ℕ) (q : ℕ)
        → IsLinear (ends_in c) (front ++ (o ∷ p ∷ q ∷ rest))
        → IsLinear (ends_in d) (front ++ (o ∷ q ∷ p ∷ rest))
    pub ring : (rest : List ℕ) (q : ℕ) → IsRing (ends_in c) (o ∷ p ∷ q ∷ rest)
        → IsRing (ends_in d) (o ∷ q ∷ p ∷ rest)
    pub ring_of_two : IsRing (ends_in c) (o ∷ p ∷ [])
        → IsRing (ends_in d) (o ∷ p ∷ [])
    pub alone : IsRing (ends_in c) (p ∷ []) → IsRing (ends_in d) (p ∷ [])
    pub others : (l : Chain) → IsChainOf (ends_in c) l → Off (members l) p
        → IsChainOf (ends_in d) l
    pub values : (k : ℕ) → values_in d k ≡ values_in c k

-- an exchange took `p` out from between `o` and `q`
pub record IsTakenOut {T : Type 0} (c m : Content (IndexLink T)) (o p q go g h : ℕ) : Type 0 where
  pub chained : IsChained c
  pub to_p : next_in (ends_found c o go) ≡ Some p
  pub to_q : next_in (ends_found c p g) ≡ Some q
  pub at_q : generation_at (values_in c) q ≡ Some h
  pub relinked : (s t : ℕ) → next_at (ends_in c) o ≡ Some s → next_at (ends_in c) p ≡ Some t
      → IsRelinked (exchanged (ends_in c) o p s t) c m
  pub first : IsExchanged o p (ends_in c) (ends_in m)

module _ {T : Type 0} {c m : Content (IndexLink T)} {o p q go g h : ℕ}
    (taken : IsTakenOut c m o p q go g h) where
  next_o : next_at (ends_in c) o ≡ Some p
  next_o = next_found c o go p taken.to_p

  next_p : next_at (ends_in c) p ≡ Some q
  next_p = next_found c p g q taken.to_q

  once : IsRelinked (exchanged (ends_in c) o p p q) c m
  once = taken.relinked p q next_o next_p

  own : next_at (ends_in m) p ≡ Some p
  own = ap next_in (once.ends p)
      ∙ own_next (ends_in c) o p q (live_next_in (ends_in c p) q next_p)

  at_p : generation_at (values_in m) p ≡ Some g
  at_p = ap (option_map (λ v. v.0)) (once.values p)
      ∙ generation_of c p g (live_next_in (ends_found c p g) q taken.to_q)

  -- after the first exchange the first of the two is its own next
  pub still_next : next_in (ends_found m p g) ≡ Some p
  still_next = ap next_in (finds m p g at_p) ∙ own

  found_q : ends_found m q h ≡ ends_in m q
  found_q = finds m q h (ap (option_map (λ v. v.0)) (once.values q) ∙ taken.at_q)

  off_o : (l : Chain) → IsChainOf (ends_in c) l → Off (members l) p → Off (members l) o
  off_o l chain off = off_or_not (members l) o
      (λ on. on_differs (members l) p p (holds_next (ends_in c) l o p chain on next_o) off
      refl)

  off_q : (l : Chain) → IsChainOf (ends_in c) l → Off (members l) p → Off (members l) q
  off_q l chain off =
      off_or_not (members l) q
      (λ on. on_differs (members l) p p
      (holds_prev (ends_in c) l q p chain on (taken.chained.agreed.forward p q next_p)) off
      refl)

  linear_of : (n : ℕ → Option Ends)
      → ((front rest : List ℕ) → IsLinear (ends_in c) (front ++ (o ∷ p ∷ q ∷ rest))
      → IsLinear n (front ++ (o ∷ q ∷ p ∷ rest)))
      → (front rest : List ℕ) (x : ℕ) → IsLinear (ends_in c) (front ++ (o ∷ p ∷ x ∷ rest))
      → IsLinear n (front ++ (o ∷ x ∷ p ∷ rest))
  linear_of n turns front rest x s =
      let both : Some q ≡ Some x = sym next_p
      ∙ ap next_in (segment-back (ends_in c) None None front (o ∷ p ∷ x ∷ rest) s).1.0 in
      let same : q ≡ x = cc in
      subst (λ y. IsLinear (ends_in c) (front ++ (o ∷ p ∷ y ∷ rest))
      → IsLinear n (front ++ (o ∷ y ∷ p ∷ rest))) same (turns front rest) s

  ring_of : (n : ℕ → Option Ends)
      → ((rest : List ℕ) → IsRing (ends_in c) (o ∷ p ∷ q ∷ rest)
      → IsRing n (o ∷ q ∷ p ∷ rest))
      → (rest : List ℕ) (x : ℕ) → IsRing (ends_in c) (o ∷ p ∷ x ∷ rest)
      → IsRing n (o ∷ x ∷ p ∷ rest)
  ring_of n turns rest x r =
      let both : Some q ≡ Some x = sym next_p ∙ ap next_in r.stands.1.0 in
      let same : q ≡ x = cc in
      subst (λ y. IsRing (ends_in c) (o ∷ p ∷ y ∷ rest) → IsRing n (o ∷ y ∷ p ∷ rest)) same
      (turns rest) r

  -- in a ring of two the second of the pair is the one before it
  second_of_two : IsRing (ends_in c) (o ∷ p ∷ []) → q ≡ o
  second_of_two r = let both : Some q ≡ Some o = sym next_p ∙ ap next_in r.stands.1.0 in cc

  -- and the two are rings of one each after the first exchange
  parted_two : (r : IsRing (ends_in c) (o ∷ p ∷ [])) → o ≢ p
      → IsRing (ends_in m) (o ∷ []) × IsRing (ends_in m) (p ∷ [])
  parted_two r o_not_p = (taken.first.first o_not_p).parted [] [] r

  -- a ring of one is its own second one, and the one before it
  second_alone : IsRing (ends_in c) (p ∷ []) → q ≡ p
  second_alone r = let both : Some q ≡ Some p = sym next_p ∙ ap next_in r.stands.0 in cc

  before_alone : IsRing (ends_in c) (p ∷ []) → o ≡ p
  before_alone r = let both : Some o ≡ Some p = sym (taken.chained.agreed.forward o p next_o)
      ∙ ap prev_in r.stands.0 in cc

  -- where the second one has a next it is put in again by another exchange
  pub exchanged_back : {A : Type 0} (r : Option A) (d : Content (IndexLink T)) → IsSome r
      → IsSome (next_in (ends_found m q h))
      → OnSome r ((s t : ℕ) → next_at (ends_in m) q ≡ Some s → next_at (ends_in m) p ≡ Some t
      → IsRelinked (exchanged (ends_in m) q p s t) m d)
      → OnSome r (IsExchanged q p (ends_in m) (ends_in d)) → Reversed c o p d
  exchanged_back r d came there again on_second =
      let s = some_next (ends_found m q h) there in
      let twice = on_some r came again s.0 p (ap next_in (sym found_q) ∙ s.1) own in
      let second = on_some r came on_second in
      let old = ends_in c in
      let between = ends_in m in
      let new = ends_in d in
      record {
        linear = linear_of new (linear-reversed old between new o p q taken.first second);
        ring = ring_of new (ring-reversed old between new o p q taken.first second);
        ring_of_two = λ r.
            let o_not_p : o ≢ p = λ same. r.apart.0.0 (sym same) in
            let parts = parted_two r o_not_p in
            let again_o = subst (λ x. IsExchanged x p between new) (second_of_two r) second in
            (again_o.first o_not_p).merged [] [] parts.0 parts.1 (o_not_p, tt);
        alone = λ r. second.itself (second_alone r) (Cyclic (p ∷ []))
            (taken.first.itself (before_alone r) (Cyclic (p ∷ [])) r);
        others = λ l chain off. second.others l (taken.first.others l chain (off_o l chain off) off)
            (off_q l chain off) off;
        values = λ k. twice.values k ∙ once.values k;
      }

  -- where no exchange came about the second one is the end
  pub is_end : {A : Type 0} (r : Option A)
      → (IsSome (next_in (ends_found m q h)) × IsSome (next_in (ends_found m p g))
      → IsSome r) → r ≡ None
      → next_in (ends_found m q h) ≡ None
  is_end r variant none = by (next_in (ends_found m q h)) refl
    where
      by : (x : Option ℕ) → next_in (ends_found m q h) ≡ x → x ≡ None
      by None is = refl
      by (Some s) is = absurd
          (true≢false (sym (variant (ap is_some is, ap is_some still_next)) ∙ ap is_some none))

  module _ (b : Content (IndexLink T)) (end : next_in (ends_found m q h) ≡ None)
      (breaks : (s : ℕ) → next_at (ends_in m) p ≡ Some s
      → IsRelinked (unlinked (ends_in m) p s) m b) where
    ends : next_at (ends_in m) q ≡ None
    ends = ap next_in (sym found_q) ∙ end

    differs : q ≡ p → ⊥
    differs same = let no : None ≡ Some p = sym ends ∙ ap (next_at (ends_in m)) same
        ∙ own in absurd (cc)

    open_q : ends_in b q ≡ ends_in m q
    open_q = (breaks p own).ends q ∙ parted_other (ends_in m) p q differs

    -- else it is the end, behind which the first one fits
    pub fits : {P I : Type 0} (number : I → ℕ) (index generation : P → ℕ) (first second : P)
        → index first ≡ p → generation first ≡ g → index second ≡ q → generation second ≡ h
        → IsSome (gap_among index generation number b (Bridge second first))
    fits number index generation first second first_is gen_is second_is gen_is' =
        rw (first_is, gen_is, second_is, gen_is')
        (let before : generation_at (values_in b) q ≡ Some h =
        ap (option_map (λ v. v.0)) ((breaks p own).values q ∙ once.values q) ∙ taken.at_q in
        let after : generation_at (values_in b) p ≡ Some g =
        ap (option_map (λ v. v.0)) ((breaks p own).values p) ∙ at_p in
        let q_is = finds b q h before in
        let p_is = finds b p g after in
        let out = ap next_in (q_is ∙ open_q) ∙ ends in
        let into = ap prev_in (p_is ∙ (breaks p own).ends p) ∙ parted_alone (ends_in m) p in
        bridges q p (ends_found b q h) (ends_found b p g) (live_q q_is before) out
        (live_p p_is) into)
      where
        live_q : ends_found b q h ≡ ends_in b q
            → generation_at (values_in b) q ≡ Some h → IsSome (ends_found b q h)
        live_q is at = subst IsSome (sym is) (live_with b q h at)

        live_p : ends_found b p g ≡ ends_in b p → IsSome (ends_found b p g)
        live_p is =
            subst IsSome (sym (is ∙ (breaks p own).ends p))
            (parted_live (ends_in m) p (live_next_in (ends_in m p) p own))

    -- and is appended
    pub appended_back : (d : Content (IndexLink T))
        → ((s : ℕ) → next_at (ends_in m) p ≡ Some s
        → IsSplit p s (ends_in m) (ends_in b))
        → IsRelinked (linked (ends_in b) q p) b d
        → IsAppended q p (ends_in b) (ends_in d) → Reversed c o p d
    appended_back d splits joined appended =
        let old = ends_in c in
        let between = ends_in m in
        let broken = ends_in b in
        let new = ends_in d in
        let parted = splits p own in
        record {
          linear = linear_of new
              (λ front rest. linear-reversed_end old between broken new o p q taken.first parted
              appended front rest ends);
          ring = ring_of new (λ rest r. absurd (no_ring rest r));
          ring_of_two = λ r.
              let parts = parted_two r (λ same. r.apart.0.0 (sym same)) in
              let no : None ≡ Some o = sym ends ∙ ap (next_at between) (second_of_two r)
              ∙ ap next_in parts.0.stands.0 in
              absurd (cc);
          alone = λ r. absurd (differs (second_alone r));
          others = λ l chain off.
              appended.others l (parted.others l (taken.first.others l chain (off_o l chain off)
              off) off off) (off_q l chain off) off;
          values = λ k. joined.values k ∙ (breaks p own).values k ∙ once.values k;
        }
      where
        -- a ring has no end
        no_ring : (rest : List ℕ) → IsRing (ends_in c) (o ∷ p ∷ q ∷ rest) → ⊥
        no_ring rest r =
            let parts = (taken.first.first (λ same. r.apart.0.0 (sym same))).parted [] (q ∷ rest) r
            in
            by rest (sym (ap next_in parts.0.stands.1.0) ∙ ends)
          where
            by : (xs : List ℕ) → first_or xs (Some o) ≡ None → ⊥
            by [] is = let no : Some o ≡ None = is in absurd (cc)
            by (x ∷ xs) is = let no : Some x ≡ None = is in absurd (cc)

-- The entries along a list of indexes of an arena.
use Rattle.std.specs.List.{AllByRecursion}
use Rattle.std.proofs.Common.{◌≡◌, ◌≢◌, ◌∙◌, sym, ap, subst, refl, ℕ, zero, suc}
use Rattle.std.proofs.Common.{◌+◌, List, [], ◌∷◌, ◌++◌, Option, Some, None, IsSome}
use Rattle.std.proofs.Common.{IfNone, IfSome, option_map}
use Rattle.std.proofs.Common.{arith}
use Rattle.std.specs.List.Sorted.{IsSorted}
use Rattle.std.specs.Cmp.{ranked, nat_cmp_is}
use Rattle.std.specs.Int.NonZero.{non_zero_u32_get}
use Rattle.std.specs.Ordering.{nat_cmp, is_lt}
use Rattle.std.specs.declared.cmp.Ordering.{Ordering}
use Rattle.std.specs.declared.cmp.Ordering.TheVariants.{Less, Greater}
use Rattle.linked_lists.specs.LinkedLists.{On, Off, Apart}
use Rattle.linked_lists.specs.ChainLaws.{Apart-split}
use Rattle.triple_arena_chain.specs.Links.{ends_in}
use Rattle.linked_lists.specs.UniquenessLaws.{linear_apart}
use Rattle.triple_arena_ord.specs.Ascending.{entries_along}
use Rattle.triple_arena_ord.specs.Ordered.{IsOrdered, IsAscending, asked_of, entry_in, order_in}
use Rattle.ord_map_c.specs.Entries.{Entry, Pair, KeysRise, key_of, pair, pointer_of, with_key}
use Rattle.ord_map_c.specs.State.{Arena, IsMap, listed, pair_of}
use Rattle.ord_map_c.specs.declared.handle.Handle.{Handle}
use Rattle.ord_map_c.proofs.ListLemmas.{Below, Above, with_at}

pub some_same : {X : Type 0} (x y : X) → Some x ≡ Some y → x ≡ y
some_same x y e = cc

pub pair_is : (t : Pair) (key value : ℕ) → t.k ≡ key → t.v ≡ value → t ≡ pair key value
pair_is t key value first second = ap (λ k. pair k t.v) first ∙ ap (pair key) second

abbrev pub key_in : Pair → ℕ
key_in t = t.k

-- ---- a function from an index to its entry

module _ (at : ℕ → Option (ℕ × Pair)) where
  abbrev pub along : List ℕ → List Entry
  along w = entries_along at w

  pub along_some : (i : ℕ) (w : List ℕ) (e : ℕ × Pair) → at i ≡ Some e
      → along (i ∷ w) ≡ (i, e) ∷ along w
  along_some i w e is = rw is refl

  pub along_none : (i : ℕ) (w : List ℕ) → at i ≡ None → along (i ∷ w) ≡ along w
  along_none i w is = rw is refl

  pub along-append : (v w : List ℕ) → along (v ++ w) ≡ along v ++ along w
  along-append [] w = refl
  along-append (i ∷ v) w = by (at i) refl (along-append v w)
    where
      by : (o : Option (ℕ × Pair)) → at i ≡ o → along (v ++ w) ≡ along v ++ along w
          → along (i ∷ (v ++ w)) ≡ along (i ∷ v) ++ along w
      by None is rest = along_none i (v ++ w) is ∙ rest
          ∙ ap (λ l. l ++ along w) (sym (along_none i v is))
      by (Some e) is rest = along_some i (v ++ w) e is ∙ ap (λ l. (i, e) ∷ l) rest
          ∙ ap (λ l. l ++ along w) (sym (along_some i v e is))

  -- where an entry of the list stands
  pub along_split : (front back : List ℕ) (i : ℕ) (e : ℕ × Pair) → at i ≡ Some e
      → along (front ++ i ∷ back) ≡ along front ++ (i, e) ∷ along back
  along_split front back i e is = along-append front (i ∷ back)
      ∙ ap (λ l. along front ++ l) (along_some i back e is)

  -- each of the list is in the arena
  pub along_stands : (w : List ℕ) (low high : List Entry) (e : Entry)
      → along w ≡ low ++ e ∷ high → at e.0 ≡ Some e.1
  along_stands [] low high e is = none low is
    where
      none : (l : List Entry) → [] ≡ l ++ e ∷ high → at e.0 ≡ Some e.1
      none [] never = absurd (cc)
      none (x ∷ l) never = absurd (cc)
  along_stands (i ∷ w) low high e is =
      by (at i) refl low is (λ l same. along_stands w l high e same)
    where
      by : (o : Option (ℕ × Pair)) → at i ≡ o → (l : List Entry) → along (i ∷ w) ≡ l ++ e ∷ high
          → ((k : List Entry) → along w ≡ k ++ e ∷ high → at e.0 ≡ Some e.1)
          → at e.0 ≡ Some e.1
      by None none l same rest = rest l (sym (along_none i w none) ∙ same)
      by (Some x) some [] same rest =
          let both : (i, x) ∷ along w ≡ e ∷ high = sym (along_some i w x some) ∙ same in
          let first : e ≡ (i, x) = cc in
          subst (λ (z : Entry). at z.0 ≡ Some z.1) (sym first) some
      by (Some x) some (y ∷ l) same rest =
          let both : (i, x) ∷ along w ≡ y ∷ (l ++ e ∷ high) =
          sym (along_some i w x some) ∙ same in
          let tail : along w ≡ l ++ e ∷ high = cc in
          rest l tail

  -- how a key compares along the list
  module _ (key : ℕ) where
    abbrev pub asked : ℕ → Ordering
    asked i = asked_of nat_cmp key_in key (at i)

    pub below_along : (w : List ℕ) → AllByRecursion (λ i. asked i ≡ Greater) w → Below key (along w)
    below_along [] all = tt
    below_along (i ∷ w) all = by (at i) refl all.0 (below_along w all.1)
      where
        by : (o : Option (ℕ × Pair)) → at i ≡ o → asked i ≡ Greater → Below key (along w)
            → Below key (along (i ∷ w))
        by None is here rest = subst (Below key) (sym (along_none i w is)) rest
        by (Some e) is here rest =
            let way : nat_cmp key e.1.k ≡ Greater = rw is at here in
            subst (Below key) (sym (along_some i w e is))
            (ranked key e.1.k Greater (sym way), rest)

    pub above_along : (w : List ℕ) → AllByRecursion (λ i. asked i ≡ Less) w → Above key (along w)
    above_along [] all = tt
    above_along (i ∷ w) all = by (at i) refl all.0 (above_along w all.1)
      where
        by : (o : Option (ℕ × Pair)) → at i ≡ o → asked i ≡ Less → Above key (along w)
            → Above key (along (i ∷ w))
        by None is here rest = subst (Above key) (sym (along_none i w is)) rest
        by (Some e) is here rest =
            let way : nat_cmp key e.1.k ≡ Less = rw is at here in
            subst (Above key) (sym (along_some i w e is))
            (ranked key e.1.k Less (sym way), rest)

-- what changes at one index changes nothing along others
pub along_same : (at at' : ℕ → Option (ℕ × Pair)) (i : ℕ) → ((k : ℕ) → k ≢ i → at' k ≡ at k)
    → (w : List ℕ) → Off w i → along at' w ≡ along at w
along_same at at' i same [] off = refl
along_same at at' i same (j ∷ w) off = by (at j) refl (along_same at at' i same w off.1)
  where
    by : (o : Option (ℕ × Pair)) → at j ≡ o → along at' w ≡ along at w
        → along at' (j ∷ w) ≡ along at (j ∷ w)
    by None is rest = along_none at' j w (same j off.0 ∙ is) ∙ rest ∙ sym (along_none at j w is)
    by (Some e) is rest = along_some at' j w e (same j off.0 ∙ is) ∙ ap (λ l. (j, e) ∷ l) rest
        ∙ sym (along_some at j w e is)

-- keys that rise ascend
pub ascending : (l : List Entry) → KeysRise l
    → IsSorted (λ (x y : Entry). nat_cmp (key_of x) (key_of y)) l
ascending [] rise k d low high = absurd (omega (arith, high))
ascending (x ∷ []) rise k d low high = absurd (omega (arith, high))
ascending (x ∷ y ∷ l) rise zero d low high =
    ap is_lt (sym (nat_cmp_is (key_of y) (key_of x) Greater rise.0.0))
ascending (x ∷ y ∷ l) rise (suc k) d low high =
    let next : suc k + 1 ≡ suc (k + 1) = omega arith in
    rw next (ascending (y ∷ l) rise.1 k d (omega arith) (omega (arith, high)))

-- ---- an arena

-- each live index stands in the list
abbrev pub AllStand : Type 0
AllStand = (o : Arena) (i : ℕ) → IsOrdered o → IsSome (entry_in o i)
    → On (order_in o) i

-- an index of the list does not stand before or behind itself
pub apart_of : (o : Arena) → IsOrdered o → (front back : List ℕ) (i : ℕ)
    → order_in o ≡ front ++ i ∷ back → Off front i × Off back i
apart_of o ordered front back i is =
    Apart-split front back i (subst Apart is
    (linear_apart (ends_in o.chains) None (order_in o)
    ordered.linear))

-- an entry stands in the list
pub record Standing (o : Arena) (e : Entry) : Type 0 where
  pub low : List Entry
  pub high : List Entry
  pub is : listed o ≡ low ++ e ∷ high

pub standing : (o : Arena) → IsOrdered o → AllStand → (i : ℕ) (e : ℕ × Pair)
    → entry_in o i ≡ Some e → Standing o (i, e)
standing o ordered law i e is =
    let on = law o i ordered (rw is refl) in
    record {
      low = along (entry_in o) on.front;
      high = along (entry_in o) on.back;
      is = ap (along (entry_in o)) on.is ∙ along_split (entry_in o) on.front on.back i e is;
    }

pub ascends : (o : Arena) → KeysRise (listed o)
    → IsAscending nat_cmp key_in o
ascends o rise = ascending (listed o) rise

-- an entry that stands in the arena has its key in the list
pub has_its_key : (o : Arena) → IsMap o → AllStand → (i : ℕ) (e : ℕ × Pair)
    → entry_in o i ≡ Some e → with_key (listed o) e.1.k ≡ Some (i, e)
has_its_key o map law i e is =
    let there = standing o map.ordered law i e is in
    ap (λ l. with_key l e.1.k) there.is
    ∙ with_at there.low there.high (i, e) (subst KeysRise there.is map.rise)

-- what has no pointer is none
pub none_if : {A B C : Type 0} (f : A → C) (g : B → C) (result : Option A) (e : Option B)
    → option_map f result ≡ option_map g e → IfNone result (e ≡ None)
none_if f g (Some a) e is = tt
none_if f g None None is = refl
none_if f g None (Some b) is = absurd (cc)

-- what holds under the pointer of an entry holds under the handle that was given for it
pub if_pointer : (result : Option Handle) (e : Option Entry) (Q : ℕ → ℕ → Type 0)
    → option_map pair_of result ≡ option_map pointer_of e
    → ((i g : ℕ) → Some (i, g) ≡ option_map pointer_of e → Q i g)
    → IfSome result (λ h. Q h.index h.generation)
if_pointer None e Q is so = tt
if_pointer (Some h) e Q is so = so h.index h.generation is

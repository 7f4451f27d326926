-- A search along the list of an ordered arena.
use Rattle.std.proofs.Common.{◌≡◌, ◌≢◌, ℕ, ◌+◌, ◌≤◌, List, [], ◌∷◌, filter_map, Option, Some, None}
use Rattle.std.proofs.Common.{IsSome, IfSome, if◌then◌else◌, is_some, true, false, inl, inr, refl}
use Rattle.std.proofs.Common.{sym, ap}
use Rattle.std.proofs.Common.{◌∙◌, subst, arith}
use Rattle.std.specs.Option.{option_map}
use Rattle.std.proofs.lemmas.Bool.Decides.{eqb_tells}
use Rattle.std.specs.declared.cmp.Ordering.{Ordering}
use Rattle.std.specs.declared.cmp.Ordering.TheVariants.{Equal}
use Rattle.triple_arena.specs.Entries.{value_if}
use Rattle.triple_arena_ord.specs.NodeShape.{IndexNode}
use Rattle.std.specs.List.Sorted.{IsSorted}
use Rattle.rank_tree.specs.Comparisons.{most_comparisons}
use Rattle.linked_lists.specs.LinkedLists.{IsLinear, On, first_or}
use Rattle.triple_arena_chain.specs.Links.{ends_in, values_in}
use Rattle.triple_arena_ord.specs.Node.{itemed}
use Rattle.rank_tree.specs.Tree.{rank_of}
use Rattle.rank_tree.specs.Search.{IsParted, IsAnswer}
use Rattle.triple_arena_ord.specs.Near.{IsEndNear, IsAtHand, IsStop, IsWalked, IsPlaceCounted}
use Rattle.triple_arena_ord.specs.Near.{IsKeyCounted, EndsWithin, path_from, asked_in, beyond}
use Rattle.triple_arena_ord.specs.Near.{IsPartedAtHand}
use Rattle.triple_arena_ord.specs.Ordered.{Ordered, IsOrdered, IsAscending, tree_in, order_in}
use Rattle.triple_arena_ord.specs.Ordered.{entry_in, size_in, asked_at}
use Rattle.triple_arena_ord.specs.Found.{place_by}
use Rattle.triple_arena_ord.proofs.LiveLemmas.{counted_entry, entry_counted}
use Rattle.triple_arena_ord.proofs.SeekLemmas.{few, unequal}
use Rattle.triple_arena_ord.proofs.NearLemmas.{all-at, place_ended, place_passed, key_ended}
use Rattle.triple_arena_ord.proofs.NearLemmas.{key_passed, key_other}
use Rattle.triple_arena_ord.proofs.WayLemmas.{counted-walk, walk-counted}
use Rattle.triple_arena_ord.proofs.FoundLemmas.{stop_answers}

module _ {T : Type 0} where
  -- an entry stands on the chain
  pub on_chain : (o : Ordered T) → IsOrdered o → (i : ℕ) → IsSome (entry_in o i)
      → (w : List ℕ) × IsLinear (ends_in o.chains) w × On w i
  on_chain o is i lives = (
    order_in o,
    is.linear,
    counted-walk (tree_in o) i (entry_counted o is i lives),
  )

  -- what stands in the list is live
  pub on_lives : (o : Ordered T) → IsOrdered o → (i : ℕ) → On (order_in o) i
      → IsSome (entry_in o i)
  on_lives o is i on = counted_entry o is i (walk-counted (tree_in o) i on)

  -- what was looked up is there
  pub looked_up : {G B : Type 0} (stamp : G → ℕ) (now : B → IndexNode T) (o : Ordered T) (i : ℕ)
      (r : Option (G × B))
      → option_map (λ e. (stamp e.0, now e.1)) r ≡ values_in o.chains i → is_some r ≡ true
      → IsSome (entry_in o i)
  looked_up stamp now o i None at some = absurd (cc)
  looked_up stamp now o i (Some x) at some = subst (λ e. IsSome (option_map itemed e)) at refl

  -- what was looked for and is not there is not in the list
  pub not_listed : {G B : Type 0} (stamp : G → ℕ) (now : B → IndexNode T) (o inside : Ordered T)
      → inside ≡ o → IsOrdered o → (i : ℕ) (r : Option (G × B))
      → option_map (λ e. (stamp e.0, now e.1)) r ≡ values_in inside.chains i → is_some r ≡ false
      → On (order_in o) i → ⊥
  not_listed stamp now o inside same is i None at none on =
      let gone : entry_in inside i ≡ None = ap (option_map itemed) (sym at) in
      let z : IsSome {T = ℕ × T} None =
      subst IsSome (ap (λ p. entry_in p i) (sym same) ∙ gone) (on_lives o is i on) in cc
  not_listed stamp now o inside same is i (Some x) at none on = absurd (cc)

  pub pointed_lives : (o : Ordered T) (g i j : ℕ) → IsSome (value_if g (values_in o.chains i))
      → j ≡ i → IsSome (entry_in o j)
  pointed_lives o g i j h e =
      subst (λ z. IsSome (entry_in o z)) (sym e) (by (values_in o.chains i) h)
    where
      by : (v : Option (ℕ × IndexNode T)) → IsSome (value_if g v) → IsSome (option_map itemed v)
      by None h = absurd (cc)
      by (Some x) h = refl

  -- an index that is live is not free, and a pointer that finds an entry finds its item
  pub not_free : (o inside : Ordered T) → inside ≡ o → (i : ℕ) → IsSome (entry_in inside i)
      → entry_in o i ≡ None → ⊥
  not_free o inside same i live none =
      let z : IsSome {T = ℕ × T} None = subst IsSome (ap (λ p. entry_in p i) same ∙ none) live in cc

  pub not_missed : (o inside : Ordered T) → inside ≡ o → (g i : ℕ)
      → IsSome (value_if g (values_in inside.chains i))
      → value_if g (entry_in o i) ≡ None → ⊥
  not_missed o inside same g i found none =
      by (values_in inside.chains i) found (ap (λ p. value_if g (entry_in p i)) same ∙ none)
    where
      by : (v : Option (ℕ × IndexNode T)) → IsSome (value_if g v)
          → value_if g (option_map itemed v) ≡ None → ⊥
      by None h n = cc
      by (Some a) h n =
          elim (eqb_tells a.0 g) [
            | inl is ↦ let z : Some a.1.t ≡ None =
                subst (λ b. (if b then Some a.1.t else None) ≡ None) is.0 n in cc
            | inr other ↦ let z : IsSome {T = IndexNode T} None =
                subst (λ b. IsSome (if b then Some a.1 else None)) other.0 h in cc
          ]

  pub few_more : (o : Ordered T) (old new num : ℕ) → IsOrdered o
      → new ≤ old + (num + rank_of (tree_in o))
      → new ≤ old + (num + most_comparisons (size_in o))
  few_more o old new num is ticks = let h =
      few o (old + num) new is (omega (arith, ticks)) in omega (arith, h)

  module _ {K : Type 0} (cmp : K → K → Ordering) (key : T → K) where
    pub empty_ascends : (o : Ordered T) → first_or (order_in o) None ≡ None
        → IsAscending cmp key o
    empty_ascends o e = by (order_in o) e
      where
        by : (w : List ℕ) → first_or w None ≡ None
            → IsSorted (λ (x y : ℕ × (ℕ × T)). cmp (key x.1.1) (key y.1.1))
            (filter_map (λ i. option_map (λ e. (i, e)) (entry_in o i)) w)
        by [] h = λ k d low high. absurd (omega arith)
        by (x ∷ w) h = absurd (cc)

module _ {I T : Type 0} (number : I → ℕ) where
  -- where a search ends there is an entry
  pub places_live : {f : ℕ → Ordering} (o inside : Ordered T) → inside ≡ o → IsOrdered o
      → (r : Option (I × Ordering))
      → IsAnswer f (tree_in o) (place_by number r)
      → IfSome r (λ a. IsSome (entry_in inside (number a.0)))
  places_live o inside same is None answer = tt
  places_live o inside same is (Some x) answer =
      subst (λ z. IsSome (entry_in z (number x.0))) (sym same)
      (counted_entry o is (number x.0) (answer.lives (number x.0) x.1 refl))

  module _ {K : Type 0} (cmp : K → K → Ordering) (key : T → K) where
    module _ (k : K) (o inside : Ordered T) (same : inside ≡ o) (is : IsOrdered inside)
        (start : ℕ) (lives : IsSome (entry_in inside start)) (r : Option (I × Ordering)) where
      abbrev Stops : Type 0
      Stops = (w : List ℕ) → IsLinear (ends_in inside.chains) w → On w start
          → IfSome r (λ a. IsStop (asked_in cmp key k inside.chains) w (number a.0) a.1)

      abbrev Reaches : ℕ → Type 0
      Reaches num = (w : List ℕ) → IsLinear (ends_in inside.chains) w → On w start
          → IsPartedAtHand num (asked_in cmp key k inside.chains) w start → r ≢ None

      abbrev Walks : (num old new : ℕ) → Type 0
      Walks num old new = (w : List ℕ) → IsLinear (ends_in inside.chains) w
          → (on : On w start)
          → IsWalked num (path_from (asked_in cmp key k inside.chains) on)
          (option_map (λ a. number a.0) r) old new

      on : On (order_in inside) start
      on = counted-walk (tree_in inside) start (entry_counted inside is start lives)

      pub linear_answer : Stops → (i : ℕ) (d : Ordering)
          → place_by number r ≡ Some (i, d)
          → IsAnswer (asked_at cmp key k o) (tree_in o) (Some (i, d))
      linear_answer stops i d e =
          subst (λ z. IsAnswer (asked_at cmp key k z) (tree_in z) (Some (i, d))) same
          (stop_answers (asked_at cmp key k inside) (tree_in inside) i d
          (taken r e (stops (order_in inside) is.linear on)))
        where
          taken : (s : Option (I × Ordering))
              → place_by number s ≡ Some (i, d)
              → IfSome s (λ a. IsStop (asked_at cmp key k inside) (order_in inside)
              (number a.0) a.1)
              → IsStop (asked_at cmp key k inside) (order_in inside) i d
          taken None u h = absurd (cc)
          taken (Some y) u h =
              let a : ℕ × Ordering = (number y.0, y.1) in
              let b : ℕ × Ordering = (i, d) in
              let z : a ≡ b = cc in
              subst (λ (p : ℕ × Ordering). IsStop (asked_at cmp key k inside)
              (order_in inside) p.0 p.1) z h

      pub stops_live : Stops → IfSome r (λ a. IsSome (entry_in inside (number a.0)))
      stops_live stops = by r (stops (order_in inside) is.linear on)
        where
          by : (s : Option (I × Ordering))
              → IfSome s (λ a. IsStop (asked_at cmp key k inside) (order_in inside)
              (number a.0) a.1) → IfSome s (λ a. IsSome (entry_in inside (number a.0)))
          by None h = tt
          by (Some x) h = counted_entry inside is (number x.0)
              (walk-counted (tree_in inside) (number x.0) h.on)

      pub linear_near : (num : ℕ) → Reaches num → r ≡ None
          → IsParted (asked_at cmp key k o) (order_in o)
          → IsAtHand num (asked_at cmp key k o) (order_in o) start → ⊥
      linear_near num near none parted hand =
          near (order_in inside) is.linear on
          (subst (λ z. IsPartedAtHand num (asked_at cmp key k z) (order_in z) start) (sym same)
          (parted, hand)) none

      -- where no equal key was found, none is near
      pub linear_missed : (num : ℕ) → Stops → Reaches num
          → ((i : ℕ) → place_by number r ≢ Some (i, Equal))
          → IsParted (asked_at cmp key k o) (order_in o)
          → IsEndNear num (asked_at cmp key k o) (order_in o) start → ⊥
      linear_missed num stops near missed parted end = by r refl
        where
          by : (s : Option (I × Ordering)) → r ≡ s → ⊥
          by None e = linear_near num near e parted (inl end)
          by (Some x) e =
              let at : place_by number r ≡ Some (number x.0, x.1) = ap (place_by number) e in
              let answer = linear_answer stops (number x.0) x.1 at in
              let not = unequal (asked_at cmp key k o) (tree_in o) (Some (number x.0, x.1))
              answer (λ i d u v. missed i (at ∙ u ∙ ap (λ d. Some (i, d)) v)) parted in
              all-at (λ y. asked_at cmp key k o y ≢ Equal) (order_in o) not end.near.to
              end.at end.near.ends end.equal

      -- how often the walk compared, by what the list is
      walked : (num old new : ℕ) → Walks num old new → (on : On (order_in o) start)
          → IsWalked num (path_from (asked_at cmp key k o) on) (option_map (λ a. number a.0) r) old
          new
      walked num old new walks =
          subst (λ (z : Ordered T). (on : On (order_in z) start)
          → IsWalked num (path_from (asked_at cmp key k z) on) (option_map (λ a. number a.0) r)
          old new)
          same (λ on. walks (order_in inside) is.linear on)

      -- where the way ends within `num`, the walk ends there
      pub linear_ends : (num old new : ℕ) → Stops → Walks num old new → (i : ℕ) (d : Ordering)
          → EndsWithin num (asked_at cmp key k o) (order_in o) start i d
          → place_by number r ≡ Some (i, d)
      linear_ends num old new stops walks i d ends = by r refl (walked num old new walks ends.on)
        where
          by : (s : Option (I × Ordering)) → r ≡ s
              → IsWalked num (path_from (asked_at cmp key k o) ends.on)
              (option_map (λ a. number a.0) r) old new
              → place_by number r ≡ Some (i, d)
          by None e told =
              let path = path_from (asked_at cmp key k o) ends.on in
              let gone = subst (λ t. IsWalked num path (option_map (λ a. number a.0) t) old new) e
              told in
              let few = ends.within in
              let more = gone.0 in
              absurd (omega (arith, few, more))
          by (Some x) e told =
              let path = path_from (asked_at cmp key k o) ends.on in
              let gone = subst (λ t. IsWalked num path (option_map (λ a. number a.0) t) old new) e
              told in
              let at : place_by number r ≡ Some (number x.0, x.1) = ap (place_by number) e in
              let way : asked_at cmp key k o (number x.0) ≡ x.1 =
              (linear_answer stops (number x.0) x.1 at).asked (number x.0) x.1 refl in
              let last = gone.0 in
              let ended = ends.last in
              let same : number x.0 ≡ i = cc in
              let to : x.1 ≡ d = sym way ∙ ap (asked_at cmp key k o) same ∙ ends.answer in
              at ∙ ap (λ j. Some (j, x.1)) same ∙ ap (λ e. Some (i, e)) to

      pub linear_place_ended : (num down old new : ℕ) → Walks num old new → (x : I × Ordering)
          → r ≡ Some x → (on : On (order_in o) start)
          → IsPlaceCounted num down (path_from (asked_at cmp key k o) on) old new
      linear_place_ended num down old new walks x r_is on =
          let path = path_from (asked_at cmp key k o) on in
          place_ended num down old new new path (number x.0)
          (subst (λ s. IsWalked num path (option_map (λ a. number a.0) s) old new) r_is
          (walked num old new walks on)) refl

      pub linear_place_passed : (num down old mid new : ℕ) → Walks num old mid → r ≡ None
          → new ≡ mid + down → (on : On (order_in o) start)
          → IsPlaceCounted num down (path_from (asked_at cmp key k o) on) old new
      linear_place_passed num down old mid new walks r_is ticks on =
          let path = path_from (asked_at cmp key k o) on in
          place_passed num down old mid new path
          (subst (λ s. IsWalked num path (option_map (λ a. number a.0) s) old mid) r_is
          (walked num old mid walks on)) ticks

      pub linear_key_ended : (num down old new : ℕ) → Stops → Walks num old new → (i : ℕ)
          → place_by number r ≡ Some (i, Equal)
          → (s : ℕ) → start ≡ s → (on : On (order_in o) s)
          → IsKeyCounted num down (asked_at cmp key k o) (path_from (asked_at cmp key k o) on)
          old new
      linear_key_ended num down old new stops walks i e s start_is =
          subst (λ s. (on : On (order_in o) s)
          → IsKeyCounted num down (asked_at cmp key k o) (path_from (asked_at cmp key k o) on)
          old new) start_is
          (λ on.
          let path = path_from (asked_at cmp key k o) on in
          key_ended num down old new new (asked_at cmp key k o) path i
          (subst (λ t. IsWalked num path t old new) (index_of r e) (walked num old new walks on))
          ((linear_answer stops i Equal e).asked i Equal refl) refl)
        where
          index_of : (t : Option (I × Ordering))
              → place_by number t ≡ Some (i, Equal)
              → option_map (λ a. number a.0) t ≡ Some i
          index_of None u = absurd (cc)
          index_of (Some y) u = ap (option_map {U = ℕ} (λ (p : ℕ × Ordering). p.0)) u

      pub linear_key_passed : (num down old mid new : ℕ) → Stops → Walks num old mid
          → ((i : ℕ) → place_by number r ≢ Some (i, Equal))
          → new ≡ mid + down → (s : ℕ) → start ≡ s → (on : On (order_in o) s)
          → IsKeyCounted num down (asked_at cmp key k o) (path_from (asked_at cmp key k o) on) old
          new
      linear_key_passed num down old mid new stops walks missed ticks s start_is =
          subst (λ s. (on : On (order_in o) s)
          → IsKeyCounted num down (asked_at cmp key k o) (path_from (asked_at cmp key k o) on)
          old new) start_is
          (λ on. by on r refl (walked num old mid walks on))
        where
          by : (on : On (order_in o) start) (t : Option (I × Ordering)) → r ≡ t
              → IsWalked num (path_from (asked_at cmp key k o) on) (option_map (λ a. number a.0) r)
              old mid
              → IsKeyCounted num down (asked_at cmp key k o) (path_from (asked_at cmp key k o) on)
              old new
          by on None e told =
              let path = path_from (asked_at cmp key k o) on in
              key_passed num down old mid new (asked_at cmp key k o) (asked_at cmp key k o start)
              (start ∷ beyond (asked_at cmp key k o start) on.front on.back)
              (subst (λ t. IsWalked num path (option_map (λ a. number a.0) t) old mid) e told) ticks
          by on (Some x) e told =
              let path = path_from (asked_at cmp key k o) on in
              let at : place_by number r ≡ Some (number x.0, x.1) = ap (place_by number) e in
              let way : asked_at cmp key k o (number x.0) ≡ x.1 =
              (linear_answer stops (number x.0) x.1 at).asked (number x.0) x.1 refl in
              key_other num down old mid new (asked_at cmp key k o) (asked_at cmp key k o start)
              (start ∷ beyond (asked_at cmp key k o start) on.front on.back) (number x.0)
              (subst (λ t. IsWalked num path (option_map (λ a. number a.0) t) old mid) e told)
              (λ equal. missed (number x.0) (at ∙ ap (λ d. Some (number x.0, d)) (sym way ∙ equal)))
              ticks

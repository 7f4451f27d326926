-- A search that finds no key equal, and the entry behind the gap where it ends.
use Rattle.std.proofs.Common.{◌≡◌, ◌≢◌, ℕ, Bool, true, false, List, [], ◌∷◌, ◌++◌, append_assoc}
use Rattle.std.proofs.Common.{Option, Some, None, IsSome, refl, sym, ap, ◌∙◌, subst}
use Rattle.std.specs.Option.{option_map, IfSome}
use Rattle.std.specs.Cmp.{IsTotalOrder}
use Rattle.std.specs.List.{AllByRecursion}
use Rattle.std.specs.declared.cmp.Ordering.{Ordering}
use Rattle.std.specs.declared.cmp.Ordering.TheVariants.{Less, Equal, Greater}
use Rattle.triple_arena.specs.Entries.{generation_at}
use Rattle.linked_lists.specs.LinkedLists.{IsLinear, On, first_or, next_in, next_at}
use Rattle.linked_lists.specs.ChainLaws.{On-back, On-first}
use Rattle.triple_arena_chain.specs.Links.{ends_in}
use Rattle.rank_tree.specs.Tree.{Tree, leaf, node, walk}
use Rattle.rank_tree.specs.Shape.{root_of}
use Rattle.rank_tree.specs.Search.{MayPrecede, IsParted, IsAnswer}
use Rattle.rank_tree.specs.DescentLaws.{all-append, all-map, parted-after, parted-before}
use Rattle.triple_arena_ord.specs.Bounds.{IsBound, compares_past, first_entry, way_past}
use Rattle.triple_arena_ord.specs.Ordered.{Ordered, IsOrdered, IsAscending, asked_at, entries_at}
use Rattle.triple_arena_ord.specs.Ordered.{entry_in, order_in, tree_in}
use Rattle.triple_arena_ord.proofs.GapLemmas.{linear_ends}
use Rattle.triple_arena_ord.proofs.LawLemmas.{stands}
use Rattle.triple_arena_ord.proofs.LinearLemmas.{on_lives}
use Rattle.triple_arena_ord.proofs.LiveLemmas.{counted_entry, item-some}
use Rattle.triple_arena_ord.specs.Node.{nodes_in}
use Rattle.triple_arena_chain.specs.Links.{values_in}
use Rattle.triple_arena_ord.proofs.OrderedDrainLemmas.{listed-append}
use Rattle.triple_arena_ord.proofs.SeekLemmas.{counted-all, parts_at}

before_past : (past : Bool) (a b : Ordering) → MayPrecede a b
    → MayPrecede (way_past past a) (way_past past b)
before_past past Less Less p = record { less = λ u. refl; greater = λ u. absurd (cc) }
before_past past Less Equal p = absurd (let no = p.less refl in cc)
before_past past Less Greater p = absurd (let no = p.less refl in cc)
before_past past Equal Less p = record { less = λ u. refl; greater = λ u. absurd (cc) }
before_past past Equal Equal p = record { less = λ u. u; greater = λ u. u }
before_past past Equal Greater p = absurd (let no = p.greater refl in cc)
before_past past Greater Less p = record { less = λ u. refl; greater = λ u. refl }
before_past past Greater Equal p = record { less = λ u. absurd (cc); greater = λ u. refl }
before_past past Greater Greater p = record { less = λ u. u; greater = λ u. refl }

never_equal : (past : Bool) (a : Ordering) → way_past past a ≢ Equal
never_equal past Less u = cc
never_equal true Equal u = cc
never_equal false Equal u = cc
never_equal past Greater u = cc

both_in : (L B C : ℕ → Type 0) → ((y : ℕ) → L y → B y → C y) → (w : List ℕ) → AllByRecursion L w
    → AllByRecursion B w → AllByRecursion C w
both_in L B C f [] l b = tt
both_in L B C f (y ∷ w) l b = (f y l.0 b.0, both_in L B C f w l.1 b.1)

parted_map : (f g : ℕ → Ordering) (L : ℕ → Type 0)
    → ((x y : ℕ) → L x → L y → MayPrecede (f x) (f y) → MayPrecede (g x) (g y))
    → (w : List ℕ) → AllByRecursion L w → IsParted f w → IsParted g w
parted_map f g L turn [] l p = tt
parted_map f g L turn (x ∷ w) l p = (
  both_in L (λ y. MayPrecede (f x) (f y)) (λ y. MayPrecede (g x) (g y))
      (λ y ly b. turn x y l.0 ly b) w l.1 p.0,
  parted_map f g L turn w l.1 p.1,
)

no_walk : (t : Tree) → root_of t ≡ None → walk t ≡ []
no_walk leaf e = refl
no_walk (node l i k r) e = absurd (cc)

pub node_lives : {T : Type 0} (o : Ordered T) (i : ℕ)
    → IsSome (entry_in o i) → IsSome (nodes_in o.chains i)
node_lives o i some = item-some (values_in o.chains i) some

module _ {T : Type 0} (o : Ordered T) (is : IsOrdered o) where
  -- the next index of one that lives does too
  pub next_lives : (i : ℕ) → IsSome (entry_in o i) → (j : ℕ)
      → next_at (ends_in o.chains) i ≡ Some j → IsSome (entry_in o j)
  next_lives i some j next =
      let on = stands o is i some in
      let ends = linear_ends (ends_in o.chains) on.front i on.back
      (subst (IsLinear (ends_in o.chains)) on.is is.linear) in
      let first : first_or on.back None ≡ Some j = sym (ap next_in ends) ∙ next in
      on_lives o is j (subst (λ w. On w j) (sym on.is)
      (On-back on.front (i ∷ on.back) j (behind on.back first)))
    where
      behind : (back : List ℕ) → first_or back None ≡ Some j → On (i ∷ back) j
      behind [] first = absurd (cc)
      behind (x ∷ back) first =
          let same : x ≡ j = cc in
          subst (On (i ∷ x ∷ back)) same (On-back (i ∷ []) (x ∷ back) x (On-first x back))

module _ {K T : Type 0} (cmp : K → K → Ordering) (key : T → K) (k : K)
    (past : Bool) (o : Ordered T) (is : IsOrdered o) where
  abbrev way : ℕ → Ordering
  way = asked_at (compares_past past cmp) key k o

  abbrev ComesBefore : T → Type 0
  ComesBefore t = compares_past past cmp k (key t) ≡ Greater

  live_way : (x : ℕ) → IsSome (entry_in o x) → way x ≡ way_past past (asked_at cmp key k o x)
  live_way x some = by (entry_in o x) refl some
    where
      by : (e : Option (ℕ × T)) → entry_in o x ≡ e → IsSome e
          → way x ≡ way_past past (asked_at cmp key k o x)
      by None at some = absurd (cc)
      by (Some e) at some = rw at refl

  parted : IsTotalOrder cmp → IsAscending cmp key o → IsParted way (order_in o)
  parted total ascending =
      parted_map (asked_at cmp key k o) way (λ i. IsSome (entry_in o i))
      (λ x y lx ly b. subst (λ d. MayPrecede d (way y)) (sym (live_way x lx))
      (subst (λ d. MayPrecede (way_past past (asked_at cmp key k o x)) d) (sym (live_way y ly))
      (before_past past _ _ b)))
      (order_in o)
      (counted-all (λ i. IsSome (entry_in o i)) (tree_in o)
      (λ j h. counted_entry o is j h))
      (parts_at cmp key k total o is ascending)

  to_low : (w : List ℕ) → AllByRecursion (λ y. way y ≡ Greater) w
      → AllByRecursion (λ e. ComesBefore e.1.1) (entries_at o w)
  to_low [] all = tt
  to_low (x ∷ w) all = by (entry_in o x) refl (to_low w all.1)
    where
      by : (e : Option (ℕ × T)) → entry_in o x ≡ e
          → AllByRecursion (λ e. ComesBefore e.1.1) (entries_at o w)
          → AllByRecursion (λ e. ComesBefore e.1.1) (entries_at o (x ∷ w))
      by None at rest = rw at rest
      by (Some e) at rest =
          let here : ComesBefore e.1 = sym (rw at refl) ∙ all.0 in
          rw at (here, rest)

  to_high : (w : List ℕ) → AllByRecursion (λ y. way y ≡ Less) w
      → AllByRecursion (λ e. ComesBefore e.1.1 → ⊥) (entries_at o w)
  to_high [] all = tt
  to_high (x ∷ w) all = by (entry_in o x) refl (to_high w all.1)
    where
      by : (e : Option (ℕ × T)) → entry_in o x ≡ e
          → AllByRecursion (λ e. ComesBefore e.1.1 → ⊥) (entries_at o w)
          → AllByRecursion (λ e. ComesBefore e.1.1 → ⊥) (entries_at o (x ∷ w))
      by None at rest = rw at rest
      by (Some e) at rest =
          let here : compares_past past cmp k (key e.1) ≡ Less = sym (rw at refl) ∙ all.0 in
          rw at (λ u. (let no : Less ≡ Greater = sym here ∙ u in cc), rest)

  module _ {P : Type 0} (index generation : P → ℕ) where
    abbrev Bound : Option P → Type 0
    Bound result = IsBound index generation ComesBefore result o

    abbrev pointed : Option P → Option (ℕ × ℕ)
    pointed result = option_map {U = ℕ × ℕ} (λ p. (index p, generation p)) result

    first_at : (x : ℕ) (rest : List ℕ) (p : P) → index p ≡ x
        → generation_at (entry_in o) (index p) ≡ Some (generation p)
        → pointed (Some p) ≡ first_entry (entries_at o (x ∷ rest))
    first_at x rest p same live = by (entry_in o x) refl
      where
        by : (e : Option (ℕ × T)) → entry_in o x ≡ e
            → pointed (Some p) ≡ first_entry (entries_at o (x ∷ rest))
        by None at =
            let no : ◌≡◌ {A = Option ℕ} None (Some (generation p)) =
            sym (ap (option_map (λ (e : ℕ × T). e.0)) at)
            ∙ ap (generation_at (entry_in o)) (sym same) ∙ live in
            absurd (cc)
        by (Some e) at =
            let both : Some e.0 ≡ Some (generation p) =
            sym (ap (option_map (λ (e : ℕ × T). e.0)) at)
            ∙ ap (generation_at (entry_in o)) (sym same) ∙ live in
            let own : e.0 ≡ generation p = cc in
            ap (λ n. (let z : Option (ℕ × ℕ) = Some (n, generation p) in z)) same
            ∙ ap (λ n. (let z : Option (ℕ × ℕ) = Some (x, n) in z)) (sym own)
            ∙ sym (rw at refl)

    bound_cut : (result : Option P) (low high : List ℕ) → order_in o ≡ low ++ high
        → AllByRecursion (λ y. way y ≡ Greater) low → AllByRecursion (λ y. way y ≡ Less) high
        → pointed result ≡ first_entry (entries_at o high) → Bound result
    bound_cut result low high cut below above first = record {
      low = entries_at o low;
      high = entries_at o high;
      is = ap (entries_at o) cut ∙ listed-append o low high;
      all_before = to_low low below;
      none_before = to_high high above;
      first = first;
    }

    -- a search that ended at none
    pub bound_none : IsAnswer way (tree_in o) None → Bound None
    bound_none answer =
        bound_cut None [] [] (no_walk (tree_in o) (answer.empty refl)) tt tt refl

    -- one that ended before an entry
    pub bound_here : IsTotalOrder cmp → IsAscending cmp key o → (i : ℕ)
        → IsAnswer way (tree_in o) (Some (i, Less)) → (p : P) → index p ≡ i
        → generation_at (entry_in o) (index p) ≡ Some (generation p) → Bound (Some p)
    bound_here total ascending i answer p same live =
        let parts = parted total ascending in
        let places = answer.parted i Less refl parts in
        let here : way i ≡ Less = answer.asked i Less refl in
        bound_cut (Some p) places.before (i ∷ places.after) places.is (places.less refl) (
          here,
          all-map (λ y. MayPrecede (way i) (way y)) (λ y. way y ≡ Less) (λ y b. b.less here)
              places.after (parted-after way places.before i places.after
              (subst (IsParted way) places.is parts)),
        )
        (first_at i places.after p same live)

    -- one that ended behind an entry
    pub bound_behind : IsTotalOrder cmp → IsAscending cmp key o → (i : ℕ)
        → IsAnswer way (tree_in o) (Some (i, Greater)) → (result : Option P)
        → option_map index result ≡ next_at (ends_in o.chains) i
        → IfSome result (λ p. generation_at (entry_in o) (index p) ≡ Some (generation p))
        → Bound result
    bound_behind total ascending i answer result next live =
        let parts = parted total ascending in
        let places = answer.parted i Greater refl parts in
        let here : way i ≡ Greater = answer.asked i Greater refl in
        let ends = linear_ends (ends_in o.chains) places.before i places.after
        (subst (IsLinear (ends_in o.chains)) places.is is.linear) in
        bound_cut result (places.before ++ i ∷ []) places.after
        (places.is ∙ sym (append_assoc places.before (i ∷ []) places.after))
        (all-append (λ y. way y ≡ Greater) places.before (i ∷ [])
        (all-map (λ y. MayPrecede (way y) (way i)) (λ y. way y ≡ Greater) (λ y b. b.greater here)
        places.before (parted-before way places.before i places.after
        (subst (IsParted way) places.is parts)))
        (here, tt))
        (places.greater refl)
        (first places.after result (next ∙ ap next_in ends) live)
      where
        first : (after : List ℕ) (result : Option P)
            → option_map index result ≡ first_or after None
            → IfSome result (λ p. generation_at (entry_in o) (index p) ≡ Some (generation p))
            → pointed result ≡ first_entry (entries_at o after)
        first [] None e l = refl
        first [] (Some p) e l = absurd (cc)
        first (x ∷ after) None e l = absurd (cc)
        first (x ∷ after) (Some p) e l =
            let same : index p ≡ x = cc in first_at x after p same l

    -- it never ends at an entry that it found
    pub bound_never : (i : ℕ) → IsSome (entry_in o i)
        → IsAnswer way (tree_in o) (Some (i, Equal)) → ⊥
    bound_never i some answer =
        never_equal past (asked_at cmp key k o i)
        (sym (live_way i some) ∙ answer.asked i Equal refl)

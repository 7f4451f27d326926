-- A search by key over the nodes of an arena.
use Rattle.std.specs.List.{AllByRecursion}
use Rattle.std.proofs.Common.{◌≡◌, ◌≢◌, ℕ, ◌+◌, ◌*◌, ◌^◌, ◌<◌, ◌≤◌, ◌∷◌, Option, Some, None, IsSome}
use Rattle.std.proofs.Common.{Bool, true≢false}
use Rattle.std.proofs.Common.{IfSome, true, refl, sym, ap, ◌∙◌, subst, arith, inl, inr}
use Rattle.std.specs.Option.{option_map, is_none}
use Rattle.std.proofs.lemmas.Bool.{cases_eq, cases_lt}
use Rattle.std.specs.Cmp.{IsTotalOrder}
use Rattle.std.specs.Ordering.{is_lt}
use Rattle.std.specs.declared.cmp.Ordering.{Ordering}
use Rattle.std.specs.declared.cmp.Ordering.TheVariants.{Less, Equal, Greater}
use Rattle.triple_arena_chain.specs.Links.{values_in}
use Rattle.rank_tree.specs.NodeView.{NodeView}
use Rattle.triple_arena_ord.specs.NodeShape.{IndexNode}
use Rattle.triple_arena_ord.specs.Node.{nodes_in, view_of, itemed}
use Rattle.rank_tree.specs.Comparisons.{most_comparisons}
use Rattle.rank_tree.specs.ComparisonLaws.{most_comparisons-greatest}
use Rattle.rank_tree.specs.Tree.{Tree, leaf, node, walk, rank_of, size}
use Rattle.rank_tree.specs.Shape.{count}
use Rattle.rank_tree.specs.Store.{Store}
use Rattle.rank_tree.specs.Search.{MayPrecede, IsParted, IsAnswer, IsFreeAt, asked_down}
use Rattle.triple_arena_ord.specs.Ordered.{Ordered, IsOrdered, IsAscending, tree_in, order_in}
use Rattle.triple_arena_ord.specs.Ordered.{entry_in, size_in, asked_of, asked_at}
use Rattle.triple_arena_ord.specs.Found.{place_by}
use Rattle.rank_tree.specs.BoundLaws.{size_bound}
use Rattle.rank_tree.specs.ClimbLaws.{size-walk}
use Rattle.rank_tree.specs.DescentLaws.{Descent, Here, descent_begins, descent_ends, descent_asked}
use Rattle.rank_tree.specs.DescentLaws.{descent_free, step_down, all-front, all-back}
use Rattle.rank_tree.specs.DescentLaws.{all-append, all-map, parted-after, parted-before}
use Rattle.rank_tree.specs.FrameLaws.{one-other, one-same}
use Rattle.triple_arena_ord.proofs.NameLemmas.{if_answered}
use Rattle.triple_arena_ord.proofs.LiveLemmas.{counted_entry, entry_counted}
use Rattle.triple_arena_ord.proofs.SortedLemmas.{parted_from}

pub less_of : (o : Ordering) (is : Bool) → is ≡ is_lt o → is ≡ true → o ≡ Less
less_of Less is e h = refl
less_of Equal is e h = absurd (true≢false (sym h ∙ e))
less_of Greater is e h = absurd (true≢false (sym h ∙ e))

-- an answer by another name
pub named_so : (n : Store) (f : ℕ → Ordering) (t : Tree) (link : Option ℕ) (i : ℕ) (d e : Ordering)
    (asked : ℕ)
    → d ≡ e → Descent n f t link (Some (i, e)) asked → Descent n f t link (Some (i, d)) asked
named_so n f t link i d e asked same =
    subst (λ o. Descent n f t link (Some (i, o)) asked) (sym same)

pub some_of : {A B : Type 0} (f : A → B) (v : Option A) → IsSome (option_map f v) → IsSome v
some_of f None h = absurd (cc)
some_of f (Some a) h = refl

-- what holds of each index of the walk holds of each that is counted
pub all-counted : (P : ℕ → Type 0) (t : Tree) → AllByRecursion P (walk t) → (j : ℕ) → 0 < count j t
    → P j
all-counted P leaf all j h = absurd (omega arith)
all-counted P (node l i k r) all j h =
    let rest = all-back P (walk l) (i ∷ walk r) all in
    elim (cases_lt 0 (count j l)) [
      | inl in_left ↦ all-counted P l (all-front P (walk l) (i ∷ walk r) all) j in_left
      | inr out_left ↦ elim (cases_eq j i) [
        | inl e ↦ subst P (sym e) rest.0
        | inr d ↦ let z = one-other j i d in all-counted P r rest.1 j (omega arith)
      ]
    ]

-- each index of the walk is counted
pub counted-all : (P : ℕ → Type 0) (t : Tree) → ((j : ℕ) → 0 < count j t → P j)
    → AllByRecursion P (walk t)
counted-all P leaf h = tt
counted-all P (node l i k r) h =
    let here = let z = one-same i in h i (omega arith) in
    all-append P (walk l) (i ∷ walk r) (counted-all P l (λ j z. h j (omega arith)))
    (here, counted-all P r (λ j z. h j (omega arith)))

-- no entry of the walk is equal where the search ended at none
pub unequal : (f : ℕ → Ordering) (t : Tree) (a : Option (ℕ × Ordering)) → IsAnswer f t a
    → ((i : ℕ) (d : Ordering) → a ≡ Some (i, d) → d ≢ Equal)
    → IsParted f (walk t) → AllByRecursion (λ y. f y ≢ Equal) (walk t)
unequal f leaf a is not parted = tt
unequal f (node l x r_k r) None is not parted = let z = is.empty refl in absurd (cc)
unequal f (node l x r_k r) (Some p) is not parted = by p.1 refl
  where
    t : Tree
    t = node l x r_k r

    by : (d : Ordering) → p.1 ≡ d → AllByRecursion (λ y. f y ≢ Equal) (walk t)
    by Less e =
        let at : ◌≡◌ {A = Option (ℕ × Ordering)} (Some p) (Some (p.0, Less)) =
        ap (λ d. Some (p.0, d)) e in
        let places = is.parted p.0 Less at parted in
        let here : f p.0 ≡ Less = is.asked p.0 Less at in
        let up = parted-after f places.before p.0 places.after (subst (IsParted f) places.is parted)
        in
        subst (AllByRecursion (λ y. f y ≢ Equal)) (sym places.is)
        (all-append (λ y. f y ≢ Equal) places.before (p.0 ∷ places.after)
        (all-map (λ y. f y ≡ Greater) (λ y. f y ≢ Equal) (λ y z u. absurd (cc)) places.before
        (places.less refl)) (
          (λ u. absurd (cc)),
          all-map (λ y. MayPrecede (f p.0) (f y)) (λ y. f y ≢ Equal)
              (λ y z u. let w = z.less here in absurd (cc)) places.after up,
        ))
    by Equal e = absurd (not p.0 Equal (ap (λ d. Some (p.0, d)) e) refl)
    by Greater e =
        let at : ◌≡◌ {A = Option (ℕ × Ordering)} (Some p) (Some (p.0, Greater)) =
        ap (λ d. Some (p.0, d)) e in
        let places = is.parted p.0 Greater at parted in
        let here : f p.0 ≡ Greater = is.asked p.0 Greater at in
        let down = parted-before f places.before p.0 places.after
        (subst (IsParted f) places.is parted) in
        subst (AllByRecursion (λ y. f y ≢ Equal)) (sym places.is)
        (all-append (λ y. f y ≢ Equal) places.before (p.0 ∷ places.after)
        (all-map (λ y. MayPrecede (f y) (f p.0)) (λ y. f y ≢ Equal)
        (λ y z u. let w = z.greater here in absurd (cc)) places.before down) (
          (λ u. absurd (cc)),
          all-map (λ y. f y ≡ Less) (λ y. f y ≢ Equal) (λ y z u. absurd (cc))
              places.after (places.greater refl),
        ))

pub no_child : {A : Type 0} (o : Option A) → true ≡ is_none o → o ≡ None
no_child None e = refl
no_child (Some a) e = absurd (cc)

-- a search ends at a node without children, whichever way its answer leads
pub leaf_ends : (n : Store) (f : ℕ → Ordering) (whole : Tree) (i : ℕ) (v : NodeView) (asked : ℕ)
    → Here n f whole i v asked → v.left ≡ None → v.right ≡ None
    → (d : Ordering) → f i ≡ d → IsAnswer f whole (Some (i, d)) × (asked + 1 ≡ asked_down f whole)
leaf_ends n f whole i v asked h left right Less e = (
  descent_ends n f whole v.left _ (asked + 1) left (h.left e),
  descent_asked n f whole v.left _ (asked + 1) left (h.left e),
)
leaf_ends n f whole i v asked h left right Equal e = (h.stop e, h.all_asked e)
leaf_ends n f whole i v asked h left right Greater e = (
  descent_ends n f whole v.right _ (asked + 1) right (h.right e),
  descent_asked n f whole v.right _ (asked + 1) right (h.right e),
)

-- the ticks of a search are few
pub few : {T : Type 0} (o : Ordered T) (old new : ℕ) → IsOrdered o
    → new ≤ old + rank_of (tree_in o) → new ≤ old + most_comparisons (size_in o)
few o old new is ticks = by (tree_in o) refl
  where
    by : (t : Tree) → tree_in o ≡ t → new ≤ old + most_comparisons (size_in o)
    by leaf e = let z : rank_of (tree_in o) ≡ 0 = ap rank_of e in omega arith
    by (node l i k r) e =
        let t = tree_in o in
        let n : size t ≡ size_in o = size-walk t ∙ is.counted in
        let some : size t ≡ size l + size r + 1 = ap size e in
        let b : 2 ^ (rank_of t + 1) ≤ (size t + 1) * (size t + 1) =
        size_bound t is.whole.ranked (omega (arith, some)) in
        let s : 2 ^ (rank_of t + 1) ≤ (size_in o + 1) * (size_in o + 1) =
        subst (λ z. 2 ^ (rank_of t + 1) ≤ (z + 1) * (z + 1)) n b in
        let m = most_comparisons-greatest (size_in o) (rank_of t) s in
        omega (arith, m, ticks)

module _ {K T : Type 0} (cmp : K → K → Ordering) (key : T → K) (k : K) where
  abbrev node_view : ℕ × IndexNode T → NodeView
  node_view entry = view_of entry.1

  pub seek_begins : (o inside : Ordered T) → inside ≡ o → IsOrdered inside
      → Descent (nodes_in o.chains) (asked_at cmp key k o) (tree_in o) inside.root
      None 0
  seek_begins o inside same is =
      let it : IsOrdered o = subst IsOrdered same is in
      descent_begins (nodes_in o.chains) (asked_at cmp key k o) inside.root
      (tree_in o) (
        ap (λ (z : Ordered T). z.root) same ∙ it.whole.stands.0,
        it.whole.stands.1,
      ) it.whole.ranked

  node_node : (e : Option (ℕ × IndexNode T)) (u : IndexNode T)
      → option_map (λ e. e.1) e ≡ Some u → option_map node_view e ≡ Some (view_of u)
  node_node None u h = absurd (cc)
  node_node (Some e) u h = let z : e.1 ≡ u = cc in ap (λ n. Some (view_of n)) z

  node_asked : (e : Option (ℕ × IndexNode T)) (u : IndexNode T)
      → option_map (λ e. e.1) e ≡ Some u
      → asked_of cmp key k (option_map itemed e) ≡ cmp k (key u.t)
  node_asked None u h = absurd (cc)
  node_asked (Some e) u h = let z : e.1 ≡ u = cc in ap (λ n. cmp k (key n.t)) z

  pub record Step (o : Ordered T) (i : ℕ) (v : IndexNode T) (asked : ℕ) : Type 0 where
    pub here : Here (nodes_in o.chains) (asked_at cmp key k o) (tree_in o) i
        (view_of v) asked
    pub is : asked_at cmp key k o i ≡ cmp k (key v.t)

  pub seek_step : (o inside : Ordered T) → inside ≡ o → (i : ℕ) (v u : IndexNode T) → v ≡ u
      → option_map (λ e. e.1) (values_in inside.chains i) ≡ Some u
      → (link : Option ℕ) (place : Option (ℕ × Ordering)) (asked : ℕ) → link ≡ Some i
      → Descent (nodes_in o.chains) (asked_at cmp key k o) (tree_in o) link place
      asked → Step o i v asked
  seek_step o inside same i v u view at link place asked link_is d =
      let e : option_map (λ e. e.1) (values_in o.chains i) ≡ Some v =
      ap (λ (z : Ordered T). option_map (λ e. e.1) (values_in z.chains i)) (sym same) ∙ at
      ∙ ap Some (sym view) in
      record {
        here = step_down (nodes_in o.chains) (asked_at cmp key k o) (tree_in o) link
            place asked i (view_of v) link_is (node_node (values_in o.chains i) v e) d;
        is = node_asked (values_in o.chains i) v e;
      }

  asked-equal : (e : Option (ℕ × T)) → option_map (λ e. cmp k (key e.1)) e ≡ Some Equal
      → IsSome e × (asked_of cmp key k e ≡ Equal)
  asked-equal None h = absurd (cc)
  asked-equal (Some e) h = (refl, let z : cmp k (key e.1) ≡ Equal = cc in z)

  -- a sorted list parts at a key
  pub parts_at : IsTotalOrder cmp → (o : Ordered T) → IsOrdered o
      → IsAscending cmp key o → IsParted (asked_at cmp key k o) (order_in o)
  parts_at total o is ascending =
      parted_from total key (entry_in o) k (order_in o)
      (counted-all (λ i. IsSome (entry_in o i)) (tree_in o)
      (λ j h. counted_entry o is j h)) ascending

  pub absent : IsTotalOrder cmp → (o : Ordered T) → IsOrdered o
      → (a : Option (ℕ × Ordering)) → IsAnswer (asked_at cmp key k o) (tree_in o) a
      → ((i : ℕ) (d : Ordering) → a ≡ Some (i, d) → d ≢ Equal)
      → IsAscending cmp key o → (j : ℕ)
      → option_map (λ e. cmp k (key e.1)) (entry_in o j) ≢ Some Equal
  absent total o is a answer not ascending j e =
      let f = asked_at cmp key k o in
      let none = unequal f (tree_in o) a answer not (parts_at total o is ascending) in
      let q = asked-equal (entry_in o j) e in
      all-counted (λ y. f y ≢ Equal) (tree_in o) none j (entry_counted o is j q.0) q.1

module _ {I K T : Type 0} (number : I → ℕ) (cmp : K → K → Ordering) (key : T → K) (k : K) where
  -- a search that ends beside a gap ends where a child is missing
  pub seek_ends : (o inside : Ordered T) → inside ≡ o → IsOrdered inside
      → (r : Option (I × Ordering)) (link : Option ℕ) (asked : ℕ) → link ≡ None
      → Descent (nodes_in o.chains) (asked_at cmp key k o) (tree_in o) link
      (place_by number r) asked
      → IfSome r (λ a. IsFreeAt a.1 (nodes_in o.chains (number a.0)))
  seek_ends o inside same is r link asked at d =
      let it : IsOrdered o = subst IsOrdered same is in
      if_answered number (λ i d. IsFreeAt d (nodes_in o.chains i)) r
      (descent_free (nodes_in o.chains) (asked_at cmp key k o) o.root (tree_in o) link
      (place_by number r) asked it.whole.stands at d)

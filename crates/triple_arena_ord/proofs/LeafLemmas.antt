-- One more leaf in the tree, and one more entry in the list.
use Rattle.std.proofs.Common.{◌≡◌, ◌≢◌, ◌==◌, ℕ, ◌+◌, ◌^◌, ◌<◌, List, [], ◌∷◌, ◌++◌, length}
use Rattle.std.proofs.Common.{append_assoc, length-append, Option, Some, None, IsSome, Bool, true}
use Rattle.std.proofs.Common.{false, if◌then◌else◌, refl, sym, ap, ◌∙◌, subst, arith, inl, inr}
use Rattle.std.specs.Option.{option_map}
use Rattle.std.proofs.lemmas.Bool.{cases_eq, cases_lt, eq-eqb, ne_eqb}
use Rattle.triple_arena.specs.Content.{Content, entry_at, live_count}
use Rattle.triple_arena_chain.specs.LinkShape.{IndexLink}
use Rattle.triple_arena_chain.specs.declared.gap.Gap.TheVariants.{Between}
use Rattle.linked_lists.specs.LinkedLists.{Ends, IsLinear, IsBetween, first_or, last_or}
use Rattle.triple_arena_chain.specs.Links.{ends_in, entry_ends, values_in, valued, IsLinkInserted}
use Rattle.linked_lists.specs.Chains.{Linear}
use Rattle.linked_lists.specs.ChainLaws.{chain_where}
use Rattle.rank_tree.specs.declared.side.Side.{Side}
use Rattle.rank_tree.specs.declared.side.Side.TheVariants.{Left, Right}
use Rattle.triple_arena_ord.specs.NodeShape.{IndexNode}
use Rattle.rank_tree.specs.NodeView.{NodeView}
use Rattle.rank_tree.specs.Store.{child_of}
use Rattle.triple_arena_ord.specs.Node.{nodes_in, view_of, itemed, rest, prev_for, next_for}
use Rattle.triple_arena_ord.specs.Node.{prev_beside, next_beside}
use Rattle.rank_tree.specs.Tree.{Tree, leaf, node, walk, IsRanked}
use Rattle.rank_tree.specs.Shape.{make, node_view, root_of, Context, top, under, plug, holder}
use Rattle.rank_tree.specs.Shape.{RepresentsTree}
use Rattle.rank_tree.specs.Shape.{IsDistinct, one, count}
use Rattle.rank_tree.specs.Repair.{FreeSide, new_below, filled, Restored}
use Rattle.triple_arena_ord.specs.Inserted.{IsAdded}
use Rattle.triple_arena_ord.specs.Ordered.{Ordered, IsOrdered, StandsBeside, tree_in, order_in}
use Rattle.rank_tree.specs.FrameLaws.{one-same, one-other, Represents-keep, make-count, plug-count}
use Rattle.rank_tree.specs.FrameLaws.{plug-opens, count-same, IsDistinct-walk}
use Rattle.rank_tree.specs.DescentLaws.{before, after, plug-walk_is, rest_leaf}
use Rattle.rank_tree.specs.UniqueLaws.{tree_is}
use Rattle.rank_tree.specs.SeekLaws.{counted-lives}
use Rattle.triple_arena_ord.proofs.RestLemmas.{rested}
use Rattle.triple_arena_ord.proofs.GapLemmas.{linear_gap, linear_ends, last_snoc}

-- where an index stands in a tree
pub record Located (t : Tree) (i : ℕ) : Type 0 where
  pub context : Context
  pub left : Tree
  pub rank : ℕ
  pub right : Tree
  pub is : t ≡ plug context (node left i rank right)

pub located : (c : Context) (t : Tree) (i : ℕ) → 0 < count i t → Located (plug c t) i
located c leaf i h = absurd (omega arith)
located c (node l x k r) i h =
    elim (cases_lt 0 (count i l)) [
      | inl in_left ↦ located (under c Left x k r) l i in_left
      | inr out_left ↦ elim (cases_eq i x) [
        | inl e ↦ record {
          context = c;
          left = l;
          rank = k;
          right = r;
          is = ap (λ z. plug c (node l z k r)) (sym e);
        }
        | inr d ↦ let z = one-other i x d in located (under c Right x k l) r i (omega arith)
      ]
    ]

module _ {T : Type 0} where
  abbrev node_at : ℕ × IndexNode T → NodeView
  node_at entry = view_of entry.1

  -- the node at an index has no child on this side
  abbrev pub IsFree : Ordered T → ℕ → Side → Type 0
  IsFree o h side = option_map (λ v. child_of side v) (nodes_in o.chains h) ≡ Some None

  -- a node without a child on one side, and the cut of the list there
  pub record Cut (o : Ordered T) (h : ℕ) (side : Side) (prev next : Option ℕ) : Type 0 where
    pub context : Context
    pub rank : ℕ
    pub far : Tree
    pub tree : tree_in o ≡ plug context (make side leaf h rank far)
    pub front : List ℕ
    pub back : List ℕ
    pub is : order_in o ≡ front ++ back
    pub prev_is : prev ≡ last_or None front
    pub next_is : next ≡ first_or back None
    pub filled_is : (n : ℕ)
        → walk (plug context (make side (node leaf n 1 leaf) h rank far)) ≡ front ++ n ∷ back
    pub stands : (n : ℕ) → StandsBeside side (order_in o) (front ++ n ∷ back) h n

  pub cut : (o : Ordered T) → IsOrdered o
      → (h : ℕ) (side : Side) (g : ℕ) (l : IndexLink (IndexNode T))
      → entry_at o.chains h ≡ Some (g, l) → IsSome (nodes_in o.chains h) → IsFree o h side
      → Cut o h side (prev_for side l h) (next_for side l h)
  cut o is h side g l at lives free = by side free
    where
      found : Located (tree_in o) h
      found = located top (tree_in o) h (is.all h lives)

      at_h : nodes_in o.chains h
          ≡ Some (node_view Left (holder found.context) (root_of found.left) found.rank
          (root_of found.right))
      at_h =
          (plug-opens (nodes_in o.chains) o.root found.context
          (node found.left h found.rank found.right)
          (subst (RepresentsTree (nodes_in o.chains) o.root) found.is is.whole.stands)).1.0

      -- the link names its neighbors in the list
      neighbors : (xs ys : List ℕ) → order_in o ≡ xs ++ h ∷ ys
          → (l.prev ≡ last_or None xs)
          × (l.next ≡ first_or ys None)
      neighbors xs ys order =
          let ends : ends_in o.chains h
          ≡ Some (l.prev, l.next) =
          ap (option_map entry_ends) at in
          let e : Some (l.prev, l.next)
          ≡ Some (last_or None xs, first_or ys None) =
          sym ends ∙ linear_ends (ends_in o.chains) xs h ys
          (subst (IsLinear (ends_in o.chains)) order is.linear) in
          let z : ◌≡◌ {A = Ends} (l.prev, l.next)
          (last_or None xs, first_or ys None) = cc e in
          (ap (λ p. p.0) z, ap (λ p. p.1) z)

      by : (side : Side) → IsFree o h side
          → Cut o h side (prev_for side l h) (next_for side l h)
      by Left free =
          let c = found.context in
          let k = found.rank in
          let r = found.right in
          let none : root_of found.left ≡ None =
          let z : Some (root_of found.left) ≡ Some None =
          sym (ap (option_map (λ v. child_of Left v)) at_h) ∙ free in cc in
          let tree : tree_in o ≡ plug c (node leaf h k r) = found.is
          ∙ ap (λ t. plug c (node t h k r)) (rest_leaf found.left none) in
          let order : order_in o ≡ before c ++ h ∷ (walk r ++ after c) = ap walk tree
          ∙ plug-walk_is (under c Left h k r) leaf in
          record {
            context = c;
            rank = k;
            far = r;
            tree = tree;
            front = before c;
            back = h ∷ (walk r ++ after c);
            is = order;
            prev_is = (neighbors (before c) (walk r ++ after c) order).0;
            next_is = refl;
            filled_is = λ n. plug-walk_is (under c Left h k r) (node leaf n 1 leaf);
            stands = λ n. record {
              before = before c;
              after = walk r ++ after c;
              was = order;
              is = refl;
            };
          }
      by Right free =
          let c = found.context in
          let k = found.rank in
          let a = found.left in
          let none : root_of found.right ≡ None =
          let z : Some (root_of found.right) ≡ Some None =
          sym (ap (option_map (λ v. child_of Right v)) at_h) ∙ free in cc in
          let tree : tree_in o ≡ plug c (node a h k leaf) =
          found.is ∙ ap (λ t. plug c (node a h k t)) (rest_leaf found.right none) in
          let order : order_in o ≡ (before c ++ (walk a ++ h ∷ [])) ++ after c =
          ap walk tree ∙ plug-walk_is (under c Right h k a) leaf in
          let snoc : before c ++ (walk a ++ h ∷ []) ≡ (before c ++ walk a) ++ h ∷ [] =
          sym (append_assoc (before c) (walk a) (h ∷ [])) in
          let flat : (ys : List ℕ)
          → (before c ++ (walk a ++ h ∷ [])) ++ ys ≡ (before c ++ walk a) ++ h ∷ ys =
          λ ys. ap (λ z. z ++ ys) snoc ∙ append_assoc (before c ++ walk a) (h ∷ []) ys in
          record {
            context = c;
            rank = k;
            far = a;
            tree = tree;
            front = before c ++ (walk a ++ h ∷ []);
            back = after c;
            is = order;
            prev_is = sym (ap (last_or None) snoc ∙ last_snoc (before c ++ walk a) h);
            next_is = (neighbors (before c ++ walk a) (after c) (order ∙ flat (after c))).1;
            filled_is = λ n. plug-walk_is (under c Right h k a) (node leaf n 1 leaf);
            stands = λ n. record {
              before = before c ++ walk a;
              after = after c;
              was = order ∙ flat (after c);
              is = flat (n ∷ after c);
            };
          }

  pub cut_found : (o : Ordered T) → IsOrdered o
      → (h : ℕ) (side : Side) (prev next : Option ℕ)
      → IsSome (nodes_in o.chains h) → IsFree o h side
      → prev_beside side o.chains h ≡ Some prev
      → next_beside side o.chains h ≡ Some next
      → Cut o h side prev next
  cut_found o is h side prev next lives free p q = by (entry_at o.chains h) refl p q
    where
      by : (e : Option (ℕ × IndexLink (IndexNode T))) → entry_at o.chains h ≡ e
          → option_map (λ e. prev_for side e.1 h) e ≡ Some prev
          → option_map (λ e. next_for side e.1 h) e ≡ Some next
          → Cut o h side prev next
      by None at p q = absurd (cc)
      by (Some e) at p q =
          let p_is : prev_for side e.1 h ≡ prev = cc p in
          let q_is : next_for side e.1 h ≡ next = cc q in
          let found = cut o is h side e.0 e.1 at lives free in
          subst (λ z. Cut o h side z next) p_is
          (subst (λ z. Cut o h side (prev_for side e.1 h) z) q_is found)

  -- the gap of the chain
  pub cut_gap : (o : Ordered T) (is : IsOrdered o) (h : ℕ) (side : Side)
      (prev next : Option ℕ) → Cut o h side prev next
      → IsBetween (ends_in o.chains) (prev, next)
  cut_gap o is h side prev next cut =
      rw (cut.prev_is, cut.next_is)
      (linear_gap (ends_in o.chains) cut.front cut.back
      (subst (IsLinear (ends_in o.chains)) cut.is is.linear))

  pub item-if : (b : Bool) (g : ℕ) (v : IndexNode T) (o : Option (ℕ × IndexNode T))
      → option_map itemed (if b then Some (g, v) else o)
      ≡ (if b then Some (g, v.t) else option_map itemed o)
  item-if true g v o = refl
  item-if false g v o = refl

  -- the links have one more node, of index `n`, where the list is cut; its pointer's index is `i`
  pub record Linked (o : Ordered T) (c1 : Content (IndexLink (IndexNode T))) (h n i g : ℕ)
      (side : Side)
      (v : IndexNode T) : Type 0 where
    pub is : IsOrdered o
    pub prev : Option ℕ
    pub next : Option ℕ
    pub cut : Cut o h side prev next
    pub placed : IsLinkInserted (Between prev next) i g v o.chains c1
    pub index_is : n ≡ i
    pub small : live_count o.chains + 1 < 2 ^ 64

  module _ {o : Ordered T} {c1 : Content (IndexLink (IndexNode T))} {h n i g : ℕ}
      {side : Side} {v : IndexNode T}
      (new : Linked o c1 h n i g side v) where
    placed : IsLinkInserted (Between new.prev new.next) n g v o.chains c1
    placed = subst (λ j. IsLinkInserted (Between new.prev new.next) j g v o.chains c1)
        (sym new.index_is) new.placed

    lives_not : (j : ℕ) → 0 < count j (tree_in o) → j ≢ n
    lives_not j c e =
        let lives = counted-lives (nodes_in o.chains) None (tree_in o)
        new.is.whole.stands.1 j c in
        let gone : nodes_in o.chains j ≡ None =
        ap (nodes_in o.chains) e
        ∙ ap (option_map node_at) (ap (option_map valued) placed.vacant) in
        let z : IsSome (option_map node_at None) = subst IsSome gone lives in
        absurd (cc)

    other : (j : ℕ) → j ≢ n → nodes_in c1 j ≡ nodes_in o.chains j
    other j d = ap (option_map node_at) (placed.values j) ∙ rw (ne_eqb j n d) refl

    -- the node that was put there
    pub leaf_slot : view_of v ≡ new_below h → nodes_in c1 n ≡ Some (new_below h)
    leaf_slot is = ap (option_map node_at) (placed.values n) ∙ rw (eq-eqb n n refl) (ap Some is)

    fresh : count n (tree_in o) ≡ 0
    fresh = elim (cases_lt 0 (count n (tree_in o))) [
      | inl h ↦ absurd (lives_not n h refl)
      | inr h ↦ omega arith
    ]

    pub leaf_gap : FreeSide (nodes_in c1) o.root h side n
    leaf_gap =
        let cut = new.cut in
        let stands : RepresentsTree (nodes_in c1) o.root (tree_in o) = (
          new.is.whole.stands.0,
          Represents-keep (nodes_in o.chains) (nodes_in c1) None (tree_in o)
              (λ j c. other j (lives_not j c))
              new.is.whole.stands.1,
        ) in
        let small = new.small in
        record {
          context = cut.context;
          rank = cut.rank;
          far = cut.far;
          distinct = subst IsDistinct cut.tree new.is.whole.distinct;
          stands = subst (RepresentsTree (nodes_in c1) o.root) cut.tree stands;
          ranked = subst IsRanked cut.tree new.is.whole.ranked;
          fresh = subst (λ t. count n t ≡ 0) cut.tree fresh;
          small = subst (λ t. length (walk t) + 1 < 2 ^ 64) cut.tree (rw new.is.counted small);
        }

    abbrev grown : Tree
    grown = plug new.cut.context (make side (node leaf n 1 leaf) h new.cut.rank new.cut.far)

    counts : (j : ℕ) → count j grown ≡ count j (tree_in o) + one j n
    counts j =
        let cut = new.cut in
        let p = plug-count cut.context j (make side (node leaf n 1 leaf) h cut.rank cut.far) in
        let q = make-count side j (node leaf n 1 leaf) h cut.rank cut.far in
        let r = plug-count cut.context j (make side leaf h cut.rank cut.far) in
        let s = make-count side j leaf h cut.rank cut.far in
        let t = ap (count j) cut.tree in
        omega arith

    one_at_n : (j : ℕ) → j ≡ n → one j n ≡ 1
    one_at_n j e = ap (λ z. one z n) e ∙ one-same n

    distinct : IsDistinct grown
    distinct = record {
      once = λ j.
          let e = counts j in
          let b = new.is.whole.distinct.once j in
          elim (cases_eq j n) [
            | inl same ↦
                let f = subst (λ z. count z (tree_in o) ≡ 0) (sym same) fresh in
                let y = one_at_n j same in
                omega arith
            | inr d ↦ let y = one-other j n d in omega arith
          ];
    }

    pub record Leaf (c2 : Content (IndexLink (IndexNode T))) (root2 : Option ℕ) : Type 0 where
      pub ordered : IsOrdered (record { chains = c2; root = root2 })
      pub order : StandsBeside side (order_in o)
          (order_in (record { chains = c2; root = root2 })) h i
      pub added : IsAdded i g v.t o (record { chains = c2; root = root2 })

    pub leaf_works : (c2 : Content (IndexLink (IndexNode T))) (root2 : Option ℕ)
        → Restored (nodes_in c2) root2 (walk (filled leaf_gap)) → rest c2 ≡ rest c1
        → Leaf c2 root2
    unfolding leaf_gap
    leaf_works c2 root2 restored keeps =
        let p : Ordered T = record { chains = c2; root = root2 } in
        let cut = new.cut in
        let same = rested c1 c2 keeps in
        let tree : tree_in p ≡ restored.tree =
        tree_is (nodes_in c2) root2 restored.tree restored.stands restored.ranked in
        let walks : order_in p ≡ walk grown = ap walk tree ∙ restored.is_walk in
        let order : order_in p ≡ cut.front ++ n ∷ cut.back = walks ∙ cut.filled_is n in
        let linear1 : IsLinear (ends_in c1) (cut.front ++ n ∷ cut.back) =
        placed.lists.inside cut.front cut.back (sym cut.prev_is) (sym cut.next_is)
        (subst (IsLinear (ends_in o.chains)) cut.is new.is.linear) in
        let linear2 = chain_where (ends_in c1) (ends_in c2)
        (Linear (cut.front ++ n ∷ cut.back))
        (λ i on. same.ends i) linear1 in
        let old_length : length (order_in o) ≡ length (cut.front ++ cut.back) =
        ap length cut.is in
        let l1 = length-append cut.front (n ∷ cut.back) in
        let l2 = length-append cut.front cut.back in
        let l3 : length (order_in p) ≡ length (cut.front ++ n ∷ cut.back) =
        ap length order in
        let l4 = new.is.counted in
        let l5 : live_count c2 ≡ live_count c1 = same.kept.live in
        let l6 = placed.live in
        record {
          ordered = record {
            whole = record {
              stands = subst (RepresentsTree (nodes_in c2) root2) (sym tree) restored.stands;
              distinct = IsDistinct-walk grown (tree_in p) (sym walks) distinct;
              ranked = subst IsRanked (sym tree) restored.ranked;
            };
            linear = subst (IsLinear (ends_in c2)) (sym order) linear2;
            all = λ j lives.
                let e = count-same j grown (tree_in p) (sym walks) in
                let f = counts j in
                elim (cases_eq j n) [
                  | inl at_n ↦ let y = one_at_n j at_n in omega arith
                  | inr d ↦ let z = new.is.all j (subst IsSome (other j d) (same.lives j lives)) in
                      omega arith
                ];
            counted = omega arith;
          };
          order =
              subst (λ j. StandsBeside side (order_in o) (order_in p) h j)
              new.index_is
              (subst (λ w. StandsBeside side (order_in o) w h n) (sym order) (cut.stands n));
          added = record {
            index = new.placed.index;
            generation = new.placed.generation;
            vacant = ap (λ e. option_map itemed (option_map valued e)) new.placed.vacant;
            entries = λ k. same.items k ∙ ap (option_map itemed) (new.placed.values k)
                ∙ item-if (k == i) g v (values_in o.chains k);
            size = same.kept.live ∙ new.placed.live;
            free = same.kept.free ∙ new.placed.free;
            slots = same.kept.slots ∙ new.placed.slots;
          };
        }

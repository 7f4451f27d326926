-- The next index of the list, which has no left child, takes the place of a node with a right
-- child.
use Rattle.std.proofs.Common.{◌≡◌, ◌≢◌, ℕ, ◌+◌, ◌^◌, ◌<◌, List, [], ◌∷◌, ◌++◌, length, append_assoc}
use Rattle.std.proofs.Common.{Option, Some, None, IsSome, sym, ap, ◌∙◌, subst, arith}
use Rattle.triple_arena.specs.Content.{Content, live_count}
use Rattle.triple_arena_chain.specs.LinkShape.{IndexLink}
use Rattle.linked_lists.specs.LinkedLists.{IsLinear, Apart, next_in, next_at}
use Rattle.linked_lists.specs.LinkedListLaws.{Apart-taken}
use Rattle.triple_arena_chain.specs.Links.{ends_in}
use Rattle.linked_lists.specs.UniquenessLaws.{linear_apart}
use Rattle.rank_tree.specs.declared.side.Side.TheVariants.{Left, Right}
use Rattle.triple_arena_ord.specs.NodeShape.{IndexNode}
use Rattle.rank_tree.specs.NodeView.{NodeView}
use Rattle.triple_arena_ord.specs.Node.{nodes_in, rest}
use Rattle.rank_tree.specs.Tree.{Tree, leaf, node, walk, IsRanked}
use Rattle.rank_tree.specs.Shape.{node_view, root_of, Context, top, under, plug, holder}
use Rattle.rank_tree.specs.Shape.{RepresentsTree}
use Rattle.rank_tree.specs.Shape.{IsDistinct, one, count}
use Rattle.rank_tree.specs.Repair.{Loose, Restored, Replacement, walk_without}
use Rattle.triple_arena_ord.specs.Ordered.{Ordered, IsOrdered, tree_in, order_in}
use Rattle.triple_arena_ord.specs.Removal.{IsUprooted}
use Rattle.rank_tree.specs.FrameLaws.{one-same, one-other, plug-opens, count_split}
use Rattle.rank_tree.specs.DescentLaws.{before, after, plug-walk_is}
use Rattle.rank_tree.specs.TurningLaws.{plug-ranked}
use Rattle.rank_tree.specs.EdgeLaws.{plug-ranked-opens, loose_lives}
use Rattle.triple_arena_ord.proofs.EndLemmas.{after_off}
use Rattle.triple_arena_ord.proofs.GapLemmas.{linear_ends}
use Rattle.triple_arena_ord.proofs.InsertLemmas.{split_same}
use Rattle.triple_arena_ord.proofs.LeafLemmas.{Located, located}
use Rattle.triple_arena_ord.proofs.RestLemmas.{rested}
use Rattle.rank_tree.specs.UniqueLaws.{plug_in, plug_in-plug, First, first_at}

-- the ranks are the same under another index
renamed-ranked : (c : Context) (l : Tree) (i j k : ℕ) (r : Tree) → IsRanked (plug c (node l i k r))
    → IsRanked (plug c (node l j k r))
renamed-ranked c l i j k r h = let o = plug-ranked-opens c (node l i k r) h in
    plug-ranked c (node l j k r) o.0 o.1

-- an index of a node, and the list round it
pub flat : (c : Context) (l : Tree) (h : ℕ) (w : List ℕ)
    → before c ++ ((walk l ++ h ∷ w) ++ after c) ≡ (before c ++ walk l) ++ h ∷ (w ++ after c)
flat c l h w = ap (λ z. before c ++ z) (append_assoc (walk l) (h ∷ w) (after c))
    ∙ sym (append_assoc (before c) (walk l) (h ∷ (w ++ after c)))

pub snoc : (xs : List ℕ) (h : ℕ) (ys : List ℕ) → xs ++ h ∷ ys ≡ (xs ++ h ∷ []) ++ ys
snoc xs h ys = sym (append_assoc xs (h ∷ []) ys)

module _ {T : Type 0} where
  -- an index and the next one, which has no left child, and the list round both
  pub record Over (o : Ordered T) (h n : ℕ) : Type 0 where
    pub loose : Loose (nodes_in o.chains) o.root n
    pub front : List ℕ
    pub back : List ℕ
    pub was : order_in o ≡ front ++ h ∷ n ∷ back
    pub is : walk_without loose ≡ front ++ h ∷ back

  pub record Successor (o : Ordered T) (h : ℕ) : Type 0 where
    pub index : ℕ
    pub over : Over o h index
    pub next : next_at (ends_in o.chains) h ≡ Some index

  pub successor : (o : Ordered T) → IsOrdered o → (h : ℕ) → live_count o.chains < 2 ^ 64
      → IsSome (nodes_in o.chains h)
      → (v : NodeView) → nodes_in o.chains h ≡ Some v → (x : ℕ) → v.right ≡ Some x
      → Successor o h
  successor o is h small lives v at x right =
      let found : Located (tree_in o) h =
      located top (tree_in o) h (is.all h lives) in
      let c = found.context in
      let a = found.left in
      let k = found.rank in
      let r = found.right in
      let at_h : nodes_in o.chains h
      ≡ Some (node_view Left (holder c) (root_of a) k (root_of r)) =
      (plug-opens (nodes_in o.chains) o.root c (node a h k r)
      (subst (RepresentsTree (nodes_in o.chains) o.root) found.is is.whole.stands)).1.0 in
      let same : Some v ≡ Some (node_view Left (holder c) (root_of a) k (root_of r)) = sym at
      ∙ at_h in
      let below : v ≡ node_view Left (holder c) (root_of a) k (root_of r) = cc in
      let f : First r = first_at r x (sym (ap (λ z. z.right) below) ∙ right) in
      let inner = plug_in (under c Right h k a) f.context in
      let tree : tree_in o ≡ plug inner (node leaf f.index f.rank f.right) =
      found.is ∙ ap (λ t. plug c (node a h k t)) f.is
      ∙ sym (plug_in-plug (under c Right h k a) f.context (node leaf f.index f.rank f.right)) in
      let rest = walk (plug f.context f.right) in
      let order : order_in o ≡ (before c ++ walk a) ++ h ∷ f.index ∷ (rest ++ after c) =
      ap walk found.is ∙ plug-walk_is c (node a h k r) ∙ flat c a h (walk r)
      ∙ ap (λ w. (before c ++ walk a) ++ h ∷ (w ++ after c)) f.at_start in
      let ends = linear_ends (ends_in o.chains) (before c ++ walk a) h
      (f.index ∷ (rest ++ after c)) (subst (IsLinear (ends_in o.chains)) order is.linear)
      in
      let short : length (walk (tree_in o)) < 2 ^ 64 = rw is.counted small in
      record {
        index = f.index;
        over = record {
          loose = record {
            context = inner;
            side = Right;
            sub = f.right;
            rank = f.rank;
            distinct = subst IsDistinct tree is.whole.distinct;
            stands = subst (RepresentsTree (nodes_in o.chains) o.root) tree is.whole.stands;
            ranked = subst IsRanked tree is.whole.ranked;
            small = subst (λ t. length (walk t) < 2 ^ 64) tree short;
          };
          front = before c ++ walk a;
          back = rest ++ after c;
          was = order;
          is = ap walk (plug_in-plug (under c Right h k a) f.context f.right)
              ∙ plug-walk_is c (node a h k (plug f.context f.right)) ∙ flat c a h rest;
        };
        next = ap next_in ends;
      }

  pub over_at : (o : Ordered T) (h n : ℕ) → Successor o h
      → next_at (ends_in o.chains) h ≡ Some n → Over o h n
  over_at o h n s at = let e : Some s.index ≡ Some n = sym s.next
      ∙ at in let same : s.index ≡ n = cc in subst (Over o h) same s.over

  pub over_lives : (o : Ordered T) (h n : ℕ) (c1 : Content (IndexLink (IndexNode T)))
      → Over o h n → rest c1 ≡ rest o.chains → IsSome (nodes_in c1 n)
  over_lives o h n c1 over keeps =
      (rested o.chains c1 keeps).stays n
      (loose_lives (nodes_in o.chains) o.root n over.loose)

  -- the next index is out of the tree
  module _ (o : Ordered T) (is : IsOrdered o) (h n : ℕ)
      (lives : IsSome (nodes_in o.chains h)) (over : Over o h n)
      (c1 : Content (IndexLink (IndexNode T))) (root1 : Option ℕ)
      (restored : Restored (nodes_in c1) root1
      (walk_without over.loose)) where
    walk_is : walk restored.tree ≡ over.front ++ h ∷ over.back
    walk_is = restored.is_walk ∙ over.is

    apart : Apart (over.front ++ h ∷ n ∷ over.back)
    apart = subst Apart over.was
        (linear_apart (ends_in o.chains) None (order_in o) is.linear)

    apart_without : Apart (over.front ++ h ∷ over.back)
    apart_without =
        subst Apart (sym (snoc over.front h over.back))
        (Apart-taken (over.front ++ h ∷ []) over.back n
        (subst Apart (snoc over.front h (n ∷ over.back)) apart)).0

    differs : h ≢ n
    differs e = (after_off over.front h (n ∷ over.back) apart).0 (sym e)

    counts : (j : ℕ) → count j (tree_in o) ≡ count j restored.tree + one j n
    counts j =
        count_split j (tree_in o) restored.tree (over.front ++ h ∷ []) n over.back
        (over.was ∙ snoc over.front h (n ∷ over.back)) (walk_is ∙ snoc over.front h over.back)

    place : Located restored.tree h
    place = located top restored.tree h
        (let z = counts h in let y = one-other h n differs in let w = is.all h lives in omega arith)

    pub replacement_place : Replacement (nodes_in c1) root1 h n
    replacement_place = record {
      context = place.context;
      left = place.left;
      rank = place.rank;
      right = place.right;
      distinct = subst IsDistinct place.is
          (record {
            once = λ j. let z = counts j in let b = is.whole.distinct.once j in
                omega arith;
          });
      stands = subst (RepresentsTree (nodes_in c1) root1) place.is restored.stands;
      fresh = subst (λ t. count n t ≡ 0) place.is
          (let z = counts n in let b = is.whole.distinct.once n in let y = one-same n in
          omega arith);
    }

    -- and takes the place of the other
    pub replaced : (c2 : Content (IndexLink (IndexNode T))) (root2 : Option ℕ)
        → RepresentsTree (nodes_in c2) root2
        (plug replacement_place.context
        (node replacement_place.left n replacement_place.rank replacement_place.right))
        → IsUprooted o (record { chains = c2; root = root2 }) h
    unfolding replacement_place
    replaced c2 root2 stands =
        let c = place.context in
        let l = place.left in
        let k = place.rank in
        let r = place.right in
        let round : over.front ++ h ∷ over.back ≡ (before c ++ walk l) ++ h ∷ (walk r ++ after c) =
        sym walk_is ∙ ap walk place.is ∙ plug-walk_is c (node l h k r) ∙ flat c l h (walk r) in
        let split = split_same over.front h over.back (before c ++ walk l) (walk r ++ after c)
        apart_without round in
        let walk_new : walk (plug c (node l n k r)) ≡ over.front ++ n ∷ over.back =
        plug-walk_is c (node l n k r) ∙ flat c l n (walk r)
        ∙ ap (λ z. z ++ n ∷ (walk r ++ after c)) (sym split.0)
        ∙ ap (λ z. over.front ++ n ∷ z) (sym split.1) in
        record {
          before = over.front;
          after = n ∷ over.back;
          was = over.was;
          restored = record {
            tree = plug c (node l n k r);
            stands = stands;
            ranked = renamed-ranked c l h n k r (subst IsRanked place.is restored.ranked);
            is_walk = walk_new;
          };
        }

-- Where the nodes and the interlinks stay, so does the list.
use Rattle.std.proofs.Common.{◌≡◌, ℕ, zero, suc, ◌<◌, length, Option, Some, None, IsSome, refl, sym}
use Rattle.std.proofs.Common.{ap, ◌∙◌, subst}
use Rattle.triple_arena.specs.Content.{live_count}
use Rattle.linked_lists.specs.LinkedLists.{IsLinear, first_or, last_or}
use Rattle.triple_arena_chain.specs.Links.{ends_in}
use Rattle.linked_lists.specs.Chains.{Linear}
use Rattle.linked_lists.specs.ChainLaws.{chain_where}
use Rattle.triple_arena_ord.specs.Node.{nodes_in}
use Rattle.rank_tree.specs.NodeView.{NodeView}
use Rattle.rank_tree.specs.Store.{Store, rank_or_link}
use Rattle.rank_tree.specs.Tree.{Tree, leaf, node, walk, IsRanked}
use Rattle.rank_tree.specs.Whole.{read_tree, tree_of}
use Rattle.rank_tree.specs.Shape.{RepresentsTree, IsDistinct, count}
use Rattle.triple_arena_ord.specs.Ordered.{Ordered, IsOrdered, tree_in, order_in}
use Rattle.rank_tree.specs.FrameLaws.{Represents-keep}
use Rattle.rank_tree.specs.UniqueLaws.{tree_is}

-- what hangs from a node, read as deep as the fuel goes
abbrev hanging : ℕ → Store → ℕ → Option NodeView → Tree
hanging fuel n i o = elim o
    [ None ↦ leaf | Some v ↦ node (read_tree fuel n v.left) i v.rank (read_tree fuel n v.right) ]

module _ (n m : Store) (same : (k : ℕ) → n k ≡ m k) where
  read_same : (fuel : ℕ) (root : Option ℕ) → read_tree fuel n root ≡ read_tree fuel m root
  read_same zero root = refl
  read_same (suc fuel) None = refl
  read_same (suc fuel) (Some i) = ap (hanging fuel n i) (same i) ∙ by (m i) (read_same fuel)
    where
      by : (o : Option NodeView)
          → ((root : Option ℕ) → read_tree fuel n root ≡ read_tree fuel m root)
          → hanging fuel n i o ≡ hanging fuel m i o
      by None below = refl
      by (Some v) below = rw (below v.left, below v.right) refl

  fuel_same : (root : Option ℕ) → rank_or_link n root ≡ rank_or_link m root
  fuel_same None = refl
  fuel_same (Some i) = rw (same i) refl

  -- of the same nodes the same tree is read
  pub tree_same : (root : Option ℕ) → tree_of n root ≡ tree_of m root
  tree_same root = rw (fuel_same root) (read_same (rank_or_link m root) root)

module _ {T : Type 0} where
  -- the list is the same, and as it must be
  pub record Reordered (o p : Ordered T) : Type 0 where
    pub ordered : IsOrdered p
    pub order : order_in p ≡ order_in o
    pub tree : tree_in p ≡ tree_in o

  -- and its ends are still told
  pub still_whole : {o p : Ordered T} {first last : Option ℕ} → Reordered o p
      → first ≡ first_or (order_in o) None → last ≡ last_or None (order_in o)
      → IsOrdered p × (first ≡ first_or (order_in p) None) × (last ≡ last_or None (order_in p))
  still_whole r first last = (
    r.ordered,
    first ∙ ap (λ l. first_or l None) (sym r.order),
    last ∙ ap (last_or None) (sym r.order),
  )

  pub same_list : (o p : Ordered T) → p.root ≡ o.root
      → ((k : ℕ) → nodes_in p.chains k ≡ nodes_in o.chains k)
      → ((k : ℕ) → ends_in p.chains k ≡ ends_in o.chains k)
      → live_count p.chains ≡ live_count o.chains
      → IsOrdered o → Reordered o p
  same_list o p root nodes ends live is =
      let n = nodes_in p.chains in
      let tree = tree_in o in
      let stands : RepresentsTree n p.root tree = (
        root ∙ is.whole.stands.0,
        Represents-keep (nodes_in o.chains) n None tree (λ j c. nodes j) is.whole.stands.1,
      ) in
      let same : tree_in p ≡ tree = tree_is n p.root tree stands is.whole.ranked in
      let order : order_in p ≡ order_in o = ap walk same in
      let linear = chain_where (ends_in o.chains) (ends_in p.chains)
      (Linear (order_in o)) (λ i on. ends i) is.linear in
      record {
        ordered = record {
          whole = record {
            stands = subst (RepresentsTree n p.root) (sym same) stands;
            distinct = subst IsDistinct (sym same) is.whole.distinct;
            ranked = subst IsRanked (sym same) is.whole.ranked;
          };
          linear = subst (IsLinear (ends_in p.chains)) (sym order) linear;
          all = λ i lives. subst (λ t. 0 < count i t) (sym same)
              (is.all i (subst IsSome (nodes i) lives));
          counted = ap length order ∙ is.counted ∙ sym live;
        };
        order = order;
        tree = same;
      }

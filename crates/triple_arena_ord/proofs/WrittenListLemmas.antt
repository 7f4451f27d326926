-- A tree that is written anew along a list which has each live index.
use Rattle.std.proofs.Common.{◌≡◌, ℕ, ◌<◌, List, [], ◌∷◌, length, Option, Some, None, IsSome}
use Rattle.std.proofs.Common.{true≢false, refl, sym, ap, subst, ◌∙◌, arith, inl, inr}
use Rattle.std.specs.Option.{option_map}
use Rattle.std.proofs.lemmas.Bool.Decides.{eqb_tells}
use Rattle.triple_arena.specs.Content.{Content, entry_at, live_count}
use Rattle.triple_arena_chain.specs.LinkShape.{IndexLink}
use Rattle.linked_lists.specs.LinkedLists.{On, IsLinear}
use Rattle.linked_lists.specs.LinkedListLaws.{off_or_on}
use Rattle.linked_lists.specs.ChainLaws.{On-either, on_differs, chain_where}
use Rattle.linked_lists.specs.UniquenessLaws.{linear_apart}
use Rattle.linked_lists.specs.Chains.{Linear}
use Rattle.triple_arena_chain.specs.Links.{ends_in, entry_ends, valued}
use Rattle.rank_tree.specs.Tree.{Tree, leaf, node, walk, IsRanked}
use Rattle.rank_tree.specs.Shape.{RepresentsTree, one, count, IsDistinct}
use Rattle.rank_tree.specs.FrameLaws.{one-same}
use Rattle.rank_tree.specs.UniqueLaws.{tree_is}
use Rattle.rank_tree.specs.HalvingLaws.{halving_ranked}
use Rattle.rank_tree.specs.Halving.{IsHalvingOf}
use Rattle.triple_arena_ord.specs.NodeShape.{IndexNode}
use Rattle.triple_arena_ord.specs.Node.{nodes_in, view_of, rest}
use Rattle.triple_arena_ord.specs.Ordered.{Ordered, IsOrdered, tree_in, order_in}
use Rattle.triple_arena_ord.specs.Rebuilt.{IsRebuilt}
use Rattle.triple_arena_ord.proofs.RestLemmas.{Rested, rested}
use Rattle.triple_arena_ord.proofs.RebuildLemmas.{distinct_walk, off_uncounted, live_node}

-- what is on the walk counts
pub on_counted : (t : Tree) (j : ℕ) → On (walk t) j → 0 < count j t
on_counted leaf j on = absurd (on_differs [] j j on tt refl)
on_counted (node l i k r) j on =
    elim (On-either (walk l) (i ∷ walk r) j on) [
      | inl left ↦ let more = on_counted l j left in omega (arith, more)
      | inr later ↦
          elim (eqb_tells i j) [
            | inl same ↦ let here : one j i ≡ 1 =
                subst (λ n. one j n ≡ 1) (sym same.1) (one-same j) in omega (arith, here)
            | inr other ↦
                elim (On-either (i ∷ []) (walk r) j later) [
                  | inl here ↦ absurd (on_differs (i ∷ []) j j here (other.1, tt) refl)
                  | inr right ↦ let more = on_counted r j right in omega (arith, more)
                ]
          ]
    ]

-- and what counts is on it
pub counted_on : (t : Tree) (j : ℕ) → 0 < count j t → On (walk t) j
counted_on t j more =
    elim (off_or_on (walk t) j) [
      | inr on ↦ on
      | inl off ↦ absurd (let none = off_uncounted t j off in omega (arith, none, more))
    ]

module _ {T : Type 0} where
  node_ends : (c : Content (IndexLink (IndexNode T))) (k : ℕ) → IsSome (nodes_in c k)
      → IsSome (ends_in c k)
  node_ends c k some = by (entry_at c k) some
    where
      by : (o : Option (ℕ × IndexLink (IndexNode T)))
          → IsSome (option_map (λ e. view_of e.1) (option_map valued o))
          → IsSome (option_map entry_ends o)
      by None h = absurd (true≢false (sym h))
      by (Some e) h = refl

  -- each live index is on the list of an ordered arena
  pub on_order : (o : Ordered T) → IsOrdered o → (i : ℕ)
      → IsSome (ends_in o.chains i) → On (order_in o) i
  on_order o is i some =
      counted_on (tree_in o) i (is.all i (live_node o.chains i some))

  module _ (mid : Content (IndexLink (IndexNode T))) (w : List ℕ)
      (linear : IsLinear (ends_in mid) w)
      (whole : (k : ℕ) → IsSome (ends_in mid k) → On w k) (long : length w ≡ live_count mid)
    where
      -- what the rebuild leaves
      pub record IsWritten (new : Ordered T) : Type 0 where
        pub ordered : IsOrdered new
        pub order : order_in new ≡ w
        pub tree : IsHalvingOf (order_in new) (tree_in new)
        pub stays : Rested mid new.chains

      pub written : (new : Ordered T) → rest new.chains ≡ rest mid
          → IsRebuilt w new.root (nodes_in new.chains) → IsWritten new
      written new keeps b =
          let r = rested mid new.chains keeps in
          let ranked : IsRanked b.tree = halving_ranked w b.tree b.halving in
          let same : tree_in new ≡ b.tree =
          tree_is (nodes_in new.chains) new.root b.tree b.hangs ranked in
          let order : order_in new ≡ w = ap walk same ∙ b.halving.is_walk in
          let apart = linear_apart (ends_in mid) None w linear in
          let distinct = distinct_walk b.tree w b.halving.is_walk apart in
          let there = chain_where (ends_in mid) (ends_in new.chains) (Linear w)
          (λ i on. r.ends i) linear in
          record {
            ordered = record {
              whole = record {
                stands = subst (RepresentsTree (nodes_in new.chains) new.root) (sym same) b.hangs;
                distinct = subst IsDistinct (sym same) distinct;
                ranked = subst IsRanked (sym same) ranked;
              };
              linear = subst (IsLinear (ends_in new.chains)) (sym order) there;
              all = λ i lives.
                  let some : IsSome (ends_in mid i) =
                  subst IsSome (r.ends i) (node_ends new.chains i lives) in
                  subst (λ t. 0 < count i t) (sym same)
                  (on_counted b.tree i (subst (λ l. On l i) (sym b.halving.is_walk)
                  (whole i some)));
              counted = ap length order ∙ long ∙ sym r.kept.live;
            };
            order = order;
            tree = subst (IsHalvingOf (order_in new)) (sym same)
                (subst (λ l. IsHalvingOf l b.tree) (sym order) b.halving);
            stays = r;
          }

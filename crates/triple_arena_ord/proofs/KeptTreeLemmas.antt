-- What keeps the list and the tree: a limit that is set, and a recast of the items.
use Rattle.std.specs.Prelude.{OnOk, OnErr}
use Rattle.std.proofs.Common.{◌≡◌, ℕ, zero, suc, List, [], ◌∷◌, get_or, Option, Some, None, Result}
use Rattle.std.proofs.Common.{Ok, Err, option_map, refl, ap, ◌∙◌}
use Rattle.triple_arena_ptr.specs.Recast.{recast_answer, where_ok}
use Rattle.triple_arena.specs.Content.{Content, live_count, with_limit}
use Rattle.triple_arena.specs.LimitLaws.{entry-with_limit, live-with_limit}
use Rattle.triple_arena.specs.Recasting.{slots_recasted, content_recasted}
use Rattle.triple_arena.specs.RecastingLaws.{live-recasted}
use Rattle.triple_arena_chain.specs.LinkShape.{IndexLink}
use Rattle.triple_arena_chain.specs.LinkRecasting.{link_items, link_recasted}
use Rattle.triple_arena_chain.specs.Links.{ends_in, valued}
use Rattle.triple_arena_chain.specs.SameLinksLaws.{ends-with_limit, ends-content_recasted}
use Rattle.rank_tree.specs.NodeView.{NodeView}
use Rattle.triple_arena_ord.specs.NodeShape.{IndexNode}
use Rattle.triple_arena_ord.specs.ItemRecasting.{node_items, node_recasted}
use Rattle.triple_arena_ord.specs.Node.{nodes_in, view_of}
use Rattle.triple_arena_ord.specs.Ordered.{Ordered, IsOrdered}
use Rattle.triple_arena_ord.proofs.SameListLemmas.{Reordered, same_list}

module _ {T : Type 0} where
  -- the node of an entry, as the tree sees it
  abbrev entry_node : Option (ℕ × IndexLink (IndexNode T)) → Option NodeView
  entry_node o = option_map (λ e. view_of e.1) (option_map valued o)

  abbrev with_chains : Ordered T → Content (IndexLink (IndexNode T)) → Ordered T
  with_chains o d = record { chains = d; root = o.root }

  -- the same links
  same_chains : (o : Ordered T) (d : Content (IndexLink (IndexNode T))) → d ≡ o.chains
      → IsOrdered o → Reordered o (with_chains o d)
  same_chains o d same is =
      same_list o (with_chains o d) refl (λ k. ap (λ c. nodes_in c k) same)
      (λ k. ap (λ c. ends_in c k) same) (ap live_count same) is

  -- a limit that is set
  pub limit_kept : (greatest : ℕ) (o : Ordered T) (max : ℕ)
      (d : Content (IndexLink (IndexNode T))) → d ≡ with_limit greatest o.chains max
      → IsOrdered o
      → Reordered o (with_chains o d)
  limit_kept greatest o max d set is =
      same_list o (with_chains o d) refl
      (λ k. ap (λ c. nodes_in c k) set
      ∙ ap entry_node (entry-with_limit greatest o.chains max k))
      (λ k. ap (λ c. ends_in c k) set ∙ ends-with_limit greatest o.chains max k)
      (ap live_count set ∙ live-with_limit greatest o.chains max) is

  -- the same, or refused
  pub limited : {A E : Type 0} (greatest : ℕ) (o : Ordered T)
      (d : Content (IndexLink (IndexNode T))) (max : ℕ) (r : Result A E)
      → OnOk r (d ≡ with_limit greatest o.chains max) → OnErr r (d ≡ o.chains) → IsOrdered o
      → Reordered o (with_chains o d)
  limited greatest o d max (Err e) set refused is = same_chains o d refused is
  limited greatest o d max (Ok x) set refused is = limit_kept greatest o max d set is

  module _ {N : Type 0} (items : T → List N) (f : N → Option N) (recasted : T → T) where
    abbrev slots_after : List (Option (ℕ × IndexLink (IndexNode T)))
        → List (Option (ℕ × IndexLink (IndexNode T)))
    slots_after = slots_recasted (link_items (node_items items)) f
        (link_recasted (node_recasted recasted))

    -- what follows an item may stay as it is
    part : (r : Result (Unit {0}) N) (slots : List (Option (ℕ × IndexLink (IndexNode T))))
        (k : ℕ)
        → entry_node (get_or (slots_after slots) k None) ≡ entry_node (get_or slots k None)
        → entry_node (get_or (where_ok r (slots_after slots) slots) k None)
        ≡ entry_node (get_or slots k None)
    part (Ok _) slots k same = same
    part (Err _) slots k same = refl

    slots_of_nodes : (slots : List (Option (ℕ × IndexLink (IndexNode T)))) (k : ℕ)
        → entry_node (get_or (slots_after slots) k None) ≡ entry_node (get_or slots k None)
    slots_of_nodes [] k = refl
    slots_of_nodes (None ∷ slots) zero = refl
    slots_of_nodes (None ∷ slots) (suc k) = slots_of_nodes slots k
    slots_of_nodes (Some entry ∷ slots) zero = refl
    slots_of_nodes (Some entry ∷ slots) (suc k) =
        part (recast_answer f (items entry.1.t.t)) slots k (slots_of_nodes slots k)

    abbrev content_after : Content (IndexLink (IndexNode T))
        → Content (IndexLink (IndexNode T))
    content_after = content_recasted (link_items (node_items items)) f
        (link_recasted (node_recasted recasted))

    nodes-recasted : (c : Content (IndexLink (IndexNode T))) (k : ℕ)
        → nodes_in (content_after c) k ≡ nodes_in c k
    nodes-recasted c zero = refl
    nodes-recasted c (suc k) = slots_of_nodes c.slots k

    -- items that are recast
    pub recast_kept : (o : Ordered T) (d : Content (IndexLink (IndexNode T)))
        → d ≡ content_after o.chains → IsOrdered o → Reordered o (with_chains o d)
    recast_kept o d exact is =
        same_list o (with_chains o d) refl
        (λ k. ap (λ c. nodes_in c k) exact ∙ nodes-recasted o.chains k)
        (λ k. ap (λ c. ends_in c k) exact
        ∙ ends-content_recasted (node_items items) f (node_recasted recasted) o.chains k)
        (ap live_count exact ∙ live-recasted (link_items (node_items items)) f
        (link_recasted (node_recasted recasted)) o.chains) is

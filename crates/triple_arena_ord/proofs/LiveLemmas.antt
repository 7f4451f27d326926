-- The entries of an ordered arena are those of its tree.
use Rattle.std.proofs.Common.{ℕ, ◌<◌, Option, Some, None, IsSome, refl}
use Rattle.std.specs.Option.{option_map}
use Rattle.triple_arena_chain.specs.Links.{values_in}
use Rattle.triple_arena_ord.specs.NodeShape.{IndexNode}
use Rattle.triple_arena_ord.specs.Node.{nodes_in, view_of, itemed}
use Rattle.rank_tree.specs.Shape.{count}
use Rattle.triple_arena_ord.specs.Ordered.{Ordered, IsOrdered, tree_in, entry_in}
use Rattle.rank_tree.specs.SeekLaws.{counted-lives}

module _ {T : Type 0} where
  pub item-some : (e : Option (ℕ × IndexNode T)) → IsSome (option_map itemed e)
      → IsSome (option_map (λ e. view_of e.1) e)
  item-some None h = absurd (cc)
  item-some (Some e) h = refl

  pub node_view-some : (e : Option (ℕ × IndexNode T)) → IsSome (option_map (λ e. view_of e.1) e)
      → IsSome (option_map itemed e)
  node_view-some None h = absurd (cc)
  node_view-some (Some e) h = refl

  -- what the tree counts has an entry
  pub counted_entry : (o : Ordered T) → IsOrdered o → (j : ℕ)
      → 0 < count j (tree_in o) → IsSome (entry_in o j)
  counted_entry o is j h =
      node_view-some (values_in o.chains j)
      (counted-lives (nodes_in o.chains) None (tree_in o) is.whole.stands.1 j h)

  -- an entry is counted
  pub entry_counted : (o : Ordered T) → IsOrdered o → (j : ℕ) → IsSome (entry_in o j)
      → 0 < count j (tree_in o)
  entry_counted o is j h = is.all j (item-some (values_in o.chains j) h)

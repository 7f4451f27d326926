-- A node by indexes, and by their numbers.
use Rattle.std.specs.Prelude.{ℕ}
use Rattle.std.specs.Option.{option_map}
use Rattle.rank_tree.specs.NodeView.{NodeView}
use Rattle.rank_tree.specs.declared.node_links.NodeLinks.{NodeLinks}

-- a node's links and rank, by numbers
abbrev pub named : {I : Type 0} → (I → ℕ) → NodeLinks I → NodeView
named number k = record {
  parent = option_map number k.parent;
  left = option_map number k.left;
  right = option_map number k.right;
  rank = k.rank;
}

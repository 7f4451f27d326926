-- The entries in the order of their indexes.
use Rattle.std.specs.Prelude.{ℕ, List, map}
use Rattle.triple_arena_chain.specs.Listed.{listed_values}
use Rattle.triple_arena_ord.specs.NodeShape.{IndexNode}
use Rattle.triple_arena_ord.specs.Node.{itemed}
use Rattle.triple_arena_ord.specs.Ordered.{Ordered}

module _ {T : Type 0} where
  -- a listed node with its item alone
  abbrev pub listed_item : ℕ × (ℕ × IndexNode T) → ℕ × (ℕ × T)
  listed_item listed = (listed.0, itemed listed.1)

  -- the index, generation and item of each entry, in the order of the indexes
  abbrev pub indexed : Ordered T → List (ℕ × (ℕ × T))
  indexed o = map listed_item (listed_values o.chains)

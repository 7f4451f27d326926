-- A node as contracts see it: the indexes of its neighbors are numbers.
use Rattle.std.specs.Prelude.{ℕ, Option}
use Rattle.triple_arena_ord.specs.declared.node.IndexNode.{IndexNode as NodeOf}

abbrev pub IndexNode : Type 0 → Type 0
IndexNode T = NodeOf (Option ℕ) T

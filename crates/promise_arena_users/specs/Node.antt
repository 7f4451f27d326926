-- What a contract sees of a node.
use Rattle.std.specs.Prelude.{ℕ, Option}

-- the index and the generation of the node below, and the value
pub record NodeView (T : Type 0) : Type 0 where
  pub below : Option (ℕ × ℕ)
  pub value : T

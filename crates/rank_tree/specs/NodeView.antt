-- A node without its item.
use Rattle.std.specs.Prelude.{ℕ, Option}

-- the parent, the left and the right child by index, and the rank
pub record NodeView : Type 0 where
  pub parent : Option ℕ
  pub left : Option ℕ
  pub right : Option ℕ
  pub rank : ℕ

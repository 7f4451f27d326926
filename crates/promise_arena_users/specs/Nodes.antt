-- What a contract sees of the nodes.
use Rattle.std.specs.Prelude.{ℕ, Option}
use Rattle.std.specs.Option.{option_map}
use Rattle.triple_arena.specs.Content.{Content, get}
use Rattle.promise_arena_users.specs.Node.{NodeView}

-- the nodes in their arena, and the pointer of the top one
pub record Nodes (T : Type 0) : Type 0 where
  pub arena : Content (NodeView T)
  pub top : Option (ℕ × ℕ)

module _ {T : Type 0} where
  -- the value of the node that a pointer finds
  abbrev pub value_at : Nodes T → ℕ → ℕ → Option T
  value_at n index g = option_map (λ node. node.value) (get n.arena index g)

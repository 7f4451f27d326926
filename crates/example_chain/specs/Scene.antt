-- What is seen of a scene.
use Rattle.std.specs.Prelude.{◌≡◌, ◌≢◌, ℕ, List, length, Option, Some, None, IsSome, slice_index_or}
use Rattle.std.specs.Option.{option_map}
use Rattle.triple_arena.specs.Content.{Content, entry_at, live_count, IsWellFormed}
use Rattle.triple_arena.specs.Entries.{value_if}

-- the nodes, and the pointer of each that was added, or none where it was removed
pub record State (P M : Type 0) : Type 0 where
  pub nodes : Content M
  pub pointers : List (Option P)

-- how many numbers were given: 0, 1, and so on
abbrev pub given : {P M : Type 0} → State P M → ℕ
given s = length s.pointers

-- each index of the pointers has a node
abbrev pub IsFull : {P M : Type 0} → State P M → Type 0
IsFull s = s.nodes.room.limit ≡ Some (live_count s.nodes)

module _ {P M N : Type 0} (index generation : P → ℕ) (node : M → N) where
  -- the node that a pointer finds, if there is one
  abbrev pub found : Content M → Option P → Option N
  found nodes None = None
  found nodes (Some p) = option_map node (value_if (generation p) (entry_at nodes (index p)))

  -- the node that a number names
  abbrev pub node_at : State P M → ℕ → Option N
  node_at s number = found s.nodes (slice_index_or s.pointers number None)

module _ {P M : Type 0} (index generation : P → ℕ) where
  -- each pointer finds a node, and no two of them the same
  pub record IsScene (s : State P M) : Type 0 where
    pub formed : IsWellFormed s.nodes
    pub live : (k : ℕ) (p : P) → slice_index_or s.pointers k None ≡ Some p
        → IsSome (value_if (generation p) (entry_at s.nodes (index p)))
    pub apart : (k l : ℕ) (p q : P) → slice_index_or s.pointers k None ≡ Some p
        → slice_index_or s.pointers l None ≡ Some q → k ≢ l → index p ≢ index q

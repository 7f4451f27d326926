-- The nodes in the links of a chain arena.
use Rattle.std.specs.Prelude.{ℕ, map, Option, Some}
use Rattle.std.specs.Option.{option_map}
use Rattle.triple_arena.specs.Content.{Content, entry_at}
use Rattle.triple_arena_chain.specs.LinkShape.{IndexLink}
use Rattle.triple_arena_chain.specs.Links.{values_in}
use Rattle.rank_tree.specs.declared.side.Side.{Side}
use Rattle.rank_tree.specs.declared.side.Side.TheVariants.{Left, Right}
use Rattle.triple_arena_ord.specs.NodeShape.{IndexNode}
use Rattle.rank_tree.specs.NodeView.{NodeView}
use Rattle.rank_tree.specs.Store.{Store}

abbrev pub view_of : {T : Type 0} → IndexNode T → NodeView
view_of node = record {
  parent = node.p_back;
  left = node.p_tree0;
  right = node.p_tree1;
  rank = node.rank;
}

-- the nodes of these entries, as the tree sees them
abbrev pub nodes_among : {T : Type 0} → (ℕ → Option (ℕ × IndexNode T)) → Store
nodes_among entry i = option_map (λ e. view_of e.1) (entry i)

-- the node at each index
abbrev pub nodes_in : {T : Type 0} → Content (IndexLink (IndexNode T)) → Store
nodes_in c = nodes_among (values_in c)

-- the neighbors of one more link directly before or after another
abbrev pub prev_for : {T : Type 0} → Side → IndexLink (IndexNode T) → ℕ → Option ℕ
prev_for Left l h = l.prev
prev_for Right l h = Some h

abbrev pub next_for : {T : Type 0} → Side → IndexLink (IndexNode T) → ℕ → Option ℕ
next_for Left l h = Some h
next_for Right l h = l.next

-- the neighbors of one more link directly before or after that at an index, if it is live
abbrev pub prev_beside : {T : Type 0} → Side → Content (IndexLink (IndexNode T)) → ℕ
    → Option (Option ℕ)
prev_beside side c h = option_map (λ e. prev_for side e.1 h) (entry_at c h)

abbrev pub next_beside : {T : Type 0} → Side → Content (IndexLink (IndexNode T)) → ℕ
    → Option (Option ℕ)
next_beside side c h = option_map (λ e. next_for side e.1 h) (entry_at c h)

module _ {T : Type 0} where
  -- an entry with its item alone
  abbrev pub itemed : ℕ × IndexNode T → ℕ × T
  itemed entry = (entry.0, entry.1.t)

  -- the items of these entries
  abbrev pub items_among : (ℕ → Option (ℕ × IndexNode T)) → ℕ → Option (ℕ × T)
  items_among entry i = option_map itemed (entry i)

  -- the generation and the item at each index
  abbrev pub items_in : Content (IndexLink (IndexNode T)) → ℕ → Option (ℕ × T)
  items_in c = items_among (values_in c)

  abbrev pub bare : ℕ × IndexLink (IndexNode T) → ℕ × IndexLink T
  bare entry = (entry.0, record { prev = entry.1.prev; next = entry.1.next; t = entry.1.t.t })

  -- all but the nodes
  unfoldable pub rest : Content (IndexLink (IndexNode T)) → Content (IndexLink T)
  rest c = record {
    slots = map (option_map bare) c.slots;
    counter = c.counter;
    free = c.free;
    room = c.room;
  }

-- What a contract sees of a `SimpleOrdArena`.
use Rattle.std.specs.Prelude.{◌≡◌, ◌==◌, if◌then◌else◌, ℕ, ◌<◌, List, ◌∷◌, ◌++◌, length, Option}
use Rattle.std.specs.Prelude.{◌≢◌, Some, None, IsSome}
use Rattle.std.specs.List.{AllByRecursion}
use Rattle.std.specs.Option.{option_map}
use Rattle.std.specs.declared.cmp.Ordering.{Ordering}
use Rattle.std.specs.declared.cmp.Ordering.TheVariants.{Less, Equal, Greater}
use Rattle.triple_arena_stack.specs.Room.{Room}
use Rattle.triple_arena.specs.Content.{Content, live_count, some_counter}
use Rattle.linked_lists.specs.LinkedLists.{IsLinear}
use Rattle.triple_arena_chain.specs.Links.{ends_in}
use Rattle.triple_arena_chain.specs.LinkShape.{IndexLink}
use Rattle.rank_tree.specs.declared.side.Side.{Side}
use Rattle.rank_tree.specs.declared.side.Side.TheVariants.{Left, Right}
use Rattle.triple_arena_ord.specs.NodeShape.{IndexNode}
use Rattle.triple_arena_ord.specs.Node.{nodes_in, items_in}
use Rattle.triple_arena_ord.specs.Ascending.{entries_along, AscendsAlong}
use Rattle.rank_tree.specs.Tree.{Tree, walk}
use Rattle.rank_tree.specs.Search.{asked_down}
use Rattle.rank_tree.specs.Shape.{count}
use Rattle.rank_tree.specs.Whole.{tree_of, IsWhole}

-- the list with one more index directly before or after another
abbrev pub beside : Side → List ℕ → ℕ → ℕ → List ℕ → List ℕ
beside Left before h n after = before ++ n ∷ h ∷ after
beside Right before h n after = before ++ h ∷ n ∷ after

-- one more index stands directly before or after another
pub record StandsBeside (side : Side) (old new : List ℕ) (h n : ℕ) : Type 0 where
  pub before : List ℕ
  pub after : List ℕ
  pub was : old ≡ before ++ h ∷ after
  pub is : new ≡ beside side before h n after

-- an end of the list after one more index stands beside another
abbrev pub new_end : Option ℕ → ℕ → ℕ → Option ℕ
new_end None h n = None
new_end (Some i) h n = if i == h then Some n else Some i

-- the end of the list at the second side, after one more index stands at the first side of another
abbrev pub end_after : Side → Side → Option ℕ → ℕ → ℕ → Option ℕ
end_after Left Left o h n = new_end o h n
end_after Right Right o h n = new_end o h n
end_after Left Right o h n = o
end_after Right Left o h n = o

-- the links with their nodes, and the root of the tree
pub record Ordered (T : Type 0) : Type 0 where
  pub chains : Content (IndexLink (IndexNode T))
  pub root : Option ℕ

-- these links with their nodes, and the number of this root
abbrev pub ordered_by : {I T : Type 0} → (I → ℕ) → Content (IndexLink (IndexNode T)) → Option I
    → Ordered T
ordered_by number chains root = record { chains = chains; root = option_map number root }

-- how a key compares with that of an entry
abbrev pub asked_of : {K T : Type 0} → (K → K → Ordering) → (T → K) → K → Option (ℕ × T) → Ordering
asked_of cmp key k None = Equal
asked_of cmp key k (Some e) = cmp k (key e.1)

module _ {T : Type 0} where
  -- the generation and the item at each index
  abbrev pub entry_in : Ordered T → ℕ → Option (ℕ × T)
  entry_in o = items_in o.chains

  -- how a key compares with that of the entry at an index
  abbrev pub asked_at : {K : Type 0} → (K → K → Ordering) → (T → K) → K → Ordered T → ℕ → Ordering
  asked_at cmp key k o i = asked_of cmp key k (entry_in o i)

  -- the entries at these indexes, each beside its index
  abbrev pub entries_at : Ordered T → List ℕ → List (ℕ × (ℕ × T))
  entries_at o w = entries_along (entry_in o) w

  -- how many entries
  abbrev pub size_in : Ordered T → ℕ
  size_in o = live_count o.chains

  -- the generation of the next entry, which each ordered arena has
  abbrev pub counter_in : Ordered T → Option ℕ
  counter_in o = some_counter o.chains

  -- the reserved slots and the greatest capacity
  abbrev pub room_in : Ordered T → Room
  room_in o = o.chains.room

module _ {T : Type 0} where
  -- the tree of the nodes
  abbrev pub tree_in : Ordered T → Tree
  tree_in o = tree_of (nodes_in o.chains) o.root

  -- the indexes in order
  abbrev pub order_in : Ordered T → List ℕ
  order_in o = walk (tree_in o)

  -- the index, generation and item of each entry, in order
  abbrev pub ordered_entries : Ordered T → List (ℕ × (ℕ × T))
  ordered_entries o = entries_at o (order_in o)

  -- the tree keeps the rank rules and has each live index once; its walk is the one chain
  pub record IsOrdered (o : Ordered T) : Type 0 where
    pub whole : IsWhole (nodes_in o.chains) o.root
    pub linear : IsLinear (ends_in o.chains) (order_in o)
    pub all : (i : ℕ) → IsSome (nodes_in o.chains i) → 0 < count i (tree_in o)
    pub counted : length (order_in o) ≡ live_count o.chains

  module _ {K : Type 0} (cmp : K → K → Ordering) (key : T → K) where
    -- no key is greater than the next one
    abbrev pub IsAscending : Ordered T → Type 0
    IsAscending o = AscendsAlong cmp key (entry_in o) (order_in o)

    -- if the keys ascended, they still do
    abbrev pub StaysAscending : (old new : Ordered T) → Type 0
    StaysAscending old new = IsAscending old → IsAscending new

    -- how often a search for a key from the root compares
    abbrev pub comparisons : K → Ordered T → ℕ
    comparisons k o = asked_down (asked_at cmp key k o) (tree_in o)

    -- no entry at these indexes has a key that is greater than this one
    abbrev pub NoneGreater : K → Ordered T → List ℕ → Type 0
    NoneGreater k o w = AllByRecursion (λ i. asked_at cmp key k o i ≢ Less) w

    -- no entry at these indexes has a key that is less than this one
    abbrev pub NoneLess : K → Ordered T → List ℕ → Type 0
    NoneLess k o w = AllByRecursion (λ i. asked_at cmp key k o i ≢ Greater) w

  -- each index has an entry with the key that it had, or still none
  abbrev pub SameKeys : {K : Type 0} → (T → K) → (old new : Ordered T) → Type 0
  SameKeys key old new = (i : ℕ) → option_map (λ e. key e.1) (entry_in new i)
      ≡ option_map (λ e. key e.1) (entry_in old i)

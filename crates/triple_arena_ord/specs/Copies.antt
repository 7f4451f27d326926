-- Copies of an ordered arena: the entries, the list and the tree of another one.
use Rattle.std.specs.Prelude.{◌≡◌, ℕ, Bool, List, map, Option}
use Rattle.triple_arena.specs.Content.{Content, live_count, some_counter, reallocated}
use Rattle.triple_arena.specs.Copy.{last_listed, copied, IsCopy, IsUnmadeCopy}
use Rattle.triple_arena.specs.LiveEntries.{live_entries}
use Rattle.linked_lists.specs.LinkedLists.{Ends}
use Rattle.triple_arena_chain.specs.LinkShape.{IndexLink}
use Rattle.triple_arena_chain.specs.Links.{ends_in, values_in}
use Rattle.triple_arena_chain.specs.Values.{room_in}
use Rattle.triple_arena_ord.specs.NodeShape.{IndexNode}
use Rattle.triple_arena_ord.specs.Node.{nodes_in}
use Rattle.triple_arena_ord.specs.Ordered.{Ordered, order_in, entry_in, size_in, counter_in}
use Rattle.triple_arena_ord.specs.Ordered.{room_in as ordered_room}
use Rattle.triple_arena_ord.specs.States.{cleared_in}

-- listed links with their items alone
abbrev pub listed_items : {L T : Type 0} → (L → T) → List (ℕ × (ℕ × L)) → List (ℕ × (ℕ × T))
listed_items item links = map (λ e. (e.0, (e.1.0, item e.1.1))) links

module _ {T : Type 0} where
  -- the last live index, or 0 where there is none
  abbrev pub last_inx : Ordered T → ℕ
  last_inx o = last_listed (live_entries o.chains)

  -- the entries, the counter and the tree of another arena in place of these, with room for its
  -- last index
  abbrev pub copied_into : Content (IndexLink (IndexNode T)) → Ordered T → Ordered T
  copied_into c source = record {
    chains = copied c (counter_in source) (live_entries source.chains);
    root = source.root;
  }

  -- with at least this capacity, no entry, and the next counter
  abbrev pub emptied_to : Option ℕ → ℕ → Ordered T → Ordered T
  emptied_to last least o = cleared_in last (record o { chains = reallocated o.chains least })

  -- why a copy to an ordered arena was not made, and what it left: the arena as it was, or one that
  -- was grown to the last index of the source and cleared
  abbrev pub IsUnmade : Bool → Option ℕ → ℕ → Type 0 → (old new : Ordered T) → Type 0
  IsUnmade takes_memory last_generation last refused old new =
      IsUnmadeCopy entry_in size_in counter_in ordered_room takes_memory last_generation last
      (emptied_to last_generation last) refused old new

module _ {T : Type 0} where
  -- links became a clone of a source: the root is the same, and each index has the same entry and
  -- the same node
  pub record IsClone (c : Content (IndexLink (IndexNode T))) (source new : Ordered T)
      : Type 0 where
    pub exact : new ≡ copied_into c source
    pub entries : (k : ℕ) → entry_in new k ≡ entry_in source k
    pub nodes : (k : ℕ) → nodes_in new.chains k ≡ nodes_in source.chains k
    pub order : order_in new ≡ order_in source

module _ {L U : Type 0} where
  -- links with the pointers, the interlinks and the counter of a source, where the smallest free
  -- index is the next one to be taken
  pub record IsChainCopy (source : ℕ → Option (ℕ × L)) (live last : ℕ) (counter : Option ℕ)
      (ends : ℕ → Option Ends) (old new : Content (IndexLink U)) : Type 0 where
    pub exact : new ≡ copied old counter (live_entries new)
    pub same_ends : (k : ℕ) → ends_in new k ≡ ends k
    pub copy : IsCopy values_in live_count some_counter room_in source live last counter old new

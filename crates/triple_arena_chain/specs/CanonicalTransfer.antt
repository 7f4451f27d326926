-- A canonical transfer: each chain at successive indexes, in the order of the least indexes that
-- the chains had.
use Rattle.std.specs.Prelude.{◌≡◌, ℕ, ◌<◌, ◌⊎◌, List, [], ◌∷◌, Option, Some, None, map, length}
use Rattle.std.specs.List.{range_with_len}
use Rattle.triple_arena_ptr.specs.declared.invalidation.InvalidationOption.{InvalidationOption}
use Rattle.triple_arena_stack.specs.Room.{Room}
use Rattle.triple_arena.specs.Content.{Content, live_count, some_counter}
use Rattle.triple_arena.specs.Transfer.{IsTransferred, IsFilled}
use Rattle.triple_arena_chain.specs.LinkShape.{IndexLink}
use Rattle.linked_lists.specs.LinkedLists.{Ends, On}
use Rattle.triple_arena_chain.specs.IterChains.{links_along}
use Rattle.triple_arena_chain.specs.Links.{ends_in, values_in, with_prev_of}
use Rattle.triple_arena_chain.specs.Listed.{listed_values}
use Rattle.triple_arena_chain.specs.Values.{room_in}
use Rattle.linked_lists.specs.Chains.{Chain, members, all_members, AreChains}
use Rattle.triple_arena_chain.specs.Renaming.{FollowsRenaming}

-- each chain has an index below all those of the chains behind it
abbrev pub AreRising : List Chain → Type 0
AreRising [] = Unit {0}
AreRising (c ∷ cs) = ((least : ℕ) × On (members c) least
    × ((k : ℕ) → On (all_members cs) k → least < k)) × AreRising cs

-- these are the chains of the interlinks, in the order of their least indexes
pub record AreInOrder (ends : ℕ → Option Ends) (cs : List Chain) : Type 0 where
  pub are : AreChains ends cs
  pub rising : AreRising cs

module _ {U T : Type 0} where
  -- chain after chain was moved, with the values in this order, to the indexes from 1 on, and no
  -- index is free
  pub record IsMovedAlong (order : List (ℕ × (ℕ × U))) (old : Content (IndexLink U))
      (new : Content (IndexLink T)) : Type 0 where
    pub chains : List Chain
    pub in_order : AreInOrder (ends_in old) chains
    pub along : order ≡ links_along (values_in old) (all_members chains)
    pub to : ℕ → ℕ
    pub runs : map to (all_members chains) ≡ range_with_len 1 (live_count old)
    pub renamed : FollowsRenaming to (ends_in old) (ends_in new)
    pub slots : length new.slots ≡ live_count old
    pub free : new.free ≡ []

module _ {T : Type 0} where
  -- a chain that is moved has no next link, and nothing is written; or its next link is its start,
  -- and the first link that was placed names the last one as its previous one
  abbrev pub ClosesChain : (next : Option ℕ) → (start first last : ℕ)
      → (old new : Content (IndexLink T)) → Type 0
  ClosesChain next start first last old new = ((next ≡ None) × (new ≡ old))
      ⊎ ((next ≡ Some start) × (new ≡ with_prev_of old (Some first) (Some last)))

  -- so many links at the indexes from 1 on, each with this generation, which the counter has too,
  -- in this room
  abbrev pub IsFilledWithLinks : ℕ → ℕ → Room → (old new : Content (IndexLink T)) → Type 0
  IsFilledWithLinks n g room old new
      = IsFilled values_in live_count some_counter room_in listed_values n g room old new

module _ {Q U P T F : Type 0} (old_index old_generation : Q → ℕ) (index generation : P → ℕ)
    (step : F → Q → InvalidationOption U → P → T → F → Type 0) where
  -- a map was called once at each link, chain after chain, and what it gave stands in chains as
  -- before
  pub record IsMovedInOrder (f : F) (last : Option ℕ) (old : Content (IndexLink U))
      (new : Content (IndexLink T)) : Type 0 where
    pub order : List (ℕ × (ℕ × U))
    pub laid : IsMovedAlong order old new
    pub moved : IsTransferred old_index old_generation index generation step f last
        (some_counter old) order (listed_values new)

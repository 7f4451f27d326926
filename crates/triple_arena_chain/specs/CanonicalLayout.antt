-- The canonical layout: each chain is one run of successive indexes.
use Rattle.std.specs.Prelude.{◌≡◌, ℕ, ◌≤◌, ◌==◌, ◌⊎◌, Bool, List, [], ◌∷◌, Option, Some, None}
use Rattle.std.specs.Prelude.{IsSome, length, if◌then◌else◌}
use Rattle.std.specs.List.{range_with_len}
use Rattle.std.specs.Option.{option_map}
use Rattle.triple_arena.specs.Compression.{renewed}
use Rattle.triple_arena.specs.Content.{Content, live_count}
use Rattle.triple_arena_chain.specs.LinkShape.{IndexLink}
use Rattle.linked_lists.specs.LinkedLists.{Ends, next_at, prev_at, IsAgreed, IsRing}
use Rattle.triple_arena_chain.specs.Links.{ends_in, values_in, IsKept, IsChained}
use Rattle.linked_lists.specs.Chains.{Chain, all_members, AreAllChainsOf, AreChains}
use Rattle.triple_arena_chain.specs.Renaming.{ends_renamed, FollowsRenaming}

-- the chains, one after another, are the indexes from 1 to n
pub record IsLaidOut (ends : ℕ → Option Ends) (n : ℕ) : Type 0 where
  pub chains : List Chain
  pub are : AreChains ends chains
  pub runs : all_members chains ≡ range_with_len 1 n

-- an index has no previous one, or is on a ring
abbrev pub IsHead : (ℕ → Option Ends) → ℕ → Type 0
IsHead ends i = (prev_at ends i ≡ None) ⊎ ((after : List ℕ) × IsRing ends (i ∷ after))

-- no chain has indexes up to this one and indexes past it
pub record IsClosed (ends : ℕ → Option Ends) (low : ℕ) : Type 0 where
  pub on : (p q : ℕ) → next_at ends p ≡ Some q → p ≤ low → q ≤ low
  pub back : (p q : ℕ) → next_at ends p ≡ Some q → q ≤ low → p ≤ low

-- an index after two have changed places
abbrev pub swapped_index : ℕ → ℕ → ℕ → ℕ
swapped_index i j k = if k == i then j else if k == j then i else k

-- the interlinks under other names, where a renaming done twice is none
abbrev pub under : (ℕ → ℕ) → (ℕ → Option Ends) → ℕ → Option Ends
under name ends k = option_map (ends_renamed name) (ends (name k))

-- the live indexes have other names, and their interlinks and chains follow
pub record IsRearranged (to : ℕ → ℕ) (old new : ℕ → Option Ends) : Type 0 where
  pub renamed : FollowsRenaming to old new
  pub live : (i : ℕ) → IsSome (new i) → IsSome (old i)
  pub agreed : IsAgreed new

-- whole chains stand at the indexes up to `placed`
pub record AreGathered (placed : ℕ) (to : ℕ → ℕ) (old now : ℕ → Option Ends) : Type 0 where
  pub moved : IsRearranged to old now
  pub chains : List Chain
  pub are : AreAllChainsOf now chains
  pub runs : all_members chains ≡ range_with_len 1 placed
  pub closed : IsClosed now placed
  pub stays : (n : ℕ) → IsLaidOut old n → (i : ℕ) → to i ≡ i

module _ {T : Type 0} where
  -- each link has the counter as its generation
  abbrev pub IsAlike : Content (IndexLink T) → Type 0
  IsAlike c = (k : ℕ) (e : ℕ × T) → values_in c k ≡ Some e → e.0 ≡ c.counter

module _ {T : Type 0} where
  -- the links stand at other indexes, each with its chain and its value; the same indexes are live
  pub record AreMoved (to : ℕ → ℕ) (old new : Content (IndexLink T)) : Type 0 where
    pub renamed : FollowsRenaming to (ends_in old) (ends_in new)
    pub values : (i : ℕ) → IsSome (ends_in old i) → values_in new (to i) ≡ values_in old i
    pub live : (i : ℕ) → IsSome (ends_in new i) → IsSome (ends_in old i)
    pub kept : IsKept old new
    pub chained : IsChained new

  -- all chains are runs from index 1 on
  pub record IsAllGathered (old new : Content (IndexLink T)) : Type 0 where
    pub to : ℕ → ℕ
    pub moved : AreMoved to old new
    pub laid_out : IsLaidOut (ends_in new) (length old.slots)
    pub stays : (n : ℕ) → IsLaidOut (ends_in old) n → (i : ℕ) → to i ≡ i

  -- each chain is one run of the indexes from 1 on, with its values and with the generation
  -- renewed; no index is free. Where that was so before, no index changes
  pub record IsCanonical (last : Option ℕ) (reset : Bool) (old new : Content (IndexLink T))
      : Type 0 where
    pub to : ℕ → ℕ
    pub renamed : FollowsRenaming to (ends_in old) (ends_in new)
    pub values : (i : ℕ) → IsSome (ends_in old i)
        → values_in new (to i) ≡ option_map (λ e. (renewed last reset old.counter, e.1))
        (values_in old i)
    pub laid_out : IsLaidOut (ends_in new) (live_count old)
    pub stays : IsLaidOut (ends_in old) (live_count old) → (i : ℕ)
        → IsSome (ends_in old i) → to i ≡ i
    pub live : live_count new ≡ live_count old
    pub slots : length new.slots ≡ live_count old
    pub free : new.free ≡ []
    pub counter : new.counter ≡ renewed last reset old.counter
    pub room : new.room ≡ old.room

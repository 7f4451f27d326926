-- Indexes that are renamed, with the interlinks and the chains, and the renaming of the live
-- indexes to the first ones, in the order that they have.
use Rattle.std.specs.Prelude.{◌≡◌, ℕ, zero, suc, ◌+◌, List, map, slice_get, Bool, Option, Some}
use Rattle.std.specs.Prelude.{None, length, is_some, IsSome, if◌then◌else◌, []}
use Rattle.std.specs.Option.{option_map}
use Rattle.triple_arena.specs.Compression.{renewed}
use Rattle.triple_arena.specs.Content.{Content, live_count}
use Rattle.triple_arena_chain.specs.LinkShape.{IndexLink}
use Rattle.linked_lists.specs.LinkedLists.{Ends, prev_at}
use Rattle.triple_arena_chain.specs.Links.{ends_in, values_in}
use Rattle.linked_lists.specs.Chains.{Chain, Linear, Cyclic, IsChainOf}

module _ {A : Type 0} where
  -- how many indexes below this one are live
  abbrev pub live_below : (ℕ → Option A) → ℕ → ℕ
  live_below at zero = 0
  live_below at (suc i) = live_below at i + (if is_some (at i) then 1 else 0)

  -- the index that a live one gets where the live ones go to the indexes from 1 on, in their order
  abbrev pub new_index : (ℕ → Option A) → ℕ → ℕ
  new_index at i = live_below at i + 1

-- a chain under the new indexes
abbrev pub renamed : (ℕ → ℕ) → Chain → Chain
renamed to (Linear xs) = Linear (map to xs)
renamed to (Cyclic xs) = Cyclic (map to xs)

-- two neighbors under the new indexes
abbrev pub ends_renamed : (ℕ → ℕ) → Ends → Ends
ends_renamed to v = (option_map to v.0, option_map to v.1)

-- each live index has another name, one of its own, and the interlinks and the chains follow
pub record FollowsRenaming (to : ℕ → ℕ) (old new : ℕ → Option Ends) : Type 0 where
  pub ends : (i : ℕ) → IsSome (old i) → new (to i) ≡ option_map (ends_renamed to) (old i)
  pub apart : (i j : ℕ) → IsSome (old i) → IsSome (old j) → to i ≡ to j → i ≡ j
  pub onto : (k : ℕ) → IsSome (new k) → (i : ℕ) × IsSome (old i) × (to i ≡ k)
  pub lists : (c : Chain) → IsChainOf old c → IsChainOf new (renamed to c)

-- the interlinks where each live index has, as its previous one, the index that it gets
abbrev pub numbered : (ℕ → Option Ends) → ℕ → Option Ends
numbered ends i = option_map (λ v. (Some (new_index ends i), v.1)) (ends i)

-- the previous one of an index, if there is an index
abbrev pub prev_of : (ℕ → Option Ends) → Option ℕ → Option ℕ
prev_of ends None = None
prev_of ends (Some i) = prev_at ends i

-- the interlinks where each next is what the index that it names has as its previous one
abbrev pub forwarded : (ℕ → Option Ends) → ℕ → Option Ends
forwarded ends i = option_map (λ v. (v.0, prev_of ends v.1)) (ends i)

module _ {T : Type 0} where
  -- a listed link that has the next of another one, and no previous one
  abbrev pub IsLeftWithNext : ℕ × (ℕ × IndexLink T) → ℕ × (ℕ × IndexLink T) → Type 0
  IsLeftWithNext old new = (new.1.1.prev ≡ None) × (new.1.1.next ≡ old.1.1.next)

  -- a listed link that has the neighbors of another one
  abbrev pub IsLeftInPlace : ℕ × (ℕ × IndexLink T) → ℕ × (ℕ × IndexLink T) → Type 0
  IsLeftInPlace old new = (new.1.1.prev ≡ old.1.1.prev) × (new.1.1.next ≡ old.1.1.next)

module _ {T : Type 0} where
  -- the links stand at the indexes from 1 on, in the order that they had, with these values and
  -- with the generation renewed; the interlinks follow them, and no index is free
  pub record IsCompacted (last : Option ℕ) (reset : Bool) (given : List T)
      (old new : Content (IndexLink T)) : Type 0 where
    pub renamed : FollowsRenaming (new_index (ends_in old)) (ends_in old)
        (ends_in new)
    pub values : (k : ℕ) → values_in new (k + 1)
        ≡ option_map (λ t. (renewed last reset old.counter, t)) (slice_get given k)
    pub slots : length new.slots ≡ live_count old
    pub free : new.free ≡ []
    pub counter : new.counter ≡ renewed last reset old.counter
    pub room : new.room ≡ old.room

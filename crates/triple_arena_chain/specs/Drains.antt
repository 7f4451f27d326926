-- What a drain of a chain gives, and what it leaves.
use Rattle.std.specs.Prelude.{◌≡◌, ℕ, ◌+◌, ◌==◌, List, [], ◌∷◌, ◌++◌, length, map, Option, Some}
use Rattle.std.specs.Prelude.{None, if◌then◌else◌}
use Rattle.std.specs.Borrow.{GName}
use Rattle.std.specs.Fn.{iterate}
use Rattle.std.specs.Iterator.{Yields}
use Rattle.std.specs.Option.{option_map, option_or}
use Rattle.triple_arena_ptr.specs.Generation.{next_generation, next_wraps}
use Rattle.triple_arena_ptr.specs.InvalidationOption.{value_of, overflowed}
use Rattle.triple_arena_ptr.specs.declared.invalidation.InvalidationOption.{InvalidationOption}
use Rattle.triple_arena.specs.Content.{Content, entry_at, live_count, removed}
use Rattle.triple_arena.specs.Entries.{without}
use Rattle.triple_arena_chain.specs.LinkShape.{IndexLink}
use Rattle.linked_lists.specs.LinkedLists.{Ends, Off, On, dropped}
use Rattle.triple_arena_chain.specs.Links.{ends_in, values_in, IsTakenOut}
use Rattle.linked_lists.specs.Chains.{Chain, members, IsChainOf}
use Rattle.triple_arena_chain.specs.Walks.{IsWalkFrom}
use Rattle.triple_arena_chain.specs.declared.chain_arena.drain.ChainDrain.{ChainDrain}

-- the walk from an index, if there is one to start at
abbrev pub IsWalk : (ℕ → Option Ends) → Option ℕ → List ℕ → Type 0
IsWalk ends None walk = walk ≡ []
IsWalk ends (Some i) walk = IsWalkFrom ends i walk

-- the interlinks without these indexes
abbrev pub dropped_all : (ℕ → Option Ends) → List ℕ → ℕ → Option Ends
dropped_all ends [] = ends
dropped_all ends (i ∷ is) = dropped (dropped_all ends is) i

-- the links of this walk are gone
pub record IsChainGone (walk : List ℕ) (old new : ℕ → Option Ends) : Type 0 where
  -- no chain has one of them
  pub gone : (c : Chain) (k : ℕ) → IsChainOf new c → On walk k → Off (members c) k
  -- each chain that had none of them is as it was
  pub others : (c : Chain) → IsChainOf old c → ((k : ℕ) → On (members c) k → Off walk k)
      → IsChainOf new c

-- an index, but not this one
abbrev pub but_not : ℕ → Option ℕ → Option ℕ
but_not i None = None
but_not i (Some j) = if j == i then None else Some j

-- where a walk goes from an index with these neighbors, once it was taken out: to its next, or else
-- to its previous one
abbrev pub next_or_prev : ℕ → Ends → Option ℕ
next_or_prev i own = but_not i (option_or own.1 own.0)

module _ {T : Type 0} where
  -- the values without those at these indexes
  abbrev pub without_all : (ℕ → Option (ℕ × T)) → List ℕ → ℕ → Option (ℕ × T)
  without_all entries [] = entries
  without_all entries (i ∷ is) = without (without_all entries is) i

  -- the content after the entries at these indexes were removed in turn
  abbrev pub removed_all : Option ℕ → Content T → List ℕ → Content T
  removed_all last c [] = c
  removed_all last c (i ∷ is) = removed_all last (removed last c i) is

module _ {T : Type 0} (last : Option ℕ) where
  -- the links at these indexes are gone, each by a removal in turn; all others stay with their
  -- interlinks
  pub record IsDrained (walk : List ℕ) (old new : Content (IndexLink T)) : Type 0 where
    pub ends : (k : ℕ) → ends_in new k ≡ dropped_all (ends_in old) walk k
    pub lists : IsChainGone walk (ends_in old) (ends_in new)
    pub values : (k : ℕ) → values_in new k ≡ without_all (values_in old) walk k
    pub live : live_count new + length walk ≡ live_count old
    pub counter : new.counter ≡ iterate (next_generation last) (length walk) old.counter
    pub free : new.free ≡ (removed_all last old walk).free
    pub slots : length new.slots ≡ length (removed_all last old walk).slots
    pub room : new.room ≡ old.room

  -- the links of the walk from this index, if there is one to start at, are gone
  abbrev pub IsRestDrained : Option ℕ → Content (IndexLink T) → Content (IndexLink T) → Type 0
  IsRestDrained at old new = (walk : List ℕ) → IsWalk (ends_in old) at walk
      → IsDrained walk old new

module _ {P T : Type 0} (last : Option ℕ) (index generation : P → ℕ) where
  -- an item is the removal of the link at this index, and whether its step started the generations
  -- again; the walk that began there goes on from the next one
  pub record IsStep (i : ℕ) (item : InvalidationOption (P × IndexLink T)) (next : Option ℕ)
      (old new : Content (IndexLink T)) : Type 0 where
    pub index_is : index (value_of item).0 ≡ i
    pub entry : Some (generation (value_of item).0, (value_of item).1) ≡ entry_at old i
    pub overflow : overflowed item ≡ next_wraps last old.counter
    pub taken : IsTakenOut last i old new
    pub goes_on : (walk : List ℕ) → IsWalk (ends_in old) (Some i) walk → (rest : List ℕ)
        × (walk ≡ i ∷ rest) × IsWalk (ends_in new) next rest
    pub leaves : (left : Content (IndexLink T)) → IsRestDrained last next new left
        → IsRestDrained last (Some i) old left

module _ {P T : Type 0} (index : P → ℕ) where
  -- the indexes of these items
  abbrev pub indexes_of : List (InvalidationOption (P × IndexLink T)) → List ℕ
  indexes_of items = map
      (λ (item : InvalidationOption (P × IndexLink T)). index (value_of item).0) items

module _ {P T S Inx Gen Word Alloc : Type 0} where
  -- the links as the drain has them
  abbrev pub drain_chains : ChainDrain P T S Inx Gen Word Alloc → Content (IndexLink T)
  drain_chains d = d.chains.now

  -- the ghost name of the reference to the links
  abbrev pub drain_lender : ChainDrain P T S Inx Gen Word Alloc → GName
  drain_lender d = d.chains.ghost_name

  module _ (number : Inx → ℕ) where
    -- the index that goes next
    abbrev pub drain_at : ChainDrain P T S Inx Gen Word Alloc → Option ℕ
    drain_at d = option_map number d.at

    -- these indexes are still to come
    abbrev pub IsLeft : ChainDrain P T S Inx Gen Word Alloc → List ℕ → Type 0
    IsLeft d walk = IsWalk (ends_in (drain_chains d)) (drain_at d) walk

    -- what is still to come is a walk
    abbrev pub DrainCanStep : ChainDrain P T S Inx Gen Word Alloc → Type 0
    DrainCanStep d = (walk : List ℕ) × IsLeft d walk

    module _ (last : Option ℕ) where
      -- what the drain leaves once it is dropped: the links that are still to come are gone
      abbrev pub DrainLeaves : ChainDrain P T S Inx Gen Word Alloc
          → Content (IndexLink T) → Type 0
      DrainLeaves d left = IsRestDrained last (drain_at d) (drain_chains d) left

      -- both borrow the same arena, and what the later one leaves the earlier one leaves
      abbrev pub DrainKeeps : ChainDrain P T S Inx Gen Word Alloc
          → ChainDrain P T S Inx Gen Word Alloc → Type 0
      DrainKeeps old new = (drain_lender new ≡ drain_lender old)
          × ((left : Content (IndexLink T)) → DrainLeaves new left → DrainLeaves old left)

      module _ (index generation : P → ℕ) where
        -- the first removal of those that are still to come, or nothing where there is none
        abbrev pub DrainGives : ChainDrain P T S Inx Gen Word Alloc
            → Option (InvalidationOption (P × IndexLink T))
            → ChainDrain P T S Inx Gen Word Alloc → Type 0
        DrainGives old None new = (drain_at old ≡ None) × (drain_chains new ≡ drain_chains old)
        DrainGives old (Some item) new = (i : ℕ) × (drain_at old ≡ Some i)
            × IsStep last index generation i item (drain_at new) (drain_chains old)
            (drain_chains new)

        abbrev pub DrainSteps : ChainDrain P T S Inx Gen Word Alloc
            → Option (InvalidationOption (P × IndexLink T))
            → ChainDrain P T S Inx Gen Word Alloc → Type 0
        DrainSteps old item new = DrainGives old item new × DrainKeeps old new × DrainCanStep new

        -- each state that steps lead to keeps what the first one keeps
        abbrev pub DrainKeepsAlong : ChainDrain P T S Inx Gen Word Alloc → Type 0
        DrainKeepsAlong first = (items : List (InvalidationOption (P × IndexLink T)))
            (later : ChainDrain P T S Inx Gen Word Alloc)
            → Yields DrainSteps first items later → DrainKeeps first later

        -- the items are the walk in order: what is left at each state that steps lead to follows
        -- them
        abbrev pub DrainGoesAlong : ChainDrain P T S Inx Gen Word Alloc → Type 0
        DrainGoesAlong first = (items : List (InvalidationOption (P × IndexLink T)))
            (later : ChainDrain P T S Inx Gen Word Alloc)
            → Yields DrainSteps first items later → (walk : List ℕ) → IsLeft first walk
            → (rest : List ℕ) × (walk ≡ indexes_of index items ++ rest) × IsLeft later rest

-- What a drain along the list gives, and what it leaves.
use Rattle.std.specs.Prelude.{◌≡◌, ℕ, suc, Bool, List, [], ◌∷◌, ◌++◌, length, Option, Some, None}
use Rattle.std.specs.Borrow.{GName}
use Rattle.std.specs.Fn.{iterate}
use Rattle.std.specs.Iterator.{YieldsFirstBy, Yields}
use Rattle.triple_arena_ptr.specs.Generation.{next_generation, next_wraps}
use Rattle.triple_arena_ptr.specs.InvalidationOption.{value_of, overflowed}
use Rattle.triple_arena_ptr.specs.declared.invalidation.InvalidationOption.{InvalidationOption}
use Rattle.triple_arena.specs.Content.{emptied, with_counter}
use Rattle.triple_arena.specs.Drains.{removals, removal_of}
use Rattle.triple_arena_ord.specs.Ordered.{Ordered, counter_in, entry_in, ordered_entries}
use Rattle.triple_arena_ord.specs.Removal.{IsEntryRemoved}
use Rattle.triple_arena_ord.specs.declared.ord_arena.drain.OrderedDrain.{OrderedDrain}

-- no entry and no slot, after so many steps of the counter
abbrev pub emptied_after : {T : Type 0} → Option ℕ → ℕ → Ordered T → Ordered T
emptied_after last n o = record {
  chains = with_counter (emptied o.chains) (iterate (next_generation last) n o.chains.counter);
  root = None;
}

-- how many steps of the counter a call made that gave this
abbrev pub steps_made : {X : Type 0} → Option X → ℕ
steps_made None = 0
steps_made (Some item) = 1

module _ {P T : Type 0} (last : Option ℕ) (index generation : P → ℕ) where
  -- an item is the removal of the entry at an index, and whether its step started the generations
  -- again
  pub record IsItemTaken (h : ℕ) (item : InvalidationOption (P × T)) (old new : Ordered T)
      : Type 0 where
    pub at : index (value_of item).0 ≡ h
    pub was : entry_in old h ≡ Some (generation (value_of item).0, (value_of item).1)
    pub overflow : overflowed item ≡ next_wraps last old.chains.counter
    pub removed : IsEntryRemoved last h old new

  -- that of the first entry of the list
  pub record IsFirstTaken (item : InvalidationOption (P × T)) (old new : Ordered T) : Type 0 where
    pub first : ordered_entries old
        ≡ (index (value_of item).0, (generation (value_of item).0, (value_of item).1))
        ∷ ordered_entries new
    pub overflow : overflowed item ≡ next_wraps last old.chains.counter
    pub removed : IsEntryRemoved last (index (value_of item).0) old new

  -- the first entry left, if there was one
  abbrev pub TakesFirst : Option (InvalidationOption (P × T)) → Ordered T → Ordered T → Type 0
  TakesFirst None old new = (ordered_entries old ≡ []) × (new ≡ old)
  TakesFirst (Some item) old new = IsFirstTaken item old new

  -- that of the last one
  pub record IsLastTaken (item : InvalidationOption (P × T)) (old new : Ordered T) : Type 0 where
    pub at_end : ordered_entries old ≡ ordered_entries new
        ++ (index (value_of item).0, (generation (value_of item).0, (value_of item).1)) ∷ []
    pub overflow : overflowed item ≡ next_wraps last old.chains.counter
    pub removed : IsEntryRemoved last (index (value_of item).0) old new

  -- the last entry left, if there was one
  abbrev pub TakesLast : Option (InvalidationOption (P × T)) → Ordered T → Ordered T → Type 0
  TakesLast None old new = (ordered_entries old ≡ []) × (new ≡ old)
  TakesLast (Some item) old new = IsLastTaken item old new

module _ {P T S Inx Gen Word Alloc : Type 0} where
  -- the arena as the drain has it
  abbrev pub drain_arena : OrderedDrain P T S Inx Gen Word Alloc → Ordered T
  drain_arena d = d.arena.now

  -- the ghost name of the reference to it
  abbrev pub drain_lender : OrderedDrain P T S Inx Gen Word Alloc → GName
  drain_lender d = d.arena.ghost_name

  module _ (last : Option ℕ) where
    -- the arena once the drain is dropped: it is cleared, by one step
    abbrev pub drain_leaves : OrderedDrain P T S Inx Gen Word Alloc → Ordered T
    drain_leaves d = emptied_after last 1 (drain_arena d)

    -- both borrow the same arena, and the later one leaves it after so many steps more
    pub record IsOn (n : ℕ) (old new : OrderedDrain P T S Inx Gen Word Alloc) : Type 0 where
      pub lender : drain_lender new ≡ drain_lender old
      pub leaves : drain_leaves new ≡ emptied_after last (suc n) (drain_arena old)

    -- the removals that are still to come
    abbrev pub drain_rest : OrderedDrain P T S Inx Gen Word Alloc → List ((ℕ × (ℕ × T)) × Bool)
    drain_rest d = removals last (counter_in (drain_arena d))
        (ordered_entries (drain_arena d))

    module _ (index generation : P → ℕ) where
      -- a step gives the first removal that is still to come, which it has made, or nothing where
      -- there is none
      abbrev pub DrainSteps : OrderedDrain P T S Inx Gen Word Alloc
          → Option (InvalidationOption (P × T)) → OrderedDrain P T S Inx Gen Word Alloc → Type 0
      DrainSteps old item new
          = YieldsFirstBy (removal_of index generation) drain_rest old item new
          × IsOn (steps_made item) old new
          × TakesFirst last index generation item (drain_arena old) (drain_arena new)

      -- each state that steps lead to is on by as many as the items that they gave
      abbrev pub DrainKeepsAlong : OrderedDrain P T S Inx Gen Word Alloc → Type 0
      DrainKeepsAlong first = (items : List (InvalidationOption (P × T)))
          (later : OrderedDrain P T S Inx Gen Word Alloc)
          → Yields DrainSteps first items later → IsOn (length items) first later

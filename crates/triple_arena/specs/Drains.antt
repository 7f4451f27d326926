-- What a drain of an arena gives, and what it leaves.
use Rattle.std.specs.Prelude.{◌≡◌, ℕ, Bool, false, List, length, Option, Some, None, IsSome}
use Rattle.std.specs.Borrow.{GName}
use Rattle.std.specs.Fn.{iterate}
use Rattle.std.specs.List.{zip}
use Rattle.std.specs.Iterator.{YieldsFirstBy, Yields}
use Rattle.triple_arena_ptr.specs.Generation.{next_generation}
use Rattle.triple_arena_stack.specs.Room.{Room}
use Rattle.triple_arena_ptr.specs.InvalidationOption.{value_of, overflowed}
use Rattle.triple_arena_ptr.specs.declared.invalidation.InvalidationOption.{InvalidationOption}
use Rattle.triple_arena.specs.Content.{Content, live_count, emptied, with_counter}
use Rattle.triple_arena.specs.Changes.{IsRemoved}
use Rattle.triple_arena.specs.Transfer.{steps_wrap, IsGivenUp}
use Rattle.triple_arena.specs.Walk.{Walk, IsAhead}
use Rattle.triple_arena.specs.declared.drain.Drain.{Drain}

module _ {T : Type 0} where
  -- each of these entries, removed in turn from this counter on, if there is one, and whether that
  -- step starts the generations again
  abbrev pub removals : Option ℕ → Option ℕ → List (ℕ × (ℕ × T)) → List ((ℕ × (ℕ × T)) × Bool)
  removals last counter entries = zip entries (steps_wrap last (length entries) counter)

  -- the content after each entry was removed: no slot, and the counter stepped once an entry
  abbrev pub drained : Option ℕ → Content T → Content T
  drained last c = with_counter (emptied c)
      (iterate (next_generation last) (live_count c) c.counter)

  -- each live index is ahead of a walk that rises
  abbrev pub IsAllAhead : (ℕ → Option (ℕ × T)) → Walk → Type 0
  IsAllAhead entries w = (j : ℕ) → IsSome (entries j) → (w.falls ≡ false) × IsAhead w j

module _ {S T : Type 0} (entry_of : S → ℕ → Option (ℕ × T)) (live_of : S → ℕ)
    (counter_of : S → Option ℕ) (room_of : S → Room) where
  -- What a drain leaves is the arena given up, and a removal does not change that. A search does
  -- not look into this word, so that it costs the loops over an arena nothing.
  unfoldable pub LeavesGivenUp : Option ℕ → (S → S) → Type 0
  LeavesGivenUp last left
      = ((s : S) → IsGivenUp entry_of live_of counter_of room_of last s (left s))
      × ((old new : S) (i : ℕ) → IsRemoved entry_of live_of counter_of room_of last i old new
      → left new ≡ left old)

module _ {P T : Type 0} (index generation : P → ℕ) where
  -- the entry that an item has, and whether the step of its removal started the generations again
  abbrev pub removal_of : InvalidationOption (P × T) → (ℕ × (ℕ × T)) × Bool
  removal_of item = (
    (index (value_of item).0, (generation (value_of item).0, (value_of item).1)),
    overflowed item,
  )

module _ {P T A : Type 0} (is_removed : A → ℕ → A → Type 0) (index : P → ℕ) where
  -- the entry of an item left its index; where there is no item, nothing changed
  abbrev pub TakesItem : Option (InvalidationOption (P × T)) → A → A → Type 0
  TakesItem None old new = new ≡ old
  TakesItem (Some item) old new = is_removed old (index (value_of item).0) new

module _ {P T A Inx Gen Word Alloc Adv : Type 0} where
  -- the arena as the drain has it
  abbrev pub drain_arena : Drain P T A Inx Gen Word Alloc Adv → A
  drain_arena d = d.arena.now

  -- the ghost name of the reference to the arena
  abbrev pub drain_lender : Drain P T A Inx Gen Word Alloc Adv → GName
  drain_lender d = d.arena.ghost_name

  -- each entry is still to come
  abbrev pub DrainCanStep : (A → ℕ → Option (ℕ × T)) → (Adv → Walk)
      → Drain P T A Inx Gen Word Alloc Adv → Type 0
  DrainCanStep entry_of walk_of d = IsAllAhead (entry_of (drain_arena d)) (walk_of d.walk)

  -- the removals that are still to come
  abbrev pub drain_rest : (A → Option ℕ) → (A → List (ℕ × (ℕ × T))) → Option ℕ
      → Drain P T A Inx Gen Word Alloc Adv → List ((ℕ × (ℕ × T)) × Bool)
  drain_rest counter_of listed last d = removals last (counter_of (drain_arena d))
      (listed (drain_arena d))

  -- both borrow the same arena, and leave it the same
  abbrev pub DrainKeeps : (A → A) → Drain P T A Inx Gen Word Alloc Adv
      → Drain P T A Inx Gen Word Alloc Adv → Type 0
  DrainKeeps left old new = (drain_lender new ≡ drain_lender old)
      × (left (drain_arena new) ≡ left (drain_arena old))

  module _ (entry_of : A → ℕ → Option (ℕ × T)) (walk_of : Adv → Walk) (counter_of : A → Option ℕ)
      (listed : A → List (ℕ × (ℕ × T)))
      (is_removed : A → ℕ → A → Type 0) (left : A → A) (last : Option ℕ)
      (index generation : P → ℕ) where
    -- a step gives the first removal that is still to come, which it has made, or nothing where
    -- there is none
    abbrev pub DrainSteps : Drain P T A Inx Gen Word Alloc Adv → Option (InvalidationOption (P × T))
        → Drain P T A Inx Gen Word Alloc Adv → Type 0
    DrainSteps old item new = YieldsFirstBy (removal_of index generation)
        (drain_rest counter_of listed last) old item new × DrainKeeps left old new
        × DrainCanStep entry_of walk_of new
        × TakesItem is_removed index item (drain_arena old) (drain_arena new)

    -- each state that steps lead to keeps what the first one keeps
    abbrev pub DrainKeepsAlong : Drain P T A Inx Gen Word Alloc Adv → Type 0
    DrainKeepsAlong first = (items : List (InvalidationOption (P × T)))
        (later : Drain P T A Inx Gen Word Alloc Adv)
        → Yields DrainSteps first items later → DrainKeeps left first later

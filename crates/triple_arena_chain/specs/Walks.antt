-- Walks along a chain.
use Rattle.std.specs.Prelude.{◌≡◌, ℕ, zero, suc, ◌+◌, ◌==◌, Bool, true, false, List, [], ◌∷◌, ◌++◌}
use Rattle.std.specs.Prelude.{length, reverse, Option, Some, None, if◌then◌else◌, IsSome, IfSome}
use Rattle.triple_arena.specs.Content.{Content}
use Rattle.triple_arena.specs.Entries.{generation_at}
use Rattle.linked_lists.specs.LinkedLists.{Ends, next_at, prev_at, IsLinear, IsRing}
use Rattle.triple_arena_chain.specs.LinkShape.{IndexLink}
use Rattle.triple_arena_chain.specs.Links.{ends_in}

-- where a walk began, the index that it gives next, if there is one, and whether it goes backwards
pub record ChainWalk : Type 0 where
  pub start : ℕ
  pub at : Option ℕ
  pub back : Bool

-- the walk from an index: to the end of its chain, or once round a ring, then backwards from the
-- index before it
pub data IsWalkFrom (ends : ℕ → Option Ends) (i : ℕ) (walk : List ℕ) : Type 0 where
  along : (before after : List ℕ) → IsLinear ends (before ++ i ∷ after)
      → walk ≡ i ∷ (after ++ reverse before) → IsWalkFrom ends i walk
  around : (after : List ℕ) → IsRing ends (i ∷ after) → walk ≡ i ∷ after → IsWalkFrom ends i walk

-- a walk that begins at an index
abbrev pub walk_from : ℕ → ChainWalk
walk_from i = record { start = i; at = Some i; back = false }

-- what is known of the indexes to come: there are none once the walk is over
abbrev pub left_to : {X : Type 0} → Option ℕ → Option (List X)
left_to None = Some []
left_to (Some i) = None

module _ (ends : ℕ → Option Ends) where
  -- forwards it goes to the next one, unless it began there; after an end it goes backwards from
  -- where it began
  abbrev pub forwards : ChainWalk → Option ℕ → ChainWalk
  forwards w None = record { start = w.start; at = prev_at ends w.start; back = true }
  forwards w (Some next)
      = record { start = w.start; at = if next == w.start then None else Some next; back = w.back }

  -- the walk after it gave an index
  abbrev pub past_index : ChainWalk → ℕ → ChainWalk
  past_index w i = if w.back then record {
    start = w.start;
    at = prev_at ends i;
    back = true;
  } else forwards w (next_at ends i)

  -- these indexes are left to a walk along interlinks that stay
  abbrev pub Leaves : ChainWalk → List ℕ → Type 0
  Leaves w [] = w.at ≡ None
  Leaves w (x ∷ xs) = (w.at ≡ Some x) × (IsSome (ends x) × Leaves (past_index w x) xs)

  -- an index where a walk is and those of the walk that goes on from there, if the index is live
  abbrev pub from_index : (ChainWalk → List ℕ) → ChainWalk → ℕ → Option Ends → List ℕ
  from_index on w i None = []
  from_index on w i (Some _) = i ∷ on (past_index w i)

  abbrev pub from_where : (ChainWalk → List ℕ) → ChainWalk → Option ℕ → List ℕ
  from_where on w None = []
  from_where on w (Some i) = from_index on w i (ends i)

  -- the indexes that at most so many steps of a walk along interlinks that stay give
  abbrev pub steps_of : ℕ → ChainWalk → List ℕ
  steps_of zero w = []
  steps_of (suc n) w = from_where (steps_of n) w w.at

  -- a walk gives the chain of an index, from there on, and ends within so many steps
  pub record IsWalkAlong (most : ℕ) (w : ChainWalk) (i : ℕ) : Type 0 where
    pub walk : List ℕ
    pub from : IsWalkFrom ends i walk
    pub left : Leaves w walk
    pub steps : steps_of most w ≡ walk

  -- a step gives the pointer at the index where the walk is, and goes on from there. Where that is
  -- not live the walk ends
  abbrev pub ChainSteps : {T : Type 0} → (ℕ → Option (ℕ × T)) → ChainWalk → Option (ℕ × ℕ)
      → ChainWalk → Type 0
  ChainSteps entries before None after = IfSome before.at (λ i. entries i ≡ None)
      × (after.at ≡ None)
  ChainSteps entries before (Some p) after = (before.at ≡ Some p.0)
      × ((generation_at entries p.0 ≡ Some p.1) × (after ≡ past_index before p.0))

module _ {T : Type 0} where
  -- the indexes that are left to a walk over links that stay: a loop over them is measured by their
  -- number
  abbrev pub left_over : Content (IndexLink T) → ChainWalk → List ℕ
  left_over c w = steps_of (ends_in c) (length c.slots + 1) w

  -- a walk over links that stay gives these, and ends
  abbrev pub IsEnding : Content (IndexLink T) → ChainWalk → Type 0
  IsEnding c w = Leaves (ends_in c) w (left_over c w)

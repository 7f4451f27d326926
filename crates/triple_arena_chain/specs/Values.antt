-- A chain arena as an arena of the values in its links.
use Rattle.std.specs.Prelude.{◌≡◌, ℕ, Option, Some, None, IfSome}
use Rattle.triple_arena_stack.specs.Room.{Room}
use Rattle.triple_arena.specs.Content.{Content, entry_at}
use Rattle.triple_arena.specs.Entries.{generation_at, pointer_at}
use Rattle.triple_arena_chain.specs.LinkShape.{IndexLink}
use Rattle.triple_arena_chain.specs.Links.{values_in}

-- the reserved slots and the greatest capacity
abbrev pub room_in : {T : Type 0} → Content (IndexLink T) → Room
room_in c = c.room

module _ {T : Type 0} where
  -- the index and the generation of the link at an index, if it is live
  abbrev pub ptr_to : Content (IndexLink T) → Option ℕ → Option (ℕ × ℕ)
  ptr_to c None = None
  ptr_to c (Some i) = pointer_at (entry_at c) i

  -- a pointer, if there is one, points to a live link
  abbrev pub IsLivePtr : {P : Type 0} → (P → ℕ) → (P → ℕ) → Content (IndexLink T)
      → Option P → Type 0
  IsLivePtr index generation c p
      = IfSome p (λ q. generation_at (values_in c) (index q) ≡ Some (generation q))

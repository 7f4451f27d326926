-- How a transfer leaves the slots of the target. Of the public clauses `give_up` alone cites this
-- module.
use Rattle.std.specs.Prelude.{◌≡◌, ℕ, List, map, length, Option, Some}
use Rattle.std.specs.List.{FoldsTo}
use Rattle.triple_arena_ptr.specs.declared.invalidation.InvalidationOption.{InvalidationOption}
use Rattle.triple_arena.specs.LiveEntries.{listed_from}
use Rattle.triple_arena.specs.Transfer.{Transfer, entry_before, entry_after, wrapped, steps_wrap}

-- the slot of an entry with this generation
abbrev pub slot_with : {T : Type 0} → ℕ → T → Option (ℕ × T)
slot_with g t = Some (g, t)

abbrev pub given_of : {Q U P T : Type 0} → Transfer Q U P T → T
given_of move = move.given

module _ {Q U P T : Type 0} (old_index old_generation : Q → ℕ) (index generation : P → ℕ) where
  -- a map was called once at each of the entries `old`, in their order, and the slots `new` have
  -- what it gave, each with this generation
  pub record MovesOut {F : Type 0} (step : F → Q → InvalidationOption U → P → T → F → Type 0)
      (f : F) (last_generation counter : Option ℕ) (g : ℕ)
      (old : List (ℕ × (ℕ × U))) (new : List (Option (ℕ × T))) : Type 0 where
    pub moves : List (Transfer Q U P T)
    pub last : F
    pub calls : FoldsTo (λ g move h. step g move.from move.item move.to move.given h) f moves last
    pub before : map (entry_before old_index old_generation index generation) moves ≡ old
    pub told : map wrapped moves ≡ steps_wrap last_generation (length old) counter
    pub after : map (entry_after old_index old_generation index generation) moves
        ≡ listed_from 1 new
    pub slots : new ≡ map (slot_with g) (map given_of moves)

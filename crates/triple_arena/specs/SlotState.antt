-- How a slot keeps what it holds. No public clause cites this module.
use Rattle.std.specs.Prelude.{ℕ, Option, Some, None}
use Rattle.triple_arena.specs.Slot.{Slot, free, used}
use Rattle.triple_arena.specs.declared.slot.SlotState.{SlotState}
use Rattle.triple_arena.specs.declared.slot.SlotState.TheVariants.{Free, Used}

module _ {G T : Type 0} where
  -- where a generation tells its number
  abbrev pub slot_of : (G → ℕ) → SlotState (Option ℕ) G T → Slot T
  slot_of number (Free mark next prev) = free prev next
  slot_of number (Used g t) = used (number g) t

module _ {O G T : Type 0} where
  abbrev pub state_value : SlotState O G T → Option T
  state_value (Free _ _ _) = None
  state_value (Used g t) = Some t

  abbrev pub with_state_value : SlotState O G T → T → SlotState O G T
  with_state_value (Free mark next prev) _ = Free mark next prev
  with_state_value (Used g _) t = Used g t

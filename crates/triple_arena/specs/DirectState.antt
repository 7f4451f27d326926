-- How a slot of a `DirectArena` keeps what it holds. No public clause cites this module.
use Rattle.std.specs.Prelude.{ℕ, Option, Some, None}
use Rattle.triple_arena.specs.declared.direct_slot.DirectState.{DirectState}
use Rattle.triple_arena.specs.declared.direct_slot.DirectState.TheVariants.{Free, Used}

module _ {G T : Type 0} where
  abbrev pub slot_of : (G → ℕ) → DirectState G T → Option (ℕ × T)
  slot_of number Free = None
  slot_of number (Used g t) = Some (number g, t)

  abbrev pub state_value : DirectState G T → Option T
  state_value Free = None
  state_value (Used g t) = Some t

  abbrev pub with_state_value : DirectState G T → T → DirectState G T
  with_state_value Free _ = Free
  with_state_value (Used g _) t = Used g t

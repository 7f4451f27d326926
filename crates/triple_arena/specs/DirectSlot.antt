-- What a contract sees of a slot of a `DirectArena`: the generation and the value of what it holds,
-- or nothing.
use Rattle.std.specs.Prelude.{ℕ, Option}
use Rattle.std.specs.Option.{option_map}

module _ {T : Type 0} where
  -- the value, if there is one
  abbrev pub value_of : Option (ℕ × T) → Option T
  value_of slot = option_map (λ entry. entry.1) slot

  -- what it holds with another value
  abbrev pub with_slot_value : Option (ℕ × T) → T → Option (ℕ × T)
  with_slot_value slot t = option_map (λ entry. (entry.0, t)) slot

  -- what it holds with another generation
  abbrev pub with_slot_generation : Option (ℕ × T) → ℕ → Option (ℕ × T)
  with_slot_generation slot g = option_map (λ entry. (g, entry.1)) slot

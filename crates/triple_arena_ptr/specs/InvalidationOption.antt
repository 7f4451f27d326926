-- The answer of a call that ends pointers by a step of a generation.
use Rattle.std.specs.Prelude.{◌≡◌, Bool, true, false, Option, Some, None}
use Rattle.triple_arena_ptr.specs.declared.invalidation.InvalidationOption.{InvalidationOption}
use Rattle.triple_arena_ptr.specs.declared.invalidation.InvalidationOption.TheVariants.{Success}
use Rattle.triple_arena_ptr.specs.declared.invalidation.InvalidationOption.TheVariants.{GenerationOverflow}

-- whether the step started the generations again
abbrev pub overflowed : {T : Type 0} → InvalidationOption T → Bool
overflowed (Success x) = false
overflowed (GenerationOverflow x) = true

-- the value, whatever the step did
abbrev pub value_of : {T : Type 0} → InvalidationOption T → T
value_of (Success x) = x
value_of (GenerationOverflow x) = x

-- the value where the step did not start the generations again
abbrev pub strict_value : {T : Type 0} → InvalidationOption T → Option T
strict_value (Success x) = Some x
strict_value (GenerationOverflow x) = None

-- a possible result of the call of `f` on the value, with the same answer of the step
pub record IsMappedBy {T U F : Type 0} (post : F → T → U → Type 0) (f : F)
    (a : InvalidationOption T) (b : InvalidationOption U) : Type 0 where
  pub value : post f (value_of a) (value_of b)
  pub answer : overflowed b ≡ overflowed a

-- The answer of a call that ends a pointer, which may not be valid.
use Rattle.std.specs.Prelude.{Option, Some, None}
use Rattle.triple_arena_ptr.specs.declared.invalidation.InvalidationOption.{InvalidationOption}
use Rattle.triple_arena_ptr.specs.declared.invalidation.InvalidationOption.TheVariants as valid
use Rattle.triple_arena_ptr.specs.declared.invalidation.InvalidationResult.{InvalidationResult}
use Rattle.triple_arena_ptr.specs.declared.invalidation.InvalidationResult.TheVariants.{Success}
use Rattle.triple_arena_ptr.specs.declared.invalidation.InvalidationResult.TheVariants.{GenerationOverflow}
use Rattle.triple_arena_ptr.specs.declared.invalidation.InvalidationResult.TheVariants.{InvalidPtr}

-- the answer where the pointer was valid
abbrev pub answer_of : {T : Type 0} → InvalidationResult T → Option (InvalidationOption T)
answer_of (Success x) = Some (valid.Success x)
answer_of (GenerationOverflow x) = Some (valid.GenerationOverflow x)
answer_of InvalidPtr = None

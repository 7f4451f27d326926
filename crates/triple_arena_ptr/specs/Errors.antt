-- Which error a growth returned.
use Rattle.std.specs.Prelude.{Result, IsErrOf}
use Rattle.triple_arena_ptr.specs.declared.errors.ReallocationError.{ReallocationError}
use Rattle.triple_arena_ptr.specs.declared.errors.ReallocationError.TheVariants.{BeyondMaxCapacity}
use Rattle.triple_arena_ptr.specs.declared.errors.ReallocationError.TheVariants.{AllocError}

module _ {A : Type 0} where
  -- the greatest capacity forbids it
  abbrev pub IsBeyondMaxCapacity : Result A ReallocationError → Type 0
  IsBeyondMaxCapacity result = IsErrOf result BeyondMaxCapacity

  -- the memory was refused
  abbrev pub IsAllocError : Result A ReallocationError → Type 0
  IsAllocError result = IsErrOf result AllocError

-- The indexes from one to another.
use Rattle.std.specs.Prelude.{ℕ, ◌+◌, ◌-◌, List, [], Option, Some, None}
use Rattle.std.specs.Int.NonZero.{non_zero_usize_get}
use Rattle.std.specs.List.{range_with_len}
use Rattle.std.specs.declared.num.NonZeroUsize.{NonZeroUsize}

-- the numbers from the first to the last, rising: none where the last is below the first
abbrev pub numbers_through : ℕ → ℕ → List ℕ
numbers_through first last = range_with_len first (last + 1 - first)

-- the same, and none where there is no last one
abbrev pub numbers_up_to : NonZeroUsize → Option NonZeroUsize → List ℕ
numbers_up_to start None = []
numbers_up_to start (Some end) = numbers_through (non_zero_usize_get start) (non_zero_usize_get end)

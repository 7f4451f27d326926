-- The numbers of indexes.
use Rattle.std.specs.Prelude.{ℕ, ◌-◌, ◌^◌, min}

-- the greatest index that is a `usize` too, in a type whose greatest index this is
abbrev pub max_index_of : ℕ → ℕ
max_index_of greatest = min greatest (2 ^ 64 - 1)

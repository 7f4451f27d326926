-- The numbers of generations, under the greatest one. It is absent where generations are not
-- counted, and all have the number 1.
use Rattle.std.specs.Prelude.{◌≡◌, ℕ, ◌+◌, ◌==◌, ◌<◌, ◌≤◌, Bool, false, Option, Some, None}
use Rattle.std.specs.Prelude.{if◌then◌else◌}

-- a number that a generation may have
abbrev pub IsGeneration : Option ℕ → ℕ → Type 0
IsGeneration None g = g ≡ 1
IsGeneration (Some last) g = (0 < g) × (g ≤ last)

-- the generation after the first one
abbrev pub second_generation : Option ℕ → ℕ
second_generation None = 1
second_generation (Some last) = 2

-- the generation that follows: past the greatest one they start again at 2
abbrev pub next_generation : Option ℕ → ℕ → ℕ
next_generation None g = g
next_generation (Some last) g = if g == last then 2 else g + 1

-- whether they started again
abbrev pub next_wraps : Option ℕ → ℕ → Bool
next_wraps None g = false
next_wraps (Some last) g = g == last

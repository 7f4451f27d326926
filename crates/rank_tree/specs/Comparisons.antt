-- How many comparisons a search makes.
use Rattle.std.specs.Prelude.{ℕ, zero, suc, ◌+◌, ◌*◌, ◌^◌, nat_le, if◌then◌else◌}

-- the greatest c of at most so many with 2^(c+1) ≤ (n+1)^2, else 0
abbrev pub most_comparisons_up_to : ℕ → ℕ → ℕ
most_comparisons_up_to n zero = 0
most_comparisons_up_to n (suc c)
    = if nat_le (2 ^ (suc c + 1)) ((n + 1) * (n + 1)) then suc c else most_comparisons_up_to n c

-- the most comparisons of a search among n entries: the greatest c with 2^(c+1) ≤ (n+1)^2, and 0
-- among none
abbrev pub most_comparisons : ℕ → ℕ
most_comparisons n = most_comparisons_up_to n ((n + 1) * (n + 1))

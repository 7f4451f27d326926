-- Comparisons of listed entries.
use Rattle.std.specs.Prelude.{ℕ}

-- a comparison of the items of two listed entries
abbrev pub by_item : {T R : Type 0} → (T → T → R) → ℕ × (ℕ × T) → ℕ × (ℕ × T) → R
by_item f x y = f x.1.1 y.1.1

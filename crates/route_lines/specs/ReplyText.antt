-- How much a gathered reply holds.
use Rattle.std.specs.Prelude.{ℕ, ◌+◌, ◌≤◌, List, length}

-- so many bytes more fit
abbrev pub HasRoom : List ℕ → ℕ → Type 0
HasRoom text more = length text + more ≤ 4096

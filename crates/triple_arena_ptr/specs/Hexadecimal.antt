-- Numbers as text.
use Rattle.std.specs.Prelude.{ℕ, List, false}
use Rattle.std.specs.Fmt.{digits}

-- the number in lower-case hexadecimal digits
abbrev pub hexadecimal : ℕ → List ℕ
hexadecimal n = digits 16 false n

-- How many digits a number has.
use Rattle.std.proofs.Common.{ℕ, ◌≤◌, arith, decimal, length}
use Rattle.std.proofs.lemmas.Fmt.{length-decimal-le}
use Rattle.route_lines.specs.Number.{IsNumber}

pub number_short : (n : ℕ) → IsNumber n → length (decimal n) ≤ 20
number_short n small = length-decimal-le 20 n (omega arith) (omega arith) small

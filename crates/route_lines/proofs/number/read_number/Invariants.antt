use Rattle.std.proofs.Common.{◌^◌, ◌<◌, drop}
use Rattle.route_lines.proofs.NumberLemmas.{SoFar}
use Rattle.route_lines.proofs.number.read_number.Given as goal

abbrev pub invariant-loop-byte : goal.invariant-loop-byte
invariant-loop-byte l =
    record { read : SoFar l.bytes (drop l.byte-index l.bytes) l.number; fits : l.number < 2 ^ 64 }

use Rattle.std.proofs.Common.{subst, sym}
use Rattle.std.specs.Str.{IsUtf8}
use Rattle.route_lines.proofs.WordLemmas.{IsUtf8-word}
use Rattle.route_lines.proofs.word.WordDisplay.fmt.Goals as goal

pub unreachable-requires : goal.unreachable-requires
unreachable-requires g c =
    c.in-Err.ensures.cases.0
    (subst IsUtf8 (sym c.as_bytes.ensures.value) (IsUtf8-word _ c.as_bytes.ensures.word))

use Rattle.std.proofs.Common.{◌≡◌, ◌++◌, ℕ, List, length}
use Rattle.std.specs.Io.KnownBytes.{Appends}
use Rattle.route_lines.proofs.sending.send.Given as goal

abbrev pub invariant-loop-rest : goal.invariant-loop-rest
invariant-loop-rest g l = record {
  taken : (part : List ℕ) × (l.bytes ≡ part ++ l.rest)
      × Appends (g.W.Write.contents l.initial.writer.inner) (g.W.Write.contents l.writer.inner)
      part;
  failed : l.writer.failed ≡ l.initial.writer.failed;
}

abbrev pub decreases-loop-rest : goal.decreases-loop-rest
decreases-loop-rest g l = length l.rest

use Rattle.std.proofs.Common.{◌≡◌, ◌++◌, ℕ, List, length}
use Rattle.route_lines.specs.Unfinished.{HasNoLineEnd, StandsFor, Takes}
use Rattle.route_book.proofs.running.take.Given as goal

abbrev pub invariant-loop-line : goal.invariant-loop-line
invariant-loop-line g l = record {
  taken : (begun : List ℕ) → HasNoLineEnd begun → StandsFor l.initial.unfinished begun
      → Takes (begun ++ l.piece) l.left l.unfinished l.initial.book.state l.book.state
      (g.W.Write.contents l.initial.writer.inner) (g.W.Write.contents l.writer.inner)
      l.initial.counts l.counts;
  failed : l.writer.failed ≡ l.initial.writer.failed;
}

abbrev pub decreases-loop-line : goal.decreases-loop-line
decreases-loop-line g l = length l.left

use Rattle.std.proofs.Common.{◌≡◌, ◌+◌, ◌<◌, ℕ, List, [], length}
use Rattle.std.specs.Io.KnownBytes.{Consumes}
use Rattle.route_lines.specs.Unfinished.{Takes}
use Rattle.route_book.proofs.running.run.Given as goal

abbrev pub invariant-loop : goal.invariant-loop
invariant-loop g l = record {
  taken : (input : List ℕ)
      × Consumes (g.R.Read.remaining l.initial.reader.inner) (g.R.Read.remaining l.reader.inner)
      input
      × Takes input [] l.unfinished l.initial.book.state l.book.state
      (g.W.Write.contents l.initial.writer.inner) (g.W.Write.contents l.writer.inner)
      l.initial.counts l.counts;
  reads : l.reader.failed ≡ l.initial.reader.failed;
  writes : l.writer.failed ≡ l.initial.writer.failed;
  room : 0 < length l.piece;
  calls : l.reader.calls ≡ l.initial.reader.calls + l.counter;
}

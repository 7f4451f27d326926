use Rattle.std.proofs.Common.{◌≡◌, ◌++◌, ℕ, List, length}
use Rattle.std.specs.Io.KnownBytes.{Appends}
use Rattle.route_lines.specs.Reply.{stop_line}
use Rattle.route_book.proofs.ListedLemmas.{lines_of}
use Rattle.route_book.proofs.answer.write_stops.Given as goal

abbrev pub invariant-loop-ticket : goal.invariant-loop-ticket
invariant-loop-ticket g l = record {
  gathered : (sent : List ℕ)
      × (lines_of stop_line l.fn.stops ≡ (sent ++ l.text) ++ lines_of stop_line l.stops)
      × Appends (g.W.Write.contents l.initial.writer.inner) (g.W.Write.contents l.writer.inner)
      sent;
  failed : l.writer.failed ≡ l.initial.writer.failed;
}

abbrev pub decreases-loop-ticket : goal.decreases-loop-ticket
decreases-loop-ticket g l = length l.stops

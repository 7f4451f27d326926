use Rattle.std.proofs.Common.{length}
use Rattle.route_lines.specs.Reply.{stop_line}
use Rattle.route_book_c.proofs.ListLemmas.{Listed}
use Rattle.route_book_c.proofs.listing.put_stops.Given as goal

abbrev pub invariant-loop-ticket : goal.invariant-loop-ticket
invariant-loop-ticket g l = record {
  listed : Listed stop_line l.fn.stops l.stops l.fn.at l.end l.initial.room l.room;
}

abbrev pub decreases-loop-ticket : goal.decreases-loop-ticket
decreases-loop-ticket g l = length l.stops

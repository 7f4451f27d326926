use Rattle.std.proofs.Common.{refl}
use Rattle.route_lines.specs.Reply.{stop_line}
use Rattle.route_book_c.proofs.ListLemmas.{Listed-more, Listed-wrote}
use Rattle.route_book_c.proofs.listing.put_stops.Goals as goal

pub loop-ticket-preserved : goal.loop-ticket-preserved
loop-ticket-preserved g c = record {
  listed = Listed-more stop_line _ _ _ _ _ _ _ _ _ _ _ _ _ c.loop-ticket.invariant.listed
      c.in-Some.ensures.steps c.as_slice.ensures c.push_stop.ensures c.clear.ensures
      c.in-Some-put.ensures.wrote;
}

pub returns-clause-wrote : goal.returns-clause-wrote
returns-clause-wrote g c =
    Listed-wrote stop_line _ _ _ _ _ _ _ _ _ c.loop-ticket.invariant.listed
    c.in_default.ensures.steps.0 refl c.put-2.ensures.wrote

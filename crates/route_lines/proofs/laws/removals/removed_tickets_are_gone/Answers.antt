use Rattle.route_lines.proofs.EndedLemmas.{gone-removed, last-removed}
use Rattle.route_lines.proofs.GoneLemmas.{gone_after_lines}
use Rattle.route_lines.proofs.laws.removals.removed_tickets_are_gone.Goals as goal

pub returns : goal.returns
returns c = record {
  last = λ s t. (last-removed s t).0;
  rooms = λ s t. (last-removed s t).1;
  gone = gone-removed;
  for_ever = gone_after_lines;
}

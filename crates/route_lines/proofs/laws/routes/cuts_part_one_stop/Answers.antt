use Rattle.route_lines.proofs.NextStopLemmas.{next-cut}
use Rattle.route_lines.proofs.laws.routes.cuts_part_one_stop.Goals as goal

pub returns : goal.returns
returns c = record {
  next = λ s t sound e. (next-cut s t sound e).0;
  others = λ s t v sound e apart. (next-cut s t sound e).1 v apart;
}

use Rattle.route_lines.proofs.NewLinkLemmas.{next-started}
use Rattle.route_lines.proofs.laws.routes.starts_lead_nowhere.Goals as goal

pub returns : goal.returns
returns c = record {
  next = λ s at n sound e. (next-started s at n sound e).0;
  others = λ s at n v sound e apart. (next-started s at n sound e).1 v apart;
}

use Rattle.route_lines.proofs.NextStopLemmas.{next-joined}
use Rattle.route_lines.proofs.laws.routes.joins_lead_on.Goals as goal

pub returns : goal.returns
returns c = record {
  next = λ s t u sound e. (next-joined s t u sound e).0;
  others = λ s t u v sound e apart. (next-joined s t u sound e).1 v apart;
}

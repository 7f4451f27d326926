use Rattle.route_lines.proofs.StayLemmas.{one_more-extended}
use Rattle.route_lines.proofs.laws.routes.extensions_add_one_stop.Goals as goal

pub returns : goal.returns
returns c = record {
  new = λ s t at n sound e. (one_more-extended s t at n sound e).own;
  others = λ s t at n k sound e other. (one_more-extended s t at n sound e).stops k other;
  count = λ s t at n sound e. (one_more-extended s t at n sound e).count;
}

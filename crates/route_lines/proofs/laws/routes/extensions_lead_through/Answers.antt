use Rattle.route_lines.proofs.NewLinkLemmas.{next-extended}
use Rattle.route_lines.proofs.laws.routes.extensions_lead_through.Goals as goal

pub returns : goal.returns
returns c = record {
  next = λ s t at n sound e. (next-extended s t at n sound e).first;
  new = λ s t at n sound e. (next-extended s t at n sound e).second;
  others = λ s t at n v sound e not_t not_n. (next-extended s t at n sound e).rest v not_t not_n;
}

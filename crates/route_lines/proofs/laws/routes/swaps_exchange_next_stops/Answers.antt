use Rattle.route_lines.proofs.NextStopLemmas.{next-swapped}
use Rattle.route_lines.proofs.laws.routes.swaps_exchange_next_stops.Goals as goal

pub returns : goal.returns
returns c = record {
  first = λ s t u sound e. (next-swapped s t u sound e).first;
  second = λ s t u sound e. (next-swapped s t u sound e).second;
  others = λ s t u v sound e a b. (next-swapped s t u sound e).rest v a b;
}

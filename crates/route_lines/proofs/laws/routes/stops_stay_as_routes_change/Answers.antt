use Rattle.route_lines.proofs.StayLemmas.{stay-joined, stay-parted, stay-swapped}
use Rattle.route_lines.proofs.laws.routes.stops_stay_as_routes_change.Goals as goal

pub returns : goal.returns
returns c = record {
  joined = λ s t u k sound. (stay-joined s sound t u).stops k;
  parted = λ s t k sound. (stay-parted s sound t).stops k;
  swapped = λ s t u k sound. (stay-swapped s sound t u).stops k;
  joined_count = λ s t u sound. (stay-joined s sound t u).count;
  parted_count = λ s t sound. (stay-parted s sound t).count;
  swapped_count = λ s t u sound. (stay-swapped s sound t u).count;
}

use Rattle.route_lines.proofs.PreviousLemmas.{previous-from_next, next-from_previous}
use Rattle.route_lines.proofs.laws.routes.stops_follow_their_previous_ones.Goals as goal

pub returns : goal.returns
returns c = λ s t u sound. (
  previous-from_next t u s.routes sound.routes,
  next-from_previous t u s.routes sound.routes,
)

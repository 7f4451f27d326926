use Rattle.route_lines.proofs.WalkLemmas.{walked_round}
use Rattle.route_lines.proofs.laws.routes.rings_are_walked_once.Goals as goal

pub returns : goal.returns
returns c = walked_round

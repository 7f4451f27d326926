use Rattle.route_lines.proofs.WalkLemmas.{walked_both_ways}
use Rattle.route_lines.proofs.laws.routes.lists_are_walked_both_ways.Goals as goal

pub returns : goal.returns
returns c = walked_both_ways

use Rattle.route_lines.proofs.SweepLemmas.{are_few}
use Rattle.route_lines.proofs.laws.looks.sweeps.Goals as goal

pub returns : goal.returns
returns c = are_few

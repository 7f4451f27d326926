use Rattle.route_lines.proofs.NumberedLemmas.{IsNumbered-from_empty}
use Rattle.route_lines.proofs.laws.states.states_are_numbered.Goals as goal

pub returns : goal.returns
returns c = IsNumbered-from_empty

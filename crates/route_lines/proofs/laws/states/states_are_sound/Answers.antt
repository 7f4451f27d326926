use Rattle.route_lines.proofs.SoundLemmas.{IsSound-from_empty}
use Rattle.route_lines.proofs.laws.states.states_are_sound.Goals as goal

pub returns : goal.returns
returns c = IsSound-from_empty

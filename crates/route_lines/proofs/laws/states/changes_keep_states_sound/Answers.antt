use Rattle.route_lines.proofs.SoundLemmas.{IsSound-changed}
use Rattle.route_lines.proofs.NumberedLemmas.{IsNumbered-changed}
use Rattle.route_lines.proofs.laws.states.changes_keep_states_sound.Goals as goal

pub returns : goal.returns
returns c = record { sound = IsSound-changed; numbered = IsNumbered-changed }

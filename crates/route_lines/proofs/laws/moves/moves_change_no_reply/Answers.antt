use Rattle.route_lines.proofs.OtherRoomsLemmas.{after-moved, replies-moved}
use Rattle.route_lines.proofs.laws.moves.moves_change_no_reply.Goals as goal

pub returns : goal.returns
returns c = record { text = replies-moved; state = after-moved }

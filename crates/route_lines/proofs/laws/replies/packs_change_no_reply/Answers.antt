use Rattle.route_lines.proofs.PackLemmas.{others-answered, packs-answered, replies-answered}
use Rattle.route_lines.proofs.PackLemmas.{state-unpacked}
use Rattle.route_lines.proofs.laws.replies.packs_change_no_reply.Goals as goal

pub returns : goal.returns
returns c = record {
  text = replies-answered;
  packs = packs-answered;
  others = others-answered;
  state = state-unpacked;
}

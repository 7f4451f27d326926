use Rattle.std.proofs.Common.{refl}
use Rattle.route_lines.proofs.laws.places.hints_change_no_reply.Goals as goal

pub returns : goal.returns
returns c = record {
  reply = λ s near p e. rw e refl;
  state = λ s key near word p e. rw e refl;
  refused = λ s near refusal e. rw e refl;
  unchanged = λ s key near word refusal e. rw e refl;
}

use Rattle.std.proofs.Common.{refl}
use Rattle.route_lines.proofs.TicketLemmas.{word-refused, remove-refused}
use Rattle.route_lines.proofs.laws.calls.refused_calls_change_nothing.Goals as goal

pub returns : goal.returns
returns c = record {
  place = λ s key word refusal e. rw e refl;
  word = word-refused;
  start = λ s at refusal e. rw e refl;
  extend = λ s t at refusal e. rw e refl;
  join = λ s t u refusal e. rw e refl;
  cut = λ s t refusal e. rw e refl;
  swap = λ s t u refusal e. rw e refl;
  mark = λ s at t refusal e. rw e refl;
  remove = remove-refused;
}

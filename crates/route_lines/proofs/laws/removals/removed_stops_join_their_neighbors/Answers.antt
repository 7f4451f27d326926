use Rattle.std.proofs.Common.{refl, arith}
use Rattle.std.proofs.lemmas.List.{length-map}
use Rattle.route_lines.specs.Calls.{clear_mark_stop}
use Rattle.route_lines.specs.State.{Mark}
use Rattle.route_lines.specs.NamedLaws.{one_stop}
use Rattle.route_lines.proofs.PastLemmas.{length-taken_out, next-taken_out, stop-taken_out}
use Rattle.route_lines.proofs.RemovedLemmas.{find-map}
use Rattle.route_lines.proofs.laws.removals.removed_stops_join_their_neighbors.Goals as goal

pub returns : goal.returns
returns c = record {
  stops = λ s t x u sound e. rw e (stop-taken_out t s.routes sound.routes x);
  next = λ s t x u sound e other. let one = one_stop s t u sound e in
      rw e (next-taken_out t s.routes sound.routes (omega (arith, one.stops)) x other);
  places = λ s t u sound e. rw e refl;
  marks = λ s t x u sound e. rw e
      (find-map (λ (m : Mark). m.ticket) (clear_mark_stop t) x s.marks (λ m. refl));
  stop_count = λ s t u sound e. rw e
      (omega (arith, length-taken_out t s.routes sound.routes, (one_stop s t u sound e).stops));
  mark_count = λ s t u sound e. rw e (length-map s.marks (clear_mark_stop t));
}

use Rattle.std.proofs.Common.{refl, ◌==◌, arith}
use Rattle.route_lines.specs.State.{Mark}
use Rattle.route_lines.specs.NamedLaws.{one_mark}
use Rattle.route_lines.proofs.RemovedLemmas.{find-filter, length-filter}
use Rattle.route_lines.proofs.laws.removals.removed_marks_leave_all_else.Goals as goal

pub returns : goal.returns
returns c = record {
  marks = λ s t x m sound e. rw e (find-filter (λ (n : Mark). n.ticket) t x s.marks);
  places = λ s t m sound e. rw e refl;
  routes = λ s t m sound e. rw e refl;
  mark_count = λ s t m sound e. rw e
      (omega (
        arith,
        length-filter (λ (n : Mark). n.ticket == t) s.marks,
        (one_mark s t m sound e).marks,
      ));
}

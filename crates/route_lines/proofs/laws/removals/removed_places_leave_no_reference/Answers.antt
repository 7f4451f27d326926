use Rattle.std.proofs.Common.{◌==◌, refl, arith}
use Rattle.std.proofs.lemmas.List.{length-map}
use Rattle.route_lines.specs.Calls.{clear_mark}
use Rattle.route_lines.specs.State.{Mark, Place}
use Rattle.route_lines.proofs.EndedLemmas.{next-cleared, stop-cleared}
use Rattle.route_lines.specs.NamedLaws.{one_place}
use Rattle.route_lines.proofs.RemovedLemmas.{find-filter, find-map, length-cleared, length-filter}
use Rattle.route_lines.proofs.laws.removals.removed_places_leave_no_reference.Goals as goal

pub returns : goal.returns
returns c = record {
  places = λ s t x p sound e. rw e (find-filter (λ (q : Place). q.ticket) t x s.places);
  stops = λ s t x p sound e. rw e (stop-cleared t x s.routes);
  marks = λ s t x p sound e. rw e
      (find-map (λ (m : Mark). m.ticket) (clear_mark t) x s.marks (λ m. refl));
  next = λ s t x p sound e. rw e (next-cleared t x s.routes sound.routes);
  place_count = λ s t p sound e. rw e
      (omega (
        arith,
        length-filter (λ (q : Place). q.ticket == t) s.places,
        (one_place s t p sound e).places,
      ));
  stop_count = λ s t p sound e. rw e (length-cleared t s.routes);
  mark_count = λ s t p sound e. rw e (length-map s.marks (clear_mark t));
}

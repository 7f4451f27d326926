use Rattle.route_lines.proofs.FirstPlaceLemmas.{found_none, found_smallest}
use Rattle.route_lines.proofs.laws.places.finds_answer_the_smallest_ticket.Goals as goal

pub returns : goal.returns
returns c = record { smallest = found_smallest; none = found_none }

use Rattle.route_lines.proofs.TicketLemmas.{place-new, start-new, extend-new, mark-new}
use Rattle.route_lines.proofs.laws.calls.new_tickets_come_next.Goals as goal

pub returns : goal.returns
returns c = record { place = place-new; start = start-new; extend = extend-new; mark = mark-new }

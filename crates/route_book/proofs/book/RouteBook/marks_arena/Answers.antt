use Rattle.triple_arena.specs.Content.{entry_at}
use Rattle.ticket_book.specs.declared.entry.Kind.TheVariants.{Mark as OfMark}
use Rattle.route_book.specs.Item.{MarkView}
use Rattle.route_book.proofs.HoldLemmas.{booked_once}
use Rattle.route_book.proofs.book.RouteBook.marks_arena.Goals as goal

pub returns-clause-apart : goal.returns-clause-apart
returns-clause-apart g c =
    booked_once (λ (m : MarkView). m.ticket) OfMark (entry_at c.self.inside.marks) _
    c.self.invariant.book.held.marks_in

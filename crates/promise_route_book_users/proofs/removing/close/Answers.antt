use Rattle.promise_route_book_users.proofs.ReferenceLemmas.{dead}
use Rattle.promise_route_book_users.proofs.removing.close.Goals as goal

pub returns-clause-dead : goal.returns-clause-dead
returns-clause-dead g c = λ p is.
    dead c.args.ticket c.args.book.now c.remove_counted-closed.new.self c.stops_arena-2.result.now
    c.stops_arena-2.ensures.content c.remove_counted-closed.ensures.state
    (λ x. c.removed_places_leave_no_reference.ensures.stops c.args.book.now.state c.args.ticket x p
    c.stops_arena.ensures.sound is) c.stops_arena-2.ensures.items

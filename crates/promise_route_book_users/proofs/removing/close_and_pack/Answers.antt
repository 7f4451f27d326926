use Rattle.std.proofs.Common.{◌∙◌}
use Rattle.promise_route_book_users.proofs.ReferenceLemmas.{dead, gone}
use Rattle.promise_route_book_users.proofs.removing.close_and_pack.Goals as goal

pub returns-clause-gone : goal.returns-clause-gone
returns-clause-gone g c = λ p is.
    gone c.args.ticket c.args.book.now c.pack_counted.new.self
    (dead c.args.ticket c.args.book.now c.pack_counted.new.self c.stops_arena-2.result.now
    c.stops_arena-2.ensures.content
    (c.pack_counted.ensures.state ∙ c.in_ok-remove_counted.ensures.state)
    (λ x. c.removed_places_leave_no_reference.ensures.stops c.args.book.now.state c.args.ticket x p
    c.stops_arena.ensures.sound is) c.stops_arena-2.ensures.items)
    c.pack_counted.ensures.packed.stops

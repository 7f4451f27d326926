use Rattle.std.proofs.Common.{arith}
use Rattle.promise_route_book_users.proofs.HintLemmas.{last_is_near}
use Rattle.promise_route_book_users.proofs.placing.place_last.Goals as goal

pub returns-clause-compares : goal.returns-clause-compares
returns-clause-compares g c = λ last.
    let near = last_is_near c.args.book.now.state c.args.last c.args.key
    c.places_arena.ensures.sound last in
    let key = c.place_near_counted.ensures.counts.key in
    omega (arith, near, key)

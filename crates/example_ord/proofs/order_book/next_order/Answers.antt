use Rattle.std.proofs.Common.{IsSome}
use Rattle.triple_arena.specs.Entries.{value_if}
use Rattle.example_ord.specs.OrderBooks.{orders_in}
use Rattle.example_ord.proofs.OrderBookLemmas.{stepped, next_given}
use Rattle.example_ord.proofs.order_book.next_order.Goals as goal

pub returns-clause-next : goal.returns-clause-next
returns-clause-next g c =
    let o = c.args.book.now in
    let index = g.P.PtrCore.index in
    let generation = g.P.PtrCore.generation in
    let from = c.in_ok-walk.ensures.along in
    let left = stepped index generation o c.in_ok-walk.walk c.advance.new.self
    c.advance.result (index c.args.p) from.after c.advance.ensures.given from.left_is in
    (next_given index generation o
    (IsSome (value_if (generation c.args.p) (orders_in o (index c.args.p))))
    from.before from.after (index c.args.p) from.is c.advance.new.self c.advance-2.new.self
    c.advance-2.result c.advance-2.ensures.given left).0

pub returns-clause-none : goal.returns-clause-none
returns-clause-none g c =
    let o = c.args.book.now in
    let index = g.P.PtrCore.index in
    let generation = g.P.PtrCore.generation in
    let from = c.in_ok-walk.ensures.along in
    let left = stepped index generation o c.in_ok-walk.walk c.advance.new.self
    c.advance.result (index c.args.p) from.after c.advance.ensures.given from.left_is in
    (next_given index generation o
    (IsSome (value_if (generation c.args.p) (orders_in o (index c.args.p))))
    from.before from.after (index c.args.p) from.is c.advance.new.self c.advance-2.new.self
    c.advance-2.result c.advance-2.ensures.given left).1

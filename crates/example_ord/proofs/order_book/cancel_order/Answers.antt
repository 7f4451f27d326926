use Rattle.std.proofs.Common.{sym, ◌∙◌}
use Rattle.triple_arena_ptr.specs.InvalidationOption.{value_of}
use Rattle.triple_arena_ptr.specs.InvalidationResult.{answer_of}
use Rattle.triple_arena_ord.specs.Removal.{IsEntryRemoved}
use Rattle.example_ord.proofs.OrderBookLemmas.{where_some}
use Rattle.example_ord.proofs.order_book.cancel_order.Goals as goal

pub returns-clause-book : goal.returns-clause-book
returns-clause-book g c =
    let last = g.P.Gen.PtrGenCore.last in
    let i = g.P.PtrCore.index c.args.p in
    let old = c.args.book.now in
    let new = c.remove.new.self in
    let removed : IsEntryRemoved last i old new =
    where_some value_of (answer_of c.remove.result) c.in_ok-pair.pair
    (sym c.allow.ensures ∙ c.in_ok-pair.was) c.remove.ensures.exact in
    c.removals_keep_keys_ascending.ensures last i old new removed c.requires

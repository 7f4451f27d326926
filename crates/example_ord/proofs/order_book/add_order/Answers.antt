use Rattle.std.proofs.Common.{sym, subst}
use Rattle.std.specs.Ordering.{nat_cmp}
use Rattle.triple_arena_ord.specs.Ordered.{NoneGreater, NoneLess, order_in}
use Rattle.example_ord.proofs.OrderBookLemmas.{not_less_before, not_greater_behind, price_of}
use Rattle.example_ord.proofs.order_book.add_order.Goals as goal

pub returns-clause-book : goal.returns-clause-book
returns-clause-book g c =
    let index = g.P.PtrCore.index in
    let generation = g.P.PtrCore.generation in
    let old = c.args.book.now in
    let put = c.insert_inx_manual_within_capacity in
    let i = index put.result in
    let b = c.place_behind-place.ensures.behind (order_in put.new.self) i put.ensures.stands
    in
    c.insertions_keep_keys_ascending.ensures.between i (generation put.result) c.new.result old
    put.new.self put.ensures.ordered put.ensures.added (record {
      before = b.before;
      after = b.after;
      was = b.was;
      is = b.is;
      none_greater = subst (λ z. NoneGreater nat_cmp price_of z old b.before)
          (sym c.new.ensures.key)
          (not_less_before index generation old c.args.price b.before b.not_greater);
      none_less = subst (λ z. NoneLess nat_cmp price_of z old b.after) (sym c.new.ensures.key)
          (not_greater_behind index generation old c.args.price b.after b.greater);
    })
    c.requires

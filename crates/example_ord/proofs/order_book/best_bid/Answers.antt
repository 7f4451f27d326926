use Rattle.std.proofs.Common.{rules, ◌≡◌, sym, ap, ◌∙◌, Some}
use Rattle.std.specs.Option.{option_map}
use Rattle.triple_arena.specs.Content.{live_count}
use Rattle.example_ord.specs.OrderBooks.{price_in}
use Rattle.example_ord.proofs.OrderBookLemmas.{BestBid, best_bid_of, bid_if, bid_unless}
use Rattle.example_ord.proofs.order_book.best_bid.Goals as goal

bid : (g : _) (c : goal.After-lower_bound g) → BestBid g.P.PtrCore.index
    g.P.PtrCore.generation c.args.book.now c.lower_bound.result
bid g c =
    let index = g.P.PtrCore.index in
    let generation = g.P.PtrCore.generation in
    let o = c.args.book.now in
    let ordered = c.len.ensures.formed.ordered in
    let own = c.k.result.now in
    let last = index c.in_ok-last.last in
    let price : price_in o last ≡ Some own = search rules in
    best_bid_of index generation o ordered last own
    (sym c.last.ensures.at ∙ ap (option_map index) c.in_ok-last.was) price
    (λ front back i entry is stands. c.keys_ascend_along_the_list.ensures.before o front back i
    entry ordered c.requires is stands) c.lower_bound.result
    (c.lower_bound.ensures.bound c.requires)

pub returns-clause-best : goal.returns-clause-best
returns-clause-best g c =
    bid_if g.P.PtrCore.index g.P.PtrCore.generation c.args.book.now
    c.lower_bound.result (bid g c)

pub returns-clause-none : goal.returns-clause-none
returns-clause-none g c =
    bid_unless g.P.PtrCore.index g.P.PtrCore.generation c.args.book.now
    c.lower_bound.result (bid g c) (live_count c.args.book.now.chains ≡ 0)

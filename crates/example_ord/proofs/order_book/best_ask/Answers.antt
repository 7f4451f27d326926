use Rattle.std.proofs.Common.{[]}
use Rattle.example_ord.proofs.OrderBookLemmas.{best_ask_of}
use Rattle.example_ord.proofs.order_book.best_ask.Goals as goal

pub returns-clause-best : goal.returns-clause-best
returns-clause-best g c =
    let o = c.args.book.now in
    let ordered = c.len.ensures.formed.ordered in
    best_ask_of g.P.PtrCore.index g.P.PtrCore.generation o ordered
    c.first.result c.first.ensures.at
    (λ back i entry is stands. c.keys_ascend_along_the_list.ensures.after o [] back i entry ordered
    c.requires is stands)

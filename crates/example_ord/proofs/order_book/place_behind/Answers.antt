use Rattle.std.proofs.Common.{sym, ap, ◌∙◌, Some}
use Rattle.std.specs.Option.{option_map}
use Rattle.example_ord.proofs.OrderBookLemmas.{behind_next, behind_last, behind_none}
use Rattle.example_ord.proofs.order_book.place_behind.Goals as goal

pub returns-in-Some-clause-behind : goal.returns-in-Some-clause-behind
returns-in-Some-clause-behind g c =
    behind_next g.P.PtrCore.index g.P.PtrCore.generation
    c.args.book.now c.args.price c.len.ensures.formed.ordered c.upper_bound.result
    (c.upper_bound.ensures.bound c.requires) c.in-Some.next c.in-Some.is
    (g.P.Inx.PtrInxCore.number c.inx.result) c.inx.ensures

pub returns-in-Some-last-clause-behind : goal.returns-in-Some-last-clause-behind
returns-in-Some-last-clause-behind g c =
    behind_last g.P.PtrCore.index g.P.PtrCore.generation
    c.args.book.now c.args.price c.len.ensures.formed.ordered c.upper_bound.result
    (c.upper_bound.ensures.bound c.requires) c.in-None.is
    (g.P.Inx.PtrInxCore.number c.inx-in-Some-last.result)
    (sym c.last.ensures.at ∙ ap (option_map g.P.PtrCore.index) c.in-Some-last.is
    ∙ ap Some (sym c.inx-in-Some-last.ensures))

pub returns-in-None-last-clause-behind : goal.returns-in-None-last-clause-behind
returns-in-None-last-clause-behind g c =
    behind_none g.P.PtrCore.index g.P.PtrCore.generation
    c.args.book.now c.args.price c.len.ensures.formed.ordered c.upper_bound.result
    (c.upper_bound.ensures.bound c.requires)

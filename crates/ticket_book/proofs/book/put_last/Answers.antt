use Rattle.std.proofs.Common.{◌∙◌, ap, sym, option_map, Some}
use Rattle.ticket_book.proofs.TicketLemmas.{added_behind, added_first}
use Rattle.ticket_book.proofs.book.put_last.Goals as goal

pub returns-in-Some-clause-entries : goal.returns-in-Some-clause-entries
returns-in-Some-clause-entries g c =
    let last = sym c.last.ensures.at ∙ ap (option_map g.P.PtrCore.index) c.in-Some.is
    ∙ ap Some (sym c.inx.ensures) in
    let put = c.insert_inx_manual_within_capacity in
    added_behind c.args.arena.now put.new.self _ _
    c.args.entry c.len.ensures.formed.ordered put.ensures.added
    (g.P.Inx.PtrInxCore.number c.inx.result) put.ensures.stands last

pub returns-in-None-clause-entries : goal.returns-in-None-clause-entries
returns-in-None-clause-entries g c =
    let put = c.insert_inx_manual_within_capacity-in-None in
    added_first c.args.arena.now put.new.self _ _
    c.args.entry c.len.ensures.formed.ordered put.ensures.added put.ensures.stands

use Rattle.std.proofs.Common.{◌∙◌, ap, sym, subst, ℕ, IsSome, option_map}
use Rattle.ticket_book.specs.Tickets.{Entry, Tickets, entry_at}
use Rattle.ticket_book.proofs.StandingLemmas.{none_stands, stands_there}
use Rattle.ticket_book.proofs.book.TicketBook.entry.Goals as goal

pub unreached-unreachable-requires : goal.unreached-unreachable-requires
unreached-unreachable-requires g c =
    let number = g.P.Inx.PtrInxCore.number in
    let there = ap (λ (book : Tickets). entry_at book (number c.args.at)) (sym c.self.view_is)
    ∙ stands_there c.entries_stand_in_the_list.ensures c.self.inside.arena
    c.len.ensures.formed.ordered (number c.args.at) in
    none_stands (λ e. (g.P.Gen.PtrGenCore.number e.0, e.1.now)) _ _ c.get_inx.ensures c.in-None.is
    (subst IsSome there c.requires.stands)

pub returns : goal.returns
returns g c =
    let number = g.P.Inx.PtrInxCore.number in
    ap (λ (book : Tickets). entry_at book (number c.args.at)) (sym c.self.view_is)
    ∙ stands_there c.entries_stand_in_the_list.ensures c.self.inside.arena
    c.len.ensures.formed.ordered (number c.args.at)
    ∙ ap (option_map (λ (x : ℕ × Entry). x.1)) (sym c.get_inx.ensures)
    ∙ ap (option_map (λ (x : ℕ × Entry). x.1))
    (ap (option_map (λ e. (g.P.Gen.PtrGenCore.number e.0, e.1.now))) c.in-Some.is)

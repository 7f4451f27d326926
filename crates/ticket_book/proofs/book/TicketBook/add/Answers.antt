use Rattle.std.proofs.Common.{◌∙◌, ◌++◌, ◌∷◌, ◌<◌, [], ap, sym, subst, Some}
use Rattle.std.specs.List.{AllByRecursion}
use Rattle.triple_arena_ord.specs.Ordered.{entry_in}
use Rattle.ticket_book.specs.InArena.{StandByNumber, entries_of}
use Rattle.ticket_book.specs.Tickets.{Entry, Tickets, TicketsRise, elsewhere_after, entry_at}
use Rattle.ticket_book.proofs.LookLemmas.{numbered_added}
use Rattle.ticket_book.proofs.StandingLemmas.{added_stands, still_stand}
use Rattle.ticket_book.proofs.TicketLemmas.{TicketsRise-added}
use Rattle.ticket_book.proofs.book.TicketBook.add.Goals as goal

pub invariant_of-self : goal.invariant_of-self
invariant_of-self g c =
    let put = c.put_last-p in
    let above = subst (AllByRecursion (λ (e : Entry). e.ticket < c.args.ticket))
    (ap (λ (book : Tickets). book.entries) (sym c.self.view_is)) c.requires.above in
    let ticket : AllByRecursion (λ (e : Entry). e.ticket < c.new-entry.result.ticket)
    (entries_of c.self.inside.arena) =
    rw c.new-entry.ensures above in (
      subst TicketsRise (sym put.ensures.entries)
          (TicketsRise-added _ _ c.self.invariant.0 ticket),
      subst (λ n. StandByNumber n (entry_in put.new.arena))
          (sym c.elsewhere_after-self-inside.ensures)
          (subst (λ i. StandByNumber (elsewhere_after c.self.inside.first_elsewhere i
          c.args.ticket) (entry_in put.new.arena)) (sym c.inx.ensures)
          (numbered_added _ c.args.ticket _ _ c.new-entry.result _ _
          (ap (λ (e : Entry). e.ticket) c.new-entry.ensures) put.ensures.added.entries
          c.self.invariant.1)),
    )

pub returns-clause-entries : goal.returns-clause-entries
returns-clause-entries g c =
    c.put_last-p.ensures.entries
    ∙ ap (λ e. entries_of c.self.inside.arena ++ e ∷ [])
    c.new-entry.ensures
    ∙ ap (λ (book : Tickets). book.entries ++ record {
      ticket = c.args.ticket;
      kind = c.args.kind;
      index = g.P.PtrCore.index c.args.at;
      generation = g.P.PtrCore.generation c.args.at;
    } ∷ [])
    c.self.view_is

pub returns-clause-stands : goal.returns-clause-stands
returns-clause-stands g c =
    let put = c.put_last-p in
    added_stands c.entries_stand_in_the_list.ensures
    c.self.inside.arena put.new.arena _ _ _ put.ensures.ordered put.ensures.added _
    (ap (λ (book : Tickets). book.next_index) (sym c.self.view_is) ∙ sym put.ensures.added.index)
    ∙ ap Some c.new-entry.ensures

pub returns-clause-stay : goal.returns-clause-stay
returns-clause-stay g c i e stood =
    let put = c.put_last-p in
    still_stand c.entries_stand_in_the_list.ensures c.self.inside.arena
    put.new.arena _ _ _ c.len.ensures.formed.ordered put.ensures.ordered put.ensures.added i e
    (ap (λ (book : Tickets). entry_at book i) c.self.view_is ∙ stood)

pub returns-clause-elsewhere : goal.returns-clause-elsewhere
returns-clause-elsewhere g c =
    c.elsewhere_after-self-inside.ensures
    ∙ ap (λ i. elsewhere_after c.self.inside.first_elsewhere i c.args.ticket)
    (c.inx.ensures ∙ c.put_last-p.ensures.added.index)
    ∙ ap (λ (book : Tickets). elsewhere_after book.first_elsewhere book.next_index c.args.ticket)
    c.self.view_is

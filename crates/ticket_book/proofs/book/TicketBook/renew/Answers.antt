use Rattle.std.proofs.Common.{◌≡◌, ◌∙◌, ap, sym, subst, refl, ℕ, Option, map, option_map}
use Rattle.triple_arena_ord.specs.Ordered.{entry_in, order_in}
use Rattle.ticket_book.specs.AlongLaws.{along}
use Rattle.ticket_book.specs.Mirrors.{numbers, renewed_entry}
use Rattle.ticket_book.specs.Tickets.{Entry, Tickets, TicketsRise, entry_at}
use Rattle.ticket_book.proofs.EndLemmas.{along_renewed}
use Rattle.ticket_book.proofs.LookLemmas.{numbered_renewed}
use Rattle.ticket_book.proofs.StandingLemmas.{stands_renewed, stands_there}
use Rattle.ticket_book.proofs.TakeOverLemmas.{rise_over}
use Rattle.ticket_book.proofs.book.TicketBook.renew.Given.{Over}
use Rattle.ticket_book.proofs.book.TicketBook.renew.Goals.{After-renew_entries}
use Rattle.ticket_book.proofs.book.TicketBook.renew.Goals as goal

module _ (g : Over) (c : After-renew_entries g) where
  abbrev f : Entry → Entry
  f = renewed_entry
      (numbers g.P.PtrCore.index g.P.PtrCore.generation
      (g.M.ArenaTrait.entry_at c.args.places.now))
      (numbers g.P.PtrCore.index g.P.PtrCore.generation (g.N.ArenaTrait.entry_at c.args.stops.now))
      (numbers g.P.PtrCore.index g.P.PtrCore.generation (g.O.ArenaTrait.entry_at c.args.marks.now))

  abbrev at : ℕ → Option (ℕ × Entry)
  at = entry_in c.self.inside.arena

  abbrev at' : ℕ → Option (ℕ × Entry)
  at' = entry_in c.renew_entries.new.arena

  -- the entries along the list
  all : along at' (order_in c.renew_entries.new.arena)
      ≡ map f (along at (order_in c.self.inside.arena))
  all = ap (along at') c.renew_entries.ensures.order
      ∙ along_renewed f at at' c.renew_entries.ensures.entries (order_in c.self.inside.arena)

pub invariant_of-self : goal.invariant_of-self
invariant_of-self g c =
    let done = (goal.at.invariant_of-self g c).After-renew_entries in (
      subst TicketsRise (sym (all g done)) (rise_over (f g done) (λ e. refl) _ c.self.invariant.0),
      numbered_renewed (f g done) _ (at g done) (at' g done) (λ e. refl)
          c.renew_entries.ensures.entries c.self.invariant.1,
    )

pub returns-clause-stands : goal.returns-clause-stands
returns-clause-stands g c =
    let f = f g (goal.at.returns-clause-stands g c).After-renew_entries in
    let old = c.self.inside.arena in
    let new = c.renew_entries.new.arena in
    let law = c.entries_stand_in_the_list.ensures in
    λ i. stands_there law new c.len-2.ensures.formed.ordered i
    ∙ stands_renewed f (entry_in old i) (entry_in new i) (c.renew_entries.ensures.entries i)
    ∙ ap (option_map f) (sym (stands_there law old c.len.ensures.formed.ordered i))
    ∙ ap (λ (b : Tickets). option_map f (entry_at b i)) c.self.view_is

pub returns-clause-entries : goal.returns-clause-entries
returns-clause-entries g c =
    let done = (goal.at.returns-clause-entries g c).After-renew_entries in
    all g done ∙ ap (λ (b : Tickets). map (f g done) b.entries) c.self.view_is

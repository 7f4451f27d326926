use Rattle.std.proofs.Common.{◌≡◌, ◌∙◌, ◌+◌, ◌≤◌, ap, sym, subst, refl, ℕ, length, option_map}
use Rattle.rank_tree.specs.Comparisons.{most_comparisons}
use Rattle.triple_arena_ord.specs.Ordered.{entry_in, size_in}
use Rattle.ticket_book.specs.InArena.{asked_in}
use Rattle.ticket_book.specs.Tickets.{Entry, Tickets, asked_among, entry_at, lookup}
use Rattle.ticket_book.proofs.AskedLemmas.{asked_there, asked_within}
use Rattle.ticket_book.proofs.StandingLemmas.{stands_there}
use Rattle.ticket_book.proofs.TicketLemmas.{ascending, lookup_found, lookup_missing}
use Rattle.ticket_book.proofs.book.TicketBook.search.Given.{Over}
use Rattle.ticket_book.proofs.book.TicketBook.search.Goals.{After-len}
use Rattle.ticket_book.proofs.book.TicketBook.search.Goals as goal

module _ (g : Over) (c : After-len g) where
  abbrev asked_of : Tickets → ℕ
  asked_of book = asked_among book.asked_below book.entries book.asked_along c.args.ticket

  -- the number that stands for the search
  asked : asked_in c.self.inside.arena c.args.ticket ≡ asked_of c.args.self.now
  asked = sym (asked_there c.self.inside.arena c.args.ticket c.self.invariant.0)
      ∙ ap asked_of c.self.view_is

  within : (new : ℕ) → new ≡ c.args.probes.now + asked_in c.self.inside.arena c.args.ticket
      → new ≤ c.args.probes.now + most_comparisons (size_in c.self.inside.arena)
      → asked_of c.args.self.now ≤ most_comparisons (length c.args.self.now.entries)
  within new ticks bound =
      subst (λ (book : Tickets). asked_of book ≤ most_comparisons (length book.entries))
      c.self.view_is
      (asked_within c.self.inside.arena c.args.ticket _ new c.self.invariant.0 ticks bound
      (c.the_list_has_as_many_entries_as_are_live.ensures c.self.inside.arena
      c.len.ensures.formed.ordered))

pub returns-in-Some-clause-found : goal.returns-in-Some-clause-found
returns-in-Some-clause-found g c =
    let number = g.P.Inx.PtrInxCore.number in
    let there = lookup_found c.entries_stand_in_the_list.ensures g.P.PtrCore.index
    g.P.PtrCore.generation c.self.inside.arena c.args.ticket c.in-Some.p
    c.len.ensures.formed.ordered c.self.invariant.0
    (c.in-Some.ensures.found.some c.in-Some.p refl) in
    let stands = ap (λ (book : Tickets). entry_at book (number c.inx.result)) (sym c.self.view_is)
    ∙ stands_there c.entries_stand_in_the_list.ensures c.self.inside.arena
    c.len.ensures.formed.ordered (number c.inx.result)
    ∙ ap (option_map (λ (x : ℕ × Entry). x.1)) (ap (entry_in c.self.inside.arena) c.inx.ensures)
    ∙ there.1.0 in
    let known = ap (λ (book : Tickets). lookup book.entries c.args.ticket) (sym c.self.view_is)
    ∙ there.1.1 in
    (there.0, stands, known)

pub returns-in-None-clause-none : goal.returns-in-None-clause-none
returns-in-None-clause-none g c =
    ap (λ (book : Tickets). lookup book.entries c.args.ticket) (sym c.self.view_is)
    ∙ sym (lookup_missing c.self.inside.arena c.args.ticket
    (c.in-None.ensures.found.none (ascending _ c.self.invariant.0) refl))

pub returns-in-Some-clause-ticks : goal.returns-in-Some-clause-ticks
returns-in-Some-clause-ticks g c =
    c.in-Some.ensures.ticks ∙ ap (λ n. c.args.probes.now + n)
    (asked g (goal.at.returns-in-Some-clause-ticks g c).After-len)

pub returns-in-Some-clause-bound : goal.returns-in-Some-clause-bound
returns-in-Some-clause-bound g c =
    within g (goal.at.returns-in-Some-clause-bound g c).After-len _ c.in-Some.ensures.ticks
    c.in-Some.ensures.bound

pub returns-in-None-clause-ticks : goal.returns-in-None-clause-ticks
returns-in-None-clause-ticks g c =
    c.in-None.ensures.ticks ∙ ap (λ n. c.args.probes.now + n)
    (asked g (goal.at.returns-in-None-clause-ticks g c).After-len)

pub returns-in-None-clause-bound : goal.returns-in-None-clause-bound
returns-in-None-clause-bound g c =
    within g (goal.at.returns-in-None-clause-bound g c).After-len _ c.in-None.ensures.ticks
    c.in-None.ensures.bound

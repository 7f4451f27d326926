use Rattle.std.proofs.Common.{◌∙◌, ap, sym, subst, ℕ, IsSome, option_map}
use Rattle.triple_arena_ptr.specs.InvalidationOption.{value_of}
use Rattle.ticket_book.specs.Tickets.{Entry, Tickets, entry_at, lookup, without_ticket}
use Rattle.ticket_book.proofs.EndLemmas.{IsTakenFrom, none_taken, taken_from}
use Rattle.ticket_book.proofs.StandingLemmas.{stands_there}
use Rattle.ticket_book.proofs.TicketLemmas.{lookup_standing}
use Rattle.ticket_book.proofs.book.TicketBook.take.Given.{Over}
use Rattle.ticket_book.proofs.book.TicketBook.take.Goals.{In-Some}
use Rattle.ticket_book.proofs.book.TicketBook.take.Goals as goal

taken : (g : Over) (c : In-Some g) → IsTakenFrom c.self.inside.arena c.remove_inx.new.self
    (g.P.Inx.PtrInxCore.number c.args.at) (g.P.Gen.PtrGenCore.number c.in-Some.taken.0)
    c.in-Some.taken.1
taken g c =
    taken_from _ _ c.len.ensures.formed.ordered c.self.invariant.0 g.P.Gen.PtrGenCore.number
    value_of _ _ _ c.in-Some.taken (sym c.allow.ensures ∙ c.in-Some.is) c.remove_inx.ensures.value
    c.remove_inx.ensures.exact

pub invariant_of-self : goal.invariant_of-self
invariant_of-self g c =
    let done = taken g (goal.at.invariant_of-self g c).In-Some in
    (done.rise, done.numbered _ c.self.invariant.1)

pub returns-clause-entry : goal.returns-clause-entry
returns-clause-entry g c =
    let number = g.P.Inx.PtrInxCore.number in
    ap (λ (book : Tickets). entry_at book (number c.args.at)) (sym c.self.view_is)
    ∙ stands_there c.entries_stand_in_the_list.ensures c.self.inside.arena
    c.len.ensures.formed.ordered (number c.args.at)
    ∙ ap (option_map (λ (x : ℕ × Entry). x.1))
    (taken g (goal.at.returns-clause-entry g c).In-Some).stood

pub unreached-unreachable-requires : goal.unreached-unreachable-requires
unreached-unreachable-requires g c =
    let number = g.P.Inx.PtrInxCore.number in
    let there = ap (λ (book : Tickets). entry_at book (number c.args.at)) (sym c.self.view_is)
    ∙ stands_there c.entries_stand_in_the_list.ensures c.self.inside.arena
    c.len.ensures.formed.ordered (number c.args.at) in
    none_taken value_of (λ a. (g.P.Gen.PtrGenCore.number (value_of a).0, (value_of a).1)) _ _
    (sym c.allow.ensures ∙ c.in-None.is) c.remove_inx.ensures.value
    (subst IsSome there c.requires.stands)

pub returns-clause-found : goal.returns-clause-found
returns-clause-found g c =
    ap (λ (book : Tickets). lookup book.entries c.in-Some.taken.1.ticket) (sym c.self.view_is)
    ∙ lookup_standing c.entries_stand_in_the_list.ensures c.self.inside.arena _ _
    c.len.ensures.formed.ordered c.self.invariant.0
    (taken g (goal.at.returns-clause-found g c).In-Some).stood

pub returns-clause-out : goal.returns-clause-out
returns-clause-out g c =
    (taken g (goal.at.returns-clause-out g c).In-Some).out
    ∙ ap (λ (book : Tickets). without_ticket c.in-Some.taken.1.ticket book.entries) c.self.view_is

pub returns-clause-stay : goal.returns-clause-stay
returns-clause-stay g c i other =
    let law = c.entries_stand_in_the_list.ensures in
    stands_there law c.remove_inx.new.self c.remove_inx.ensures.formed.ordered i
    ∙ ap (option_map (λ (x : ℕ × Entry). x.1))
    ((taken g (goal.at.returns-clause-stay g c).In-Some).others i other)
    ∙ sym (stands_there law c.self.inside.arena c.len.ensures.formed.ordered i)
    ∙ ap (λ (book : Tickets). entry_at book i) c.self.view_is

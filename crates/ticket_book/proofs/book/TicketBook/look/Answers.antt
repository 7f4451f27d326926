use Rattle.std.proofs.Common.{◌≡◌, ◌∙◌, ◌<◌, ◌≤◌, ap, sym, subst, ℕ, None, Some, option_map, length}
use Rattle.rank_tree.specs.Comparisons.{most_comparisons}
use Rattle.triple_arena_ord.specs.Ordered.{entry_in, ordered_entries}
use Rattle.ticket_book.specs.Tickets.{Entry, Tickets, entry_at, look_count, lookup}
use Rattle.ticket_book.proofs.LookLemmas.{look_within, looked_at_none, looked_at_one, missing_there}
use Rattle.ticket_book.proofs.LookLemmas.{none_there, nowhere, other_there}
use Rattle.ticket_book.proofs.StandingLemmas.{stands_there}
use Rattle.ticket_book.proofs.TicketLemmas.{lookup_standing}
use Rattle.ticket_book.proofs.book.TicketBook.look.Goals.{After-capacity, In-Some-get_inx}
use Rattle.ticket_book.proofs.book.TicketBook.look.Goals.{In-None-get_inx, In-None}
use Rattle.ticket_book.proofs.book.TicketBook.look.Goals as goal

-- what stands at an index is what the arena has there
there : (g : _) (c : After-capacity g) (i : ℕ)
    → entry_at c.args.self.now i
    ≡ option_map (λ (e : ℕ × Entry). e.1) (entry_in c.self.inside.arena i)
there g c i =
    ap (λ (b : Tickets). entry_at b i) (sym c.self.view_is)
    ∙ stands_there c.entries_stand_in_the_list.ensures
    c.self.inside.arena c.len.ensures.formed.ordered i

-- a look is within the bound
within : (g : _) (c : After-capacity g) → look_count (entry_at c.args.self.now c.args.ticket)
    ≤ most_comparisons (length c.args.self.now.entries)
within g c =
    subst (λ (b : Tickets). look_count (entry_at b c.args.ticket)
    ≤ most_comparisons (length b.entries)) c.self.view_is
    (look_within (ordered_entries c.self.inside.arena) c.args.ticket)

-- a ticket that is not at its own number
missing : (g : _) (c : After-capacity g)
    → ((e : ℕ × Entry) → entry_in c.self.inside.arena c.args.ticket ≡ Some e
    → e.1.ticket ≡ c.args.ticket → ⊥)
    → c.args.ticket < c.args.self.now.first_elsewhere
    → lookup c.args.self.now.entries c.args.ticket ≡ None
missing g c apart =
    subst (λ (b : Tickets). c.args.ticket < b.first_elsewhere
    → lookup b.entries c.args.ticket ≡ None) c.self.view_is
    (missing_there c.self.inside.arena _ c.args.ticket
    c.self.invariant.1 apart)

-- the entry there
one : (g : _) (c : In-Some-get_inx g)
    → entry_in c.self.inside.arena (g.P.Inx.PtrInxCore.number c.in-Some.at)
    ≡ Some (g.P.Gen.PtrGenCore.number c.in-Some-get_inx.found.0, c.in-Some-get_inx.found.1.now)
one g c =
    sym c.get_inx.ensures
    ∙ ap (option_map (λ e. (g.P.Gen.PtrGenCore.number e.0, e.1.now))) c.in-Some-get_inx.is

-- none is there
none : (g : _) (c : In-None-get_inx g) → entry_in c.self.inside.arena c.args.ticket ≡ None
none g c =
    ap (entry_in c.self.inside.arena) (sym c.in-Some.ensures.same)
    ∙ sym c.get_inx.ensures
    ∙ ap (option_map (λ e. (g.P.Gen.PtrGenCore.number e.0, e.1.now))) c.in-None-get_inx.is

no_index : (g : _) (c : In-None g) → entry_in c.self.inside.arena c.args.ticket ≡ None
no_index g c =
    nowhere c.self.inside.arena g.P.Inx.PtrInxCore.greatest c.args.ticket
    c.len.ensures.formed.chained.formed
    (subst (λ n. n ≤ _) c.capacity.ensures.value c.capacity.ensures.bounded)
    c.in-None.ensures.none

pub returns-then-ticket-clause-found : goal.returns-then-ticket-clause-found
returns-then-ticket-clause-found g c =
    let at = goal.at.returns-then-ticket-clause-found g c in
    let stood = one g at.In-Some-get_inx in
    let ticket_is = sym c.if-ticket.true ∙ c.ticket.ensures in (
      c.in-Some-get_inx.found.1.now,
      there g at.After-capacity _ ∙ ap (option_map (λ (e : ℕ × Entry). e.1)) stood,
      ap (λ (b : Tickets). lookup b.entries c.args.ticket) (sym c.self.view_is)
          ∙ ap (lookup _) ticket_is
          ∙ lookup_standing c.entries_stand_in_the_list.ensures
          c.self.inside.arena _ _ c.len.ensures.formed.ordered c.self.invariant.0 stood,
    )

pub returns-then-ticket-clause-ticks : goal.returns-then-ticket-clause-ticks
returns-then-ticket-clause-ticks g c =
    let at = goal.at.returns-then-ticket-clause-ticks g c in
    let stood = one g at.In-Some-get_inx in
    c.tick.ensures ∙ looked_at_one _ _ c.in-Some-get_inx.found.1.now
    (ap (entry_at c.args.self.now) (sym c.in-Some.ensures.same)
    ∙ there g at.After-capacity _ ∙ ap (option_map (λ (e : ℕ × Entry). e.1)) stood)

pub returns-then-ticket-clause-bound : goal.returns-then-ticket-clause-bound
returns-then-ticket-clause-bound g c =
    within g (goal.at.returns-then-ticket-clause-bound g c).After-capacity

pub returns-else-ticket-clause-none : goal.returns-else-ticket-clause-none
returns-else-ticket-clause-none g c =
    let at = goal.at.returns-else-ticket-clause-none g c in
    missing g at.After-capacity (other_there _
    (ap (entry_in c.self.inside.arena) (sym c.in-Some.ensures.same) ∙ one g at.In-Some-get_inx)
    (λ same. c.if-ticket.false (c.ticket.ensures ∙ same)))

pub returns-else-ticket-clause-ticks : goal.returns-else-ticket-clause-ticks
returns-else-ticket-clause-ticks g c =
    let at = goal.at.returns-else-ticket-clause-ticks g c in
    let stood = one g at.In-Some-get_inx in
    c.tick.ensures ∙ looked_at_one _ _ c.in-Some-get_inx.found.1.now
    (ap (entry_at c.args.self.now) (sym c.in-Some.ensures.same)
    ∙ there g at.After-capacity _ ∙ ap (option_map (λ (e : ℕ × Entry). e.1)) stood)

pub returns-else-ticket-clause-bound : goal.returns-else-ticket-clause-bound
returns-else-ticket-clause-bound g c =
    within g (goal.at.returns-else-ticket-clause-bound g c).After-capacity

pub returns-in-None-get_inx-clause-none : goal.returns-in-None-get_inx-clause-none
returns-in-None-get_inx-clause-none g c =
    let at = goal.at.returns-in-None-get_inx-clause-none g c in
    missing g at.After-capacity (none_there (none g at.In-None-get_inx))

pub returns-in-None-get_inx-clause-ticks : goal.returns-in-None-get_inx-clause-ticks
returns-in-None-get_inx-clause-ticks g c =
    let at = goal.at.returns-in-None-get_inx-clause-ticks g c in
    looked_at_none _ _ (there g at.After-capacity _
    ∙ ap (option_map (λ (e : ℕ × Entry). e.1)) (none g at.In-None-get_inx))

pub returns-in-None-get_inx-clause-bound : goal.returns-in-None-get_inx-clause-bound
returns-in-None-get_inx-clause-bound g c =
    within g (goal.at.returns-in-None-get_inx-clause-bound g c).After-capacity

pub returns-in-None-clause-none : goal.returns-in-None-clause-none
returns-in-None-clause-none g c =
    let at = goal.at.returns-in-None-clause-none g c in
    missing g at.After-capacity (none_there (no_index g at.In-None))

pub returns-in-None-clause-ticks : goal.returns-in-None-clause-ticks
returns-in-None-clause-ticks g c =
    let at = goal.at.returns-in-None-clause-ticks g c in
    looked_at_none _ _ (there g at.After-capacity _
    ∙ ap (option_map (λ (e : ℕ × Entry). e.1)) (no_index g at.In-None))

pub returns-in-None-clause-bound : goal.returns-in-None-clause-bound
returns-in-None-clause-bound g c =
    within g (goal.at.returns-in-None-clause-bound g c).After-capacity

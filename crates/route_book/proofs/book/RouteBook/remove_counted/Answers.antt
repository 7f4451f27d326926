use Rattle.std.proofs.Common.{◌≡◌, ◌∙◌, Some, ap, sym, subst}
use Rattle.ticket_book.specs.Tickets.{Entry, entry_at}
use Rattle.route_book.specs.Book.{Book, as_book}
use Rattle.route_book.specs.Removals.{Ends, IsReady, removal_wraps}
use Rattle.route_book.proofs.AfterPackLemmas.{calm_ready, ends_as, held, removed_ok, removed_so}
use Rattle.route_book.proofs.AfterPackLemmas.{state_so}
use Rattle.route_book.proofs.HoldLemmas.{lookup_given}
use Rattle.route_book.proofs.OptionLemmas.{some_same}
use Rattle.route_book.proofs.book.RouteBook.remove_counted.Goals.{After-end_at, After-pack_if}
use Rattle.route_book.proofs.book.RouteBook.remove_counted.Goals as goal

-- the entry that was found stands there still, with the ticket and the kind
stood : (g : _) (c : After-pack_if g) → (e : Entry)
    × ((entry_at c.pack_if.new.tickets (g.P.Inx.PtrInxCore.number c.in-Some.at) ≡ Some e)
    × ((e.ticket ≡ c.args.ticket) × (e.kind ≡ c.kind.result)))
stood g c =
    let there = c.in-Some.ensures.found in
    let own = c.pack_if.ensures.stand (g.P.Inx.PtrInxCore.number c.in-Some.at) there.0 there.1 in
    let ticket = own.1.1.0
    ∙ (lookup_given _ 0 _ c.args.ticket there.0 c.self.invariant.book.held.rise there.2).0 in
    let kind = own.1.1.1 ∙ ap (λ (e : Entry). e.kind) (some_same (sym there.1 ∙ c.entry.ensures))
    ∙ sym c.kind.ensures in
    (own.0, (own.1.0, (ticket, kind)))

-- the store is ready for the removal
ready : (g : _) (c : After-pack_if g)
    → IsReady g.P.Gen.PtrGenCore.last c.removal_wraps-needed.result
    c.args.counts.now.looks c.pack_if.new.looks c.args.self.now
    (as_book c.self.inside.held.state c.pack_if.new.places c.pack_if.new.stops
    c.pack_if.new.marks)
ready g c = subst (λ (b : Book). IsReady
    g.P.Gen.PtrGenCore.last c.removal_wraps-needed.result
    c.args.counts.now.looks c.pack_if.new.looks b
    (as_book c.self.inside.held.state c.pack_if.new.places c.pack_if.new.stops
    c.pack_if.new.marks)) c.self.view_is c.pack_if.ensures.ready

-- and its item ends
ended : (g : _) (c : After-end_at g) (e : Entry)
    → entry_at c.pack_if.new.tickets (g.P.Inx.PtrInxCore.number c.in-Some.at) ≡ Some e
    → e.ticket ≡ c.args.ticket → e.kind ≡ c.kind.result
    → Ends g.P.Gen.PtrGenCore.last c.kind.result c.args.ticket
    (as_book c.self.inside.held.state c.pack_if.new.places c.pack_if.new.stops
    c.pack_if.new.marks)
    (as_book c.end_at.new.held.state c.end_at.new.places c.end_at.new.stops c.end_at.new.marks)
ended g c e there ticket kind =
    ends_as g.P.Gen.PtrGenCore.last _ _ _ c.args.ticket _ c.kind.result ticket kind
    (c.end_at.ensures.ends e there)

pub end_at-requires-clause-stands : goal.end_at-requires-clause-stands
end_at-requires-clause-stands g c =
    let at = (goal.at.end_at-requires-clause-stands g c).After-pack_if in
    let last = g.P.Gen.PtrGenCore.last in
    let own = stood g at in
    let calm = calm_ready last c.args.self.now _ _ _ c.kind.result _
    c.removal_wraps-needed.ensures (ready g at) c.self.invariant.counts in
    let packed = as_book c.self.inside.held.state c.pack_if.new.places c.pack_if.new.stops
    c.pack_if.new.marks in
    (own.0, own.1.0, ap (removal_wraps last packed) own.1.1.1 ∙ calm)

pub returns-clause-result : goal.returns-clause-result
returns-clause-result g c =
    let at = goal.at.returns-clause-result g c in
    let own = stood g at.After-pack_if in
    let ends = ended g at.After-end_at own.0 own.1.0 own.1.1.0 own.1.1.1 in
    removed_ok c.args.self.now.state c.args.ticket ends.0
    (held g.P.Gen.PtrGenCore.last c.args.self.now _ _ _ c.kind.result _
    c.removal_wraps-needed.ensures (ready g at.After-pack_if) c.args.ticket _
    (ap (λ (b : Book). b.state) c.self.view_is) ends)

pub returns-clause-state : goal.returns-clause-state
returns-clause-state g c =
    let at = goal.at.returns-clause-state g c in
    let own = stood g at.After-pack_if in
    state_so g.P.Gen.PtrGenCore.last c.args.self.now _ _ _ c.kind.result _
    c.removal_wraps-needed.ensures (ready g at.After-pack_if) c.args.ticket _
    (ap (λ (b : Book). b.state) c.self.view_is)
    (ended g at.After-end_at own.0 own.1.0 own.1.1.0 own.1.1.1)

pub returns-clause-removes : goal.returns-clause-removes
returns-clause-removes g c =
    let at = goal.at.returns-clause-removes g c in
    let own = stood g at.After-pack_if in
    removed_so g.P.Gen.PtrGenCore.last c.args.self.now _ _ _ c.kind.result _
    c.removal_wraps-needed.ensures (ready g at.After-pack_if) c.args.ticket _
    (ap (λ (b : Book). b.state) c.self.view_is)
    (ended g at.After-end_at own.0 own.1.0 own.1.1.0 own.1.1.1)

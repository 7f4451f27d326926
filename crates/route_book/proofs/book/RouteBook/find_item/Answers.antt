use Rattle.std.proofs.Common.{◌≢◌, ◌≤◌, sym, subst, arith}
use Rattle.route_book.specs.Book.{Book, found_of}
use Rattle.route_book.specs.Holds.{IsItem}
use Rattle.route_book.proofs.HoldLemmas.{is_item}
use Rattle.route_book.proofs.book.RouteBook.find_item.Goals as goal

pub returns-in-Some-clause-found : goal.returns-in-Some-clause-found
returns-in-Some-clause-found g c =
    let h = c.self.invariant.book.held in
    let t = c.args.ticket in
    let positive : t ≢ 0 = λ e. omega (arith, e, c.if-ticket-eq0.false) in
    let last = c.self.invariant.book.last_is in
    let given : t ≤ c.self.inside.held.state.last = omega (arith, last, c.if-ticket-self.false) in
    subst (λ (b : Book). IsItem b.state (found_of b) t c.kind.result
    (g.P.PtrCore.index c.at.result) (g.P.PtrCore.generation c.at.result)) c.self.view_is
    (is_item _ _ _ _ _ h t positive given c.in-Some.entry.now _ _ _ (sym c.in-Some.ensures.found)
    c.kind.ensures c.at.ensures.index c.at.ensures.generation)

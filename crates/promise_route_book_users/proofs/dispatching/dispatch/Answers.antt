use Rattle.std.proofs.Common.{◌∙◌, sym, ap, inr}
use Rattle.route_lines.specs.Routes.{next_stop}
use Rattle.route_lines.specs.State.{State, is_full_of_stops, place_of}
use Rattle.promise_route_book_users.proofs.DispatchLemmas.{place_holds, place_there, routes-placed}
use Rattle.promise_route_book_users.proofs.DispatchLemmas.{walked-new, places-kept}
use Rattle.promise_route_book_users.proofs.RefusedLemmas.{start-refused, holds_later, holds_start}
use Rattle.promise_route_book_users.proofs.RefusedLemmas.{extend-refused, handed_on}
use Rattle.promise_route_book_users.proofs.dispatching.dispatch.Goals as goal

pub returns-clause-place : goal.returns-clause-place
returns-clause-place g c =
    ap (λ ps. place_of ps c.in_ok-place.place)
    (places-kept c.place.new.self.state c.start.new.self.state c.extend.new.self.state
    c.in_ok-place.place c.in_ok-first.first c.in_ok-second.second
    c.places_arena-2.ensures.sound c.places_arena-3.ensures.sound
    (sym c.in_ok-first.ensures.changes.gives)
    (sym c.in_ok-second.ensures.changes.gives) c.in_ok-first.ensures.changes.leaves
    c.in_ok-second.ensures.changes.leaves)
    ∙ place_there c.args.book.now.state c.place.new.self.state c.args.key c.args.word
    c.in_ok-place.place c.places_arena.ensures.sound (sym c.in_ok-place.ensures.changes.gives)
    c.in_ok-place.ensures.changes.leaves

pub returns-clause-walk : goal.returns-clause-walk
returns-clause-walk g c =
    walked-new c.place.new.self.state c.start.new.self.state c.extend.new.self.state
    c.in_ok-place.place c.in_ok-first.first c.in_ok-second.second c.places_arena-2.ensures.sound
    c.places_arena-3.ensures.sound (sym c.in_ok-first.ensures.changes.gives)
    (sym c.in_ok-second.ensures.changes.gives) c.in_ok-first.ensures.changes.leaves
    c.in_ok-second.ensures.changes.leaves
    (c.new_tickets_come_next.ensures.start c.place.new.self.state c.in_ok-place.place
    c.in_ok-first.first (sym c.in_ok-first.ensures.changes.gives)).0
    (c.new_tickets_come_next.ensures.extend c.start.new.self.state c.in_ok-first.first
    c.in_ok-place.place c.in_ok-second.second (sym c.in_ok-second.ensures.changes.gives)).0
    (λ k apart. c.extensions_add_one_stop.ensures.others c.start.new.self.state c.in_ok-first.first
    c.in_ok-place.place c.in_ok-second.second k c.places_arena-3.ensures.sound
    (sym c.in_ok-second.ensures.changes.gives) apart)

pub returns-clause-others : goal.returns-clause-others
returns-clause-others g c = λ v first second.
    ap (λ (s : State). next_stop s.routes v) c.in_ok-second.ensures.changes.leaves
    ∙ c.extensions_lead_through.ensures.others c.start.new.self.state c.in_ok-first.first
    c.in_ok-place.place c.in_ok-second.second v c.places_arena-3.ensures.sound
    (sym c.in_ok-second.ensures.changes.gives) first second
    ∙ ap (λ (s : State). next_stop s.routes v) c.in_ok-first.ensures.changes.leaves
    ∙ c.starts_lead_nowhere.ensures.others c.place.new.self.state c.in_ok-place.place
    c.in_ok-first.first v c.places_arena-2.ensures.sound (sym c.in_ok-first.ensures.changes.gives)
    first
    ∙ ap (λ (s : State). next_stop s.routes v) c.in_ok-place.ensures.changes.leaves
    ∙ ap (λ rs. next_stop rs v) (routes-placed c.args.book.now.state c.args.key c.args.word)

pub returns-in_err-first-clause-refused : goal.returns-in_err-first-clause-refused
returns-in_err-first-clause-refused g c =
    let p = place_holds c.args.book.now.state c.place.new.self.state c.args.key c.args.word
    c.in_ok-place.place c.places_arena.ensures.sound (sym c.in_ok-place.ensures.changes.gives)
    c.in_ok-place.ensures.changes.leaves in
    let full = start-refused c.place.new.self.state c.in_ok-place.place _ c.in_err-first.field-0.0 p
    (sym c.in_err-first.ensures.changes.gives) in
    handed_on c.from_residual-in_err-first.result c.in_err-first.field-0.0 _
    c.from_residual-in_err-first.ensures.1
    (full.0, inr (ap is_full_of_stops c.in_err-first.ensures.changes.leaves ∙ full.1))

pub returns-in_err-second-clause-refused : goal.returns-in_err-second-clause-refused
returns-in_err-second-clause-refused g c =
    let start = sym c.in_ok-first.ensures.changes.gives in
    let p = holds_later c.place.new.self.state c.start.new.self.state c.in_ok-place.place
    c.in_ok-first.first _
    (place_holds c.args.book.now.state c.place.new.self.state c.args.key c.args.word
    c.in_ok-place.place c.places_arena.ensures.sound (sym c.in_ok-place.ensures.changes.gives)
    c.in_ok-place.ensures.changes.leaves)
    start c.in_ok-first.ensures.changes.leaves in
    let first = c.new_tickets_come_next.ensures.start c.place.new.self.state c.in_ok-place.place
    c.in_ok-first.first start in
    let u = holds_start c.place.new.self.state c.start.new.self.state c.in_ok-place.place
    c.in_ok-first.first c.places_arena-2.ensures.sound start c.in_ok-first.ensures.changes.leaves
    first.0
    in
    let full = extend-refused c.start.new.self.state c.in_ok-first.first c.in_ok-place.place _ _
    c.in_err-second.field-0.0 u p (sym c.in_err-second.ensures.changes.gives) in
    handed_on c.from_residual-in_err-second.result c.in_err-second.field-0.0 _
    c.from_residual-in_err-second.ensures.1
    (full.0, inr (ap is_full_of_stops c.in_err-second.ensures.changes.leaves ∙ full.1))

use Rattle.std.proofs.Common.{◌≡◌, ◌∙◌, ap, refl, subst, sym, Ok, Some, ◌+◌, ◌<◌, ◌≤◌, ℕ, arith}
use Rattle.triple_arena.specs.Entries.{value_if}
use Rattle.triple_arena_ord.specs.Ordered.{entry_in}
use Rattle.route_lines.specs.Calls.{place_holder}
use Rattle.route_lines.specs.Searches.{most_near}
use Rattle.route_lines.specs.State.{Place, is_full_of_places}
use Rattle.route_book.specs.Book.{Book}
use Rattle.route_book.specs.declared.items.PlaceKey.{PlaceKey}
use Rattle.route_book.proofs.NearLemmas.{hint_bound}
use Rattle.route_book.proofs.PlaceLemmas.{found_now, ticket_given}
use Rattle.route_book.proofs.book.RouteBook.place_near_counted.Goals as goal

pub add_place-requires-clause-similar : goal.add_place-requires-clause-similar
add_place-requires-clause-similar g c =
    found_now _ g.P.PtrCore.index g.P.PtrCore.generation _ c.args.key _ _ c.self.view_is _
    c.self.invariant.book.last_is c.find_similar_key_linear_counted-found.ensures.similar

pub returns-clause-counts : goal.returns-clause-counts
returns-clause-counts g c =
    let places = c.self.inside.places in
    let i = g.P.Inx.PtrInxCore.number c.inx.result in
    let h = g.P.PtrCore.generation c.in_ok-at.at in
    let found = c.in_ok-at.ensures.found in
    let value : value_if h (entry_in places i) ≡ Some found.0 =
    ap (λ k. value_if h (entry_in places k)) c.inx.ensures
    ∙ ap (λ (b : Book). value_if h
    (entry_in b.places (g.P.PtrCore.index c.in_ok-at.at))) c.self.view_is ∙ found.1 in
    let held : place_holder c.self.inside.held.state c.args.near ≡ Ok found.0 =
    ap (λ (b : Book). place_holder b.state c.args.near) c.self.view_is
    ∙ found.2 in
    let search = c.find_similar_key_linear_counted-found.ensures in
    let b = c.self.invariant.book in
    let wanted : PlaceKey = record { key = c.args.key; ticket = c.self.inside.last + 1 } in
    let newest : (j n : ℕ) (q : Place) → entry_in places j ≡ Some (n, q)
    → q.ticket < wanted.ticket =
    λ j n q is. subst (λ m. q.ticket < m + 1) b.last_is
    (ticket_given c.self.inside.held.state _ _ _ _ b.held j n q is) in
    record {
      key_rises = search.rises;
      first_rises = c.find_place.ensures.rises;
      second_rises = omega arith;
      key = subst (λ (b : Book).
          c.find_similar_key_linear_counted-found.new.probes
          ≤ c.args.counts.now.key + most_near b.state c.args.key c.args.near) c.self.view_is
          (hint_bound _ _ c.self.inside.held.state places _ _ _
          c.self.invariant.book c.len.ensures.formed.ordered wanted newest c.args.near i h
          found.0 value held
          (ap (λ (b : Book). is_full_of_places b.state) c.self.view_is
          ∙ sym c.if-is_full_of_places.ensures)
          c.args.counts.now.key c.find_similar_key_linear_counted-found.new.probes
          search.bound search.near);
      first = c.find_place.ensures.bound;
      second = omega arith;
      looks = refl;
    }

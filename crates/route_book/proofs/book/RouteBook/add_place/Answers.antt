use Rattle.std.proofs.Common.{rules, ◌≡◌, ◌∙◌, ◌+◌, ◌<◌, ap, sym, subst, arith}
use Rattle.triple_arena.specs.DirectContent.{arena_capacity as mirror_capacity}
use Rattle.triple_arena_stack.specs.Room.{capacity}
use Rattle.route_lines.specs.Changes.{borrowed}
use Rattle.route_lines.specs.Sound.{IsSound}
use Rattle.route_lines.specs.State.{Place, is_full_of_places}
use Rattle.route_lines.specs.declared.change.Change.TheVariants.{Place as PlaceChange}
use Rattle.route_book.specs.Book.{Book}
use Rattle.route_book.specs.Keys.{IsFoundFor, key_of}
use Rattle.route_book.proofs.ExtendLemmas.{next_above}
use Rattle.route_book.proofs.PlaceLemmas.{found_inside, place_kept, ticket_given, kept_added}
use Rattle.route_book.proofs.book.RouteBook.add_place.Goals as goal

pub put_place-at-requires-clause-newest : goal.put_place-at-requires-clause-newest
put_place-at-requires-clause-newest g c = λ i h q is.
    let b = c.self.invariant.book in
    let given = subst (λ m. q.ticket < m + 1) b.last_is
    (ticket_given c.self.inside.held.state _ _ _ _ b.held i h q is) in
    subst (λ m. q.ticket < m) (sym (ap (λ (p : Place). p.ticket) c.new.ensures)) given

pub put_place-at-requires-clause-found : goal.put_place-at-requires-clause-found
put_place-at-requires-clause-found g c =
    subst (λ k. IsFoundFor g.P.PtrCore.index g.P.PtrCore.generation k c.self.inside.places
    c.args.found) (sym (ap key_of c.new.ensures))
    (found_inside _ g.P.PtrCore.index g.P.PtrCore.generation _ c.args.key _ _ c.self.view_is _
    c.self.invariant.book.last_is c.requires.similar)

pub add-requires-clause-above : goal.add-requires-clause-above
add-requires-clause-above g c = next_above _ _ _ _ _ _ _ c.self.invariant.book

pub invariant_of-self : goal.invariant_of-self
invariant_of-self g c =
    let key = c.args.key in
    let word = c.args.word in
    let free = ap (λ (b : Book). is_full_of_places b.state) c.self.view_is ∙ c.requires.free in
    let sound = c.changes_keep_states_sound.ensures.sound c.self.inside.held.state
    (PlaceChange key (borrowed word)) (c.ranges.key.fits, c.as_bytes.ensures.word)
    c.self.invariant.sound in
    let put = c.put_place-at.ensures in
    record {
      book = place_kept _ _ _ _ _ _ _ _ c.self.invariant.book _ key word c.new.ensures sound free
          _ _ put.added put.order put.same_room put.counter _ c.changed-self-inside.ensures _
          c.add.ensures.entries;
      sound = subst IsSound (sym c.changed-self-inside.ensures) sound;
      counts = c.self.invariant.counts;
      room = omega (arith, c.self.invariant.room, c.add.ensures.capacity);
      place_mirror = subst (λ r. capacity r ≡ mirror_capacity c.self.inside.mirrors.places)
          (sym put.same_room) c.self.invariant.place_mirror;
      stop_mirror = c.self.invariant.stop_mirror;
      mark_mirror = c.self.invariant.mark_mirror;
    }

pub returns-clause-changes : goal.returns-clause-changes
returns-clause-changes g c =
    let put = c.put_place-at.ensures in
    record {
      gives = search rules;
      leaves = search rules;
      kept = kept_added _ _ _ _ _ _ _ c.self.view_is _ _ _ put.added put.counter put.same_room;
      refused = tt;
    }

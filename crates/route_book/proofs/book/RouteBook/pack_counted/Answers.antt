use Rattle.std.proofs.Common.{arith, subst}
use Rattle.route_book.specs.Book.{Book, as_book}
use Rattle.route_book.specs.Removals.{IsPacked}
use Rattle.route_book.proofs.WholeLemmas.{fits_still, in_store, of_state}
use Rattle.route_book.proofs.book.RouteBook.pack_counted.Goals as goal

pub pack_if-requires-clause-book : goal.pack_if-requires-clause-book
pack_if-requires-clause-book g c = of_state _ _ _ _ _ _ _ c.self.invariant.book

pub returns-clause-packed : goal.returns-clause-packed
returns-clause-packed g c =
    subst (λ (b : Book). IsPacked
    g.P.Gen.PtrGenCore.last
    c.args.counts.now.looks c.pack_if.new.looks b
    (as_book c.self.inside.held.state c.pack_if.new.places c.pack_if.new.stops c.pack_if.new.marks))
    c.self.view_is c.pack_if.ensures.ready

pub invariant_of-self : goal.invariant_of-self
invariant_of-self g c =
    let done = c.pack_if.ensures in
    let room = c.self.invariant.room in
    let same = done.book_room in
    record {
      book = in_store _ _ _ _ _ _ _ c.self.invariant.book _ _ _ _ _ done.book;
      sound = c.self.invariant.sound;
      counts = c.self.invariant.counts;
      room = omega (arith, room, same);
      place_mirror = fits_still _ _ _ _ done.rooms.places done.place_mirror
          c.self.invariant.place_mirror;
      stop_mirror = fits_still _ _ _ _ done.rooms.stops done.stop_mirror
          c.self.invariant.stop_mirror;
      mark_mirror = fits_still _ _ _ _ done.rooms.marks done.mark_mirror
          c.self.invariant.mark_mirror;
    }

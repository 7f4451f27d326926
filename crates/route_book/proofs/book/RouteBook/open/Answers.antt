use Rattle.std.proofs.Common.{◌≡◌, ◌∙◌, ℕ, ◌≤◌, [], None, ap, subst, sym, arith}
use Rattle.triple_arena_stack.specs.Room.{IsBeyond, Room}
use Rattle.triple_arena.specs.ArenaRoom.{room_of}
use Rattle.route_lines.specs.Sound.{IsSound}
use Rattle.route_book.specs.Rooms.{refusal_of}
use Rattle.route_book.proofs.NewLemmas.{new_kept}
use Rattle.route_book.proofs.RoomLemmas.{counts_long, mirror_fits, part_fits}
use Rattle.route_book.proofs.book.RouteBook.open.Given.{Over}
use Rattle.route_book.proofs.book.RouteBook.open.Goals as goal

-- a stack with room for no more than the sum takes them all
fits : (g : Over) (sum : ℕ)
    → refusal_of g.P.Gen.PtrGenCore.last g.P.Inx.PtrInxCore.greatest g.B.BookBacking.limit sum
    ≡ None
    → (r : Room) (n : ℕ) → r ≡ g.B.BookBacking.room n → n ≤ sum
    → IsBeyond (room_of g.P.Inx.PtrInxCore.greatest r).limit n → ⊥
fits g sum accepted =
    part_fits g.P.Gen.PtrGenCore.last g.P.Inx.PtrInxCore.greatest g.B.BookBacking.limit sum
    accepted g.B.BookBacking.room g.met.B.BookBacking.beyond

pub make_arenas-requires-clause-places : goal.make_arenas-requires-clause-places
make_arenas-requires-clause-places g c =
    fits g _ c.requires.accepted _ _ (g.met.B.BookBacking.places_room c.args.places)
    (omega (arith, c.requires.sum))

pub make_arenas-requires-clause-stops : goal.make_arenas-requires-clause-stops
make_arenas-requires-clause-stops g c =
    fits g _ c.requires.accepted _ _ (g.met.B.BookBacking.stops_room c.args.stops)
    (omega (arith, c.requires.sum))

pub make_arenas-requires-clause-marks : goal.make_arenas-requires-clause-marks
make_arenas-requires-clause-marks g c =
    fits g _ c.requires.accepted _ _ (g.met.B.BookBacking.marks_room c.args.marks)
    (omega (arith, c.requires.sum))

pub make_book-requires-clause-fits : goal.make_book-requires-clause-fits
make_book-requires-clause-fits g c =
    fits g _ c.requires.accepted _ _ (g.met.B.BookBacking.book_room c.args.sum)
    (omega (arith, c.requires.sum))

pub make_mirrors-requires-clause-places : goal.make_mirrors-requires-clause-places
make_mirrors-requires-clause-places g c =
    fits g _ c.requires.accepted _ _ (g.met.B.BookBacking.mirror_room c.args.places)
    (omega (arith, c.requires.sum))

pub make_mirrors-requires-clause-stops : goal.make_mirrors-requires-clause-stops
make_mirrors-requires-clause-stops g c =
    fits g _ c.requires.accepted _ _ (g.met.B.BookBacking.mirror_room c.args.stops)
    (omega (arith, c.requires.sum))

pub make_mirrors-requires-clause-marks : goal.make_mirrors-requires-clause-marks
make_mirrors-requires-clause-marks g c =
    fits g _ c.requires.accepted _ _ (g.met.B.BookBacking.mirror_room c.args.marks)
    (omega (arith, c.requires.sum))

pub invariant_of-result : goal.invariant_of-result
invariant_of-result g c =
    let made = c.in_ok-arenas.ensures in
    let mirrors = c.in_ok-mirrors.ensures in
    let kept = new_kept
    (record { places = c.args.places; stops = c.args.stops; marks = c.args.marks }) c.args.last
    _ _ _ _ _ _ _ _ _
    made.places made.stops made.marks made.ordered made.places_fit made.stops_fit made.marks_fit in
    let sum = c.requires.sum in
    let fits = c.in_ok-tickets.ensures.fits in
    let law = g.met.B.BookBacking in
    record {
      book = rw (c.changed.ensures, c.in_ok-tickets.ensures.empty) kept;
      sound = subst IsSound (sym c.changed.ensures)
          (c.states_are_sound.ensures
          (record { places = c.args.places; stops = c.args.stops; marks = c.args.marks })
          c.args.last []);
      counts = counts_long g.P.Gen.PtrGenCore.last g.P.Inx.PtrInxCore.greatest g.B.BookBacking.limit
          c.args.sum c.requires.accepted;
      room = omega (arith, sum, fits);
      place_mirror = mirror_fits _ _ _ _ _ _ made.places mirrors.places
          (law.places_room c.args.places ∙ sym (law.mirror_room c.args.places));
      stop_mirror = mirror_fits _ _ _ _ _ _ made.stops mirrors.stops
          (law.stops_room c.args.stops ∙ sym (law.mirror_room c.args.stops));
      mark_mirror = mirror_fits _ _ _ _ _ _ made.marks mirrors.marks
          (law.marks_room c.args.marks ∙ sym (law.mirror_room c.args.marks));
    }

pub returns-clause-rooms : goal.returns-clause-rooms
returns-clause-rooms g c =
    let made = c.in_ok-arenas.ensures in
    let law = g.met.B.BookBacking in
    let greatest = g.P.Inx.PtrInxCore.greatest in
    record {
      places = ap (λ r. r.room) made.places ∙ ap (room_of greatest) (law.places_room c.args.places);
      stops = ap (λ r. r.room) made.stops ∙ ap (room_of greatest) (law.stops_room c.args.stops);
      marks = ap (λ r. r.room) made.marks ∙ ap (room_of greatest) (law.marks_room c.args.marks);
    }

use Rattle.std.proofs.Common.{◌≡◌, ◌∙◌, ◌≤◌, ap, sym, subst, length, arith}
use Rattle.std.specs.List.{range_with_len}
use Rattle.triple_arena_ptr.specs.Generation.{second_generation}
use Rattle.triple_arena_ptr.specs.Index.{max_index_of}
use Rattle.triple_arena_stack.specs.Room.{capacity}
use Rattle.triple_arena.specs.Content.{entry_at}
use Rattle.triple_arena_chain.specs.CanonicalLayout.{IsLaidOut}
use Rattle.triple_arena_chain.specs.Links.{ends_in, values_in}
use Rattle.triple_arena_ord.specs.Ordered.{entry_in}
use Rattle.route_lines.specs.Sound.{IsSound}
use Rattle.route_lines.specs.State.{Rooms, in_rooms, stop_list}
use Rattle.route_lines.specs.declared.change.Change.TheVariants.{Move}
use Rattle.route_book.specs.Book.{Book, as_book}
use Rattle.route_book.specs.Removals.{IsPacked}
use Rattle.route_book.proofs.MovedStoreLemmas.{AreTransferred, moved_kept, moved_live}
use Rattle.route_book.proofs.RunLemmas.{run_mapped}
use Rattle.route_book.proofs.WholeLemmas.{have_all}
use Rattle.route_book.proofs.book.RouteBook.move_packed.Given.{Over}
use Rattle.route_book.proofs.book.RouteBook.move_packed.Goals.{After-take_over}
use Rattle.route_book.proofs.book.RouteBook.move_packed.Goals as goal

module _ (g : Over) (c : After-take_over g) where
  abbrev old : Book
  old = as_book c.self.inside.held.state c.self.inside.places c.self.inside.stops
      c.self.inside.marks

  packing : IsPacked g.P.Gen.PtrGenCore.last 0 c.requires.packed.1.0 c.requires.packed.0 old
  packing = subst (IsPacked g.P.Gen.PtrGenCore.last 0 c.requires.packed.1.0 c.requires.packed.0)
      (sym c.self.view_is) c.requires.packed.1.1

  -- what the moves of the arenas tell
  moves : AreTransferred (max_index_of g.Q.Inx.PtrInxCore.greatest)
      (second_generation g.Q.Gen.PtrGenCore.last) old.places c.transfer_places.new.to old.stops
      c.transfer_stops.new.to old.marks c.transfer_marks.new.to
  moves =
      let places = c.transfer_places.ensures in
      let stops = c.transfer_stops.ensures in
      let marks = c.transfer_marks.ensures in
      record {
        to_p = places.entries;
        in_p = places.within;
        order = places.order;
        to_s = stops.entries;
        in_s = stops.within;
        on = stops.on;
        next = stops.next;
        to_m = marks.entries;
        in_m = marks.within;
        counter_p = places.counter;
        counter_s = stops.counter;
      }

pub invariant_of-moved : goal.invariant_of-moved
invariant_of-moved g c =
    let moved = c.moved.inside in
    let s = c.self.inside.held.state in
    let places = c.transfer_places.ensures in
    let stops = c.transfer_stops.ensures in
    let marks = c.transfer_marks.ensures in
    let rooms = c.moved.invariant.book.within.rooms_are in
    let fit_p : length s.places ≤ moved.place_room =
    (let need = c.requires.places in
    let own = ap (λ (b : Book). length b.state.places) c.self.view_is in
    let room = ap (λ (b : Book). b.state.rooms.places) c.moved.view_is in
    let same = ap (λ (r : Rooms). r.places) rooms in
    omega (arith, need, own, room, same)) in
    let fit_s : length (stop_list s.routes) ≤ moved.stop_room =
    (let need = c.requires.stops in
    let own = ap (λ (b : Book). length (stop_list b.state.routes))
    c.self.view_is in
    let room = ap (λ (b : Book). b.state.rooms.stops) c.moved.view_is in
    let same = ap (λ (r : Rooms). r.stops) rooms in
    omega (arith, need, own, room, same)) in
    let fit_m : length s.marks ≤ moved.mark_room =
    (let need = c.requires.marks in
    let own = ap (λ (b : Book). length b.state.marks) c.self.view_is in
    let room = ap (λ (b : Book). b.state.rooms.marks) c.moved.view_is in
    let same = ap (λ (r : Rooms). r.marks) rooms in
    omega (arith, need, own, room, same)) in
    let kept =
    moved_kept _ _ _ _
    (record { places = moved.place_room; stops = moved.stop_room; marks = moved.mark_room })
    _ _ _ _ _ _ c.self.invariant.book _ _ _ _ _ (packing g c) (moves g c)
    places.size stops.live marks.live
    fit_p fit_s fit_m
    (subst (λ r. moved.place_room ≤ capacity r)
    (sym places.room) c.moved.invariant.book.within.place_room)
    (subst (λ r. moved.stop_room ≤ capacity r)
    (sym stops.room) c.moved.invariant.book.within.stop_room)
    (subst (λ r. moved.mark_room ≤ capacity r)
    (sym marks.room) c.moved.invariant.book.within.mark_room) in
    let room = c.moved.invariant.room in
    let same = c.take_over.ensures.capacity in
    record {
      book = rw (c.changed-moved-inside.ensures, c.take_over.ensures.entries) kept;
      sound = subst IsSound (sym c.changed-moved-inside.ensures)
          (c.changes_keep_states_sound.ensures.sound s
          (Move moved.place_room moved.stop_room moved.mark_room)
          (fit_p, (fit_s, fit_m)) c.self.invariant.sound);
      counts = c.moved.invariant.counts;
      room = omega (arith, room, same);
      place_mirror = subst (λ r. capacity r ≡ capacity moved.mirrors.places.room) (sym places.room)
          c.moved.invariant.place_mirror;
      stop_mirror = subst (λ r. capacity r ≡ capacity moved.mirrors.stops.room) (sym stops.room)
          c.moved.invariant.stop_mirror;
      mark_mirror = subst (λ r. capacity r ≡ capacity moved.mirrors.marks.room) (sym marks.room)
          c.moved.invariant.mark_mirror;
    }

pub returns : goal.returns
returns g c rooms same has =
    let moved = c.moved.inside in
    let s = c.self.inside.held.state in
    let places = c.transfer_places.ensures in
    let stops = c.transfer_stops.ensures in
    let marks = c.transfer_marks.ensures in
    let at = (goal.at.returns g c).After-take_over in
    let packed = packing g at in
    let own : Rooms = record {
      places = moved.place_room;
      stops = moved.stop_room;
      marks = moved.mark_room;
    } in
    let wanted : own ≡ rooms =
    sym c.moved.invariant.book.within.rooms_are
    ∙ ap (λ (b : Book). b.state.rooms) c.moved.view_is ∙ same in
    let live = moved_live _ _ _ _ own _ _ _ _ _ _ c.self.invariant.book _ _ _ _ _ packed
    (moves g at) in
    record {
      state = c.changed-moved-inside.ensures ∙ ap (λ r. in_rooms r s) wanted
          ∙ ap (λ (b : Book). in_rooms rooms b.state) c.self.view_is;
      place_counter = places.counter;
      stop_counter = stops.counter;
      mark_counter = marks.counter;
      place_generations = have_all (second_generation g.Q.Gen.PtrGenCore.last) (λ p. p)
          (entry_in c.self.inside.places) (entry_in c.transfer_places.new.to)
          (places.entries (packed.order
          ∙ ap (range_with_len 1) c.self.invariant.book.within.place_count));
      stop_generations = have_all (second_generation g.Q.Gen.PtrGenCore.last) _
          (values_in c.self.inside.stops) (values_in c.transfer_stops.new.to)
          (stops.entries packed.stop_runs);
      mark_generations = have_all (second_generation g.Q.Gen.PtrGenCore.last) _
          (entry_at c.self.inside.marks) (entry_at c.transfer_marks.new.to)
          (marks.entries packed.mark_run);
      rooms = record {
        places = places.room
            ∙ ap (λ (b : Book). b.places.chains.room) c.moved.view_is
            ∙ has.places;
        stops = stops.room
            ∙ ap (λ (b : Book). b.stops.room) c.moved.view_is ∙ has.stops;
        marks = marks.room
            ∙ ap (λ (b : Book). b.marks.room) c.moved.view_is ∙ has.marks;
      };
      order = places.run ∙ ap (range_with_len 1) (sym c.self.invariant.book.within.place_count
          ∙ sym (ap (λ t. length t.places) c.changed-moved-inside.ensures));
      stop_runs = subst (IsLaidOut (ends_in c.transfer_stops.new.to))
          (sym stops.live) (stops.laid packed.stop_runs);
      mark_run = run_mapped (entry_at c.self.inside.marks) (entry_at c.transfer_marks.new.to) _ _ _
          (marks.entries packed.mark_run) marks.live packed.mark_run;
      place_free = places.free;
      stop_free = stops.free;
      mark_free = marks.free;
      stops = live.stops;
      marks = live.marks;
    }

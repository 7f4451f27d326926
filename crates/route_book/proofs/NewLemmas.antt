-- A store with nothing in it.
use Rattle.std.proofs.Common.{◌≡◌, ◌∙◌, sym, ap, refl, ℕ, zero, suc, ◌≤◌, List, [], ◌∷◌, length}
use Rattle.std.proofs.Common.{Option, Some, None, arith}
use Rattle.std.specs.Option.{option_map}
use Rattle.triple_arena_stack.specs.Room.{Room}
use Rattle.triple_arena.specs.Content.{Content, entry_at, live_count, arena_capacity, empty}
use Rattle.triple_arena_chain.specs.LinkShape.{IndexLink}
use Rattle.triple_arena_chain.specs.Links.{values_in, valued}
use Rattle.triple_arena_ord.specs.Ordered.{Ordered, IsOrdered, entry_in, order_in}
use Rattle.triple_arena_ord.specs.Node.{itemed}
use Rattle.ticket_book.specs.Tickets.{Entry}
use Rattle.ticket_book.specs.AlongLaws.{along}
use Rattle.route_book.specs.Item.{StopView, MarkView}
use Rattle.route_lines.specs.State.{Rooms, Place}
use Rattle.route_lines.specs.State as state
use Rattle.route_book.specs.Book.{IsBook}

nothing_at : (T : Type 0) (counter : ℕ) (room : Room) (i : ℕ)
    → entry_at {T = T} (empty counter room) i ≡ None
nothing_at T counter room zero = refl
nothing_at T counter room (suc k) = refl

no_entry : {T : Type 0} (c : Content T) (counter : ℕ) (room : Room) → c ≡ empty counter room
    → (i : ℕ) → entry_at c i ≡ None
no_entry {T} c counter room is i = ap (λ d. entry_at d i) is ∙ nothing_at T counter room i

no_items : (xs : List ℕ) → length xs ≡ 0 → xs ≡ []
no_items [] is = refl
no_items (x ∷ xs) is = absurd (omega (arith, is))

module _ (rooms : Rooms) (last : ℕ) (places : Ordered Place)
    (stops : Content (IndexLink StopView)) (marks : Content MarkView)
    (p q r : ℕ) (pr qr rr : Room) (no_places : places.chains ≡ empty p pr)
    (no_stops : stops ≡ empty q qr) (no_marks : marks ≡ empty r rr)
    (ordered : IsOrdered places)
    (place_room : rooms.places ≤ arena_capacity places.chains)
    (stop_room : rooms.stops ≤ arena_capacity stops)
    (mark_room : rooms.marks ≤ arena_capacity marks) where
  none_placed : (i : ℕ) → entry_in places i ≡ None
  none_placed i = ap (λ o. option_map itemed (option_map valued o))
      (no_entry places.chains p pr no_places i)

  none_stopped : (i : ℕ) → values_in stops i ≡ None
  none_stopped i = ap (option_map valued) (no_entry stops q qr no_stops i)

  none_marked : (i : ℕ) → entry_at marks i ≡ None
  none_marked i = no_entry marks r rr no_marks i

  no_order : order_in places ≡ []
  no_order = no_items (order_in places) (ordered.counted ∙ ap live_count no_places)

  never : {T : Type 0} {e : ℕ × T} (o : Option (ℕ × T)) → o ≡ None → o ≡ Some e → ⊥
  never o none some = absurd (let no : None ≡ Some _ = sym none ∙ some in cc)

  pub new_kept : IsBook rooms last (state.empty rooms last) places stops marks []
  new_kept = record {
    held = record {
      rise = omega arith;
      filled = λ t e is. absurd (let no : ◌≡◌ {A = Option Entry} None (Some e) = is in cc);
      places_in = λ i g x is. absurd (never _ (none_placed i) is);
      stops_in = λ i g x is. absurd (never _ (none_stopped i) is);
      marks_in = λ i g x is. absurd (never _ (none_marked i) is);
      stop_place = λ i g x is. absurd (never _ (none_stopped i) is);
      mark_place = λ i g x is. absurd (never _ (none_marked i) is);
      mark_stop = λ i g x is. absurd (never _ (none_marked i) is);
      places_up_to = λ i g x is. absurd (never _ (none_placed i) is);
      stops_up_to = λ i g x is. absurd (never _ (none_stopped i) is);
      places = λ t. refl;
      stops = λ t. refl;
      marks = λ t. refl;
      in_order = sym (ap (along (entry_in places)) no_order);
      routes = λ i g x is. absurd (never _ (none_stopped i) is);
    };
    places_rise = tt;
    within = record {
      rooms_are = refl;
      place_count = sym (ap live_count no_places);
      stop_count = sym (ap live_count no_stops);
      mark_count = sym (ap live_count no_marks);
      places_fit = (let n = ap live_count no_places in omega (arith, n));
      stops_fit = (let n = ap live_count no_stops in omega (arith, n));
      marks_fit = (let n = ap live_count no_marks in omega (arith, n));
      place_room = place_room;
      stop_room = stop_room;
      mark_room = mark_room;
    };
    last_is = refl;
    marks_differ = tt;
    entries = (let a = ap live_count no_places in let b = ap live_count no_stops in let c =
        ap live_count no_marks in omega (arith, a, b, c));
  }

-- A store in other arenas: what ties its parts, if each item has the index that it had. What a
-- pack proves by its mirrors is proved here by mirrors that no code has: each leads from a pointer
-- to the same index under another generation.
use Rattle.std.proofs.Common.{◌≡◌, ◌≢◌, ◌∙◌, sym, ap, subst, refl, ℕ, ◌≤◌, List, [], ◌∷◌}
use Rattle.std.proofs.Common.{length, map, Option, Some, None, IsSome, is_some, min, unwrap_or}
use Rattle.std.proofs.Common.{arith}
use Rattle.std.specs.List.{range_with_len}
use Rattle.std.specs.Option.{option_map}
use Rattle.std.proofs.Math.Nat.{min-eq_right}
use Rattle.std.proofs.lemmas.Bool.{eq-eqb, ne_eqb}
use Rattle.std.proofs.lemmas.List.{length-map}
use Rattle.triple_arena.specs.Entries.{value_if}
use Rattle.triple_arena.specs.Content.{Content, entry_at, live_count, arena_capacity}
use Rattle.triple_arena_chain.specs.LinkShape.{IndexLink}
use Rattle.triple_arena_chain.specs.CanonicalLayout.{IsLaidOut}
use Rattle.linked_lists.specs.LinkedLists.{Ends, next_at}
use Rattle.triple_arena_chain.specs.Links.{ends_in, values_in}
use Rattle.triple_arena_ord.specs.Ordered.{Ordered, entry_in, order_in, size_in}
use Rattle.ticket_book.specs.declared.entry.Kind.{Kind}
use Rattle.ticket_book.specs.declared.entry.Kind.TheVariants.{Place as OfPlace, Stop as OfStop}
use Rattle.ticket_book.specs.declared.entry.Kind.TheVariants.{Mark as OfMark}
use Rattle.ticket_book.specs.Mirrors.{Mirror, renewed_entry, renewed_pointer, renewed_under}
use Rattle.ticket_book.specs.Moving.{entry_over}
use Rattle.ticket_book.specs.Tickets.{Entry, lookup}
use Rattle.route_lines.specs.State.{Place, Rooms, State, in_rooms, stop_list}
use Rattle.route_book.specs.Book.{Book, found_in, in_order, IsBook}
use Rattle.route_book.specs.Holds.{Found, found_by, HasItem, IsHeld, IsLive, Rise}
use Rattle.route_book.specs.Item.{StopView, MarkView}
use Rattle.route_book.specs.Moving.{mark_over, over, stop_over}
use Rattle.route_book.specs.Removals.{AreFirst, IsPacked}
use Rattle.route_book.specs.Packing.{IsMirror, AreMoved, recast_mark, recast_stop}
use Rattle.route_book.proofs.BookPackLemmas.{found_under, held_in_order}
use Rattle.route_book.proofs.HoldLemmas.{lookup_given}
use Rattle.route_book.proofs.OptionLemmas.{mapped_some, stands_under}
use Rattle.route_book.proofs.PackLemmas.{AreLive, packed}

-- ---- items that keep their indexes

module _ {T : Type 0} (g : ℕ) (old : ℕ → Option (ℕ × T)) where
  abbrev under : ℕ × T → ℕ × T
  under e = (g, e.1)

  abbrev leads : ℕ → ℕ × T → ℕ × (ℕ × ℕ)
  leads i e = (e.0, (i, g))

  abbrev mirror_over : Mirror
  mirror_over i = option_map (leads i) (old i)

  moved_over : (new : ℕ → Option (ℕ × T)) → ((k : ℕ) → new k ≡ option_map under (old k))
      → AreMoved (λ i. i) g old new
  moved_over new same = record {
    into = λ i h t is. same i ∙ ap (option_map under) is;
    onto = λ k h t is. (let x = mapped_some under (old k) (h, t) (sym (same k) ∙ is) in
        let value = x.1.0 ∙ ap (λ v. Some (x.0.0, v)) (ap (λ (z : ℕ × T). z.1) x.1.1) in
        (k, (x.0.0, (value, (refl, sym (ap (λ (z : ℕ × T). z.0) x.1.1))))));
  }

  mirrored_over : IsMirror (λ i. i) g old mirror_over
  mirrored_over = record {
    into = λ i h t is. ap (option_map (leads i)) is;
    only = λ i h q is. (let x = mapped_some (leads i) (old i) (h, q) is in
        (x.0.1, x.1.0 ∙ ap (λ n. Some (n, x.0.1)) (ap (λ (z : ℕ × (ℕ × ℕ)). z.0) x.1.1)));
  }

  module _ (greatest : ℕ) (within : (i : ℕ) → IsSome (old i) → i ≤ greatest) where
    has_index : (i : ℕ) → IsSome (old i) → min greatest i ≡ i
    has_index i some = min-eq_right (within i some)

    found_at : (i h : ℕ) → IsSome (value_if h (old i))
        → (value_if h (mirror_over i) ≡ Some (i, g)) × IsSome (old i)
    found_at i h some =
        let st = stands_under old i h some in
        let own =
        ap (λ o. value_if h (option_map (leads i) o)) st.1.1 ∙ rw (eq-eqb h h refl) refl in
        (own, ap is_some st.1.1)

    -- a reference that finds an item
    over_found : (r : Option (ℕ × ℕ)) → IsLive old r → over greatest g r ≡ found_by mirror_over r
    over_found None live = refl
    over_found (Some p) live =
        let f = found_at p.0 p.1 live in
        ap (λ i. Some (i, g)) (has_index p.0 f.1) ∙ sym f.0

    -- the pointer of an entry that finds an item
    over_renewed : (i h : ℕ) → IsSome (value_if h (old i))
        → (min greatest i, g) ≡ renewed_pointer mirror_over i h
    over_renewed i h some =
        let f = found_at i h some in
        ap (λ (j : ℕ). (let z : ℕ × ℕ = (j, g) in z)) (has_index i f.1)
        ∙ sym (ap (λ o. unwrap_or o (i, h)) f.0)

-- ---- the book

module _ (greatest g : ℕ) (f : Found)
    (places : (i : ℕ) → IsSome (f.places i) → i ≤ greatest)
    (stops : (i : ℕ) → IsSome (f.stops i) → i ≤ greatest)
    (marks : (i : ℕ) → IsSome (f.marks i) → i ≤ greatest) where
  abbrev renew : Entry → Entry
  renew = renewed_entry (mirror_over g f.places) (mirror_over g f.stops) (mirror_over g f.marks)

  pointer_same : (k : Kind) (i h : ℕ) → HasItem f k i h
      → (min greatest i, g)
      ≡ renewed_under (mirror_over g f.places) (mirror_over g f.stops) (mirror_over g f.marks) k i h
  pointer_same OfPlace i h some = over_renewed g f.places greatest places i h some
  pointer_same OfStop i h some = over_renewed g f.stops greatest stops i h some
  pointer_same OfMark i h some = over_renewed g f.marks greatest marks i h some

  entry_same : (e : Entry) → HasItem f e.kind e.index e.generation
      → entry_over greatest g e ≡ renew e
  entry_same e filled =
      ap (λ (q : ℕ × ℕ). record e { index = q.0; generation = q.1 })
      (pointer_same e.kind e.index e.generation filled)

  book_same : (l : List Entry) (low last : ℕ) → Rise low l last
      → ((t : ℕ) (e : Entry) → lookup l t ≡ Some e → HasItem f e.kind e.index e.generation)
      → map (entry_over greatest g) l ≡ map renew l
  book_same [] low last rise filled = refl
  book_same (e ∷ l) low last rise filled =
      let here : lookup (e ∷ l) e.ticket ≡ Some e = rw (eq-eqb e.ticket e.ticket refl) refl in
      let first = entry_same e (filled e.ticket e here) in
      let rest = book_same l e.ticket last rise.1 (λ t d is.
      (let above = (lookup_given l e.ticket last t d rise.1 is).1 in
      let other : e.ticket ≢ t = λ same. omega (arith, same, above) in
      let skip : lookup (e ∷ l) t ≡ lookup l t = rw (ne_eqb e.ticket t other) refl in
      filled t d (skip ∙ is))) in
      ap (λ d. d ∷ map (entry_over greatest g) l) first ∙ ap (λ ds. renew e ∷ ds) rest

-- ---- the state in other rooms

held_in : (rooms : Rooms) (s : State) (f : Found) (order : List Place) (ends : ℕ → Option Ends)
    → (book : List Entry) → IsHeld s f order ends book
    → IsHeld (in_rooms rooms s) f order ends book
held_in rooms s f order ends book h = record {
  rise = h.rise;
  filled = h.filled;
  places_in = h.places_in;
  stops_in = h.stops_in;
  marks_in = h.marks_in;
  stop_place = h.stop_place;
  mark_place = h.mark_place;
  mark_stop = h.mark_stop;
  places_up_to = h.places_up_to;
  stops_up_to = h.stops_up_to;
  places = h.places;
  stops = h.stops;
  marks = h.marks;
  in_order = h.in_order;
  routes = h.routes;
}

-- ---- the store

module _ (greatest g : ℕ)
    (rooms rooms' : Rooms) (given : ℕ) (s : State)
    (places : Ordered Place) (stops : Content (IndexLink StopView)) (marks : Content MarkView)
    (book : List Entry) (b : IsBook rooms given s places stops marks book)
    (places' : Ordered Place) (stops' : Content (IndexLink StopView))
    (marks' : Content MarkView)
    (at_p : (k : ℕ) → entry_in places' k ≡ option_map (λ e. (g, e.1)) (entry_in places k))
    (at_s : (k : ℕ) → values_in stops' k
    ≡ option_map (λ e. (g, stop_over greatest g e.1)) (values_in stops k))
    (at_m : (k : ℕ) → entry_at marks' k
    ≡ option_map (λ e. (g, mark_over greatest g e.1)) (entry_at marks k))
    (order : in_order places' ≡ in_order places)
    (next : (k : ℕ) → IsSome (values_in stops k)
    → next_at (ends_in stops') k ≡ next_at (ends_in stops) k)
    (on : (i k : ℕ) → next_at (ends_in stops) i ≡ Some k → IsSome (values_in stops k))
    (live_s : (i h : ℕ) (v : StopView) → values_in stops i ≡ Some (h, v)
    → IsLive (entry_in places) v.place)
    (live_m : (i h : ℕ) (m : MarkView) → entry_at marks i ≡ Some (h, m)
    → IsLive (entry_in places) m.place × IsLive (values_in stops) m.stop)
    (within_p : (i : ℕ) → IsSome (entry_in places i) → i ≤ greatest)
    (within_s : (i : ℕ) → IsSome (values_in stops i) → i ≤ greatest)
    (within_m : (i : ℕ) → IsSome (entry_at marks i) → i ≤ greatest)
    (counter_p : places'.chains.counter ≡ g) (counter_s : stops'.counter ≡ g) where
  abbrev f : Found
  f = found_in places stops marks

  abbrev m : Mirror
  m = mirror_over g (entry_in places)

  abbrev n : Mirror
  n = mirror_over g (values_in stops)

  abbrev o : Mirror
  o = mirror_over g (entry_at marks)

  -- the stops and the marks, as they were, under the new generation
  abbrev mid_s : ℕ → Option (ℕ × StopView)
  mid_s k = option_map (under g (values_in stops)) (values_in stops k)

  abbrev mid_m : ℕ → Option (ℕ × MarkView)
  mid_m k = option_map (under g (entry_at marks)) (entry_at marks k)

  recast_s : (k : ℕ) → values_in stops' k ≡ option_map (λ e. (e.0, recast_stop m e.1)) (mid_s k)
  recast_s k = at_s k ∙ by (values_in stops k) refl
    where
      by : (x : Option (ℕ × StopView)) → values_in stops k ≡ x
          → option_map
          (λ (e : ℕ × StopView). (let z : ℕ × StopView = (g, stop_over greatest g e.1) in z)) x
          ≡ option_map
          (λ (e : ℕ × StopView). (let z : ℕ × StopView = (e.0, recast_stop m e.1) in z))
          (option_map (under g (values_in stops)) x)
      by None is = refl
      by (Some e) is = ap (λ r. Some (g, record e.1 { place = r }))
          (over_found g (entry_in places) greatest within_p e.1.place (live_s k e.0 e.1 is))

  recast_m : (k : ℕ) → entry_at marks' k ≡ option_map (λ e. (e.0, recast_mark m n e.1)) (mid_m k)
  recast_m k = at_m k ∙ by (entry_at marks k) refl
    where
      by : (x : Option (ℕ × MarkView)) → entry_at marks k ≡ x
          → option_map
          (λ (e : ℕ × MarkView). (let z : ℕ × MarkView = (g, mark_over greatest g e.1) in z)) x
          ≡ option_map
          (λ (e : ℕ × MarkView). (let z : ℕ × MarkView = (e.0, recast_mark m n e.1) in z))
          (option_map (under g (entry_at marks)) x)
      by None is = refl
      by (Some e) is =
          let live = live_m k e.0 e.1 is in
          ap (λ r. Some (g, record e.1 { place = r; stop = over greatest g e.1.stop }))
          (over_found g (entry_in places) greatest within_p e.1.place live.0)
          ∙ ap (λ r. Some (g, record e.1 { place = found_by m e.1.place; stop = r }))
          (over_found g (values_in stops) greatest within_s e.1.stop live.1)

  next_kept : (i : ℕ) → IsSome (values_in stops i)
      → next_at (ends_in stops') i ≡ option_map (λ j. j) (next_at (ends_in stops) i)
  next_kept i some = next i some ∙ by (next_at (ends_in stops) i)
    where
      by : (x : Option ℕ) → x ≡ option_map (λ (j : ℕ). j) x
      by None = refl
      by (Some k) = refl

  abbrev renewed : List Entry
  renewed = map (renewed_entry m n o) book

  held : IsHeld s (found_under places' stops' marks' g g) (in_order places) (ends_in stops') renewed
      × AreLive (entry_in places') (values_in stops') (entry_at marks')
  held = packed s f (in_order places) (ends_in stops)
      (ends_in stops') book b.held (λ i. i) (λ i. i) (λ i. i) g g g
      (entry_in places') mid_s mid_m m n o
      (moved_over g (entry_in places) (entry_in places') at_p)
      (moved_over g (values_in stops) mid_s (λ k. refl))
      (moved_over g (entry_at marks) mid_m (λ k. refl))
      (mirrored_over g (entry_in places)) (mirrored_over g (values_in stops))
      (mirrored_over g (entry_at marks)) (values_in stops') (entry_at marks') recast_s recast_m
      next_kept (λ i k some is. on i k is)

  -- no reference is dead
  pub store_live : AreLive (entry_in places') (values_in stops') (entry_at marks')
  store_live = held.1

  module _ (size : size_in places' ≡ size_in places) (live : live_count stops' ≡ live_count stops)
      (many : live_count marks' ≡ live_count marks)
      (fit_p : length s.places ≤ rooms'.places) (fit_s : length (stop_list s.routes) ≤ rooms'.stops)
      (fit_m : length s.marks ≤ rooms'.marks)
      (room_p : rooms'.places ≤ arena_capacity places'.chains)
      (room_s : rooms'.stops ≤ arena_capacity stops')
      (room_m : rooms'.marks ≤ arena_capacity marks') where
    pub store_kept : IsBook rooms' given (in_rooms rooms' s) places' stops' marks'
        (map (entry_over greatest g) book)
    store_kept = record {
      held = held_in rooms' s (found_in places' stops' marks') (in_order places')
          (ends_in stops') (map (entry_over greatest g) book)
          (subst (IsHeld s (found_in places' stops' marks') (in_order places')
          (ends_in stops'))
          (sym (book_same greatest g f within_p within_s within_m book 0 s.last b.held.rise
          b.held.filled))
          (held_in_order s places' stops' marks' (in_order places) renewed g counter_p counter_s
          order held.0));
      places_rise = b.places_rise;
      within = record {
        rooms_are = refl;
        place_count = b.within.place_count ∙ sym size;
        stop_count = b.within.stop_count ∙ sym live;
        mark_count = b.within.mark_count ∙ sym many;
        places_fit = (let c = b.within.place_count in omega (arith, c, size, fit_p));
        stops_fit = (let c = b.within.stop_count in omega (arith, c, live, fit_s));
        marks_fit = (let c = b.within.mark_count in omega (arith, c, many, fit_m));
        place_room = room_p;
        stop_room = room_s;
        mark_room = room_m;
      };
      last_is = b.last_is;
      marks_differ = b.marks_differ;
      entries = omega (arith, b.entries, length-map book (entry_over greatest g), size, live, many);
    }

-- ---- the same of a store that was packed first, over what the moves of its arenas tell

-- each item has its index under one generation, if a pack has laid out where it was
pub record AreTransferred (greatest g : ℕ) (places places' : Ordered Place)
    (stops stops' : Content (IndexLink StopView)) (marks marks' : Content MarkView)
    : Type 0 where
  pub to_p : order_in places ≡ range_with_len 1 (size_in places) → (k : ℕ)
      → entry_in places' k ≡ option_map (λ e. (g, e.1)) (entry_in places k)
  pub in_p : order_in places ≡ range_with_len 1 (size_in places) → (k : ℕ)
      → IsSome (entry_in places k) → k ≤ greatest
  pub order : in_order places' ≡ in_order places
  pub to_s : IsLaidOut (ends_in stops) (live_count stops) → (k : ℕ)
      → values_in stops' k ≡ option_map (λ e. (g, stop_over greatest g e.1)) (values_in stops k)
  pub in_s : IsLaidOut (ends_in stops) (live_count stops) → (k : ℕ)
      → IsSome (values_in stops k) → k ≤ greatest
  pub on : (i k : ℕ) → next_at (ends_in stops) i ≡ Some k → IsSome (values_in stops k)
  pub next : IsLaidOut (ends_in stops) (live_count stops) → (k : ℕ) → IsSome (values_in stops k)
      → next_at (ends_in stops') k ≡ next_at (ends_in stops) k
  pub to_m : AreFirst (entry_at marks) (live_count marks) → (k : ℕ)
      → entry_at marks' k ≡ option_map (λ e. (g, mark_over greatest g e.1)) (entry_at marks k)
  pub in_m : AreFirst (entry_at marks) (live_count marks) → (k : ℕ)
      → IsSome (entry_at marks k) → k ≤ greatest
  pub counter_p : places'.chains.counter ≡ g
  pub counter_s : stops'.counter ≡ g

module _ (last : Option ℕ) (greatest g : ℕ)
    (rooms rooms' : Rooms) (given : ℕ) (s : State)
    (places : Ordered Place) (stops : Content (IndexLink StopView)) (marks : Content MarkView)
    (book : List Entry) (b : IsBook rooms given s places stops marks book)
    (places' : Ordered Place) (stops' : Content (IndexLink StopView))
    (marks' : Content MarkView) (was : Book) (looks : ℕ)
    (packing : IsPacked last 0 looks was
    (record { state = s; places = places; stops = stops; marks = marks }))
    (are : AreTransferred greatest g places places' stops stops' marks marks') where
  run : order_in places ≡ range_with_len 1 (size_in places)
  run = packing.order ∙ ap (range_with_len 1) b.within.place_count

  pub moved_live : AreLive (entry_in places') (values_in stops') (entry_at marks')
  moved_live = store_live greatest g rooms rooms' given s places stops marks book b
      places' stops' marks' (are.to_p run) (are.to_s packing.stop_runs)
      (are.to_m packing.mark_run) are.order
      (are.next packing.stop_runs) are.on packing.stops packing.marks (are.in_p run)
      (are.in_s packing.stop_runs) (are.in_m packing.mark_run) are.counter_p are.counter_s

  pub moved_kept : size_in places' ≡ size_in places → live_count stops' ≡ live_count stops
      → live_count marks' ≡ live_count marks
      → length s.places ≤ rooms'.places → length (stop_list s.routes) ≤ rooms'.stops
      → length s.marks ≤ rooms'.marks
      → rooms'.places ≤ arena_capacity places'.chains → rooms'.stops ≤ arena_capacity stops'
      → rooms'.marks ≤ arena_capacity marks'
      → IsBook rooms' given (in_rooms rooms' s) places' stops' marks'
      (map (entry_over greatest g) book)
  moved_kept = store_kept greatest g rooms rooms' given s places stops marks book b
      places' stops' marks' (are.to_p run) (are.to_s packing.stop_runs)
      (are.to_m packing.mark_run) are.order
      (are.next packing.stop_runs) are.on packing.stops packing.marks (are.in_p run)
      (are.in_s packing.stop_runs) (are.in_m packing.mark_run) are.counter_p are.counter_s

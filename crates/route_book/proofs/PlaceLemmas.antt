-- What `place` makes of what ties a store's parts.
use Rattle.std.proofs.Common.{◌≡◌, ◌∙◌, sym, ap, subst, refl, Bool, true, false}
use Rattle.std.proofs.Common.{if◌then◌else◌, nat_lt, ℕ, ◌+◌, ◌<◌, ◌≤◌, List, [], ◌∷◌, ◌++◌, length}
use Rattle.std.proofs.Common.{Option, Some, None, IsSome, Ok, arith, length-append, inl, inr}
use Rattle.std.specs.Option.{option_map}
use Rattle.std.specs.declared.cmp.Ordering.{Ordering}
use Rattle.std.proofs.lemmas.Bool.{false≢true}
use Rattle.std.proofs.lemmas.Bool.Decides.{eqb_tells}
use Rattle.triple_arena.specs.Content.{Content, entry_at, live_count}
use Rattle.triple_arena_stack.specs.Room.{capacity}
use Rattle.triple_arena_chain.specs.LinkShape.{IndexLink}
use Rattle.linked_lists.specs.LinkedLists.{Ends}
use Rattle.triple_arena_chain.specs.Links.{ends_in, values_in}
use Rattle.triple_arena_ord.specs.Inserted.{IsAdded, IsReplaced}
use Rattle.triple_arena_ord.specs.Ordered.{Ordered, entry_in, order_in}
use Rattle.ticket_book.specs.declared.entry.Kind.TheVariants.{Place as OfPlace}
use Rattle.ticket_book.specs.Tickets.{Entry}
use Rattle.ticket_book.specs.AlongLaws.{along}
use Rattle.route_lines.specs.Calls.{put, reworded, place_holder, placed, after_place, worded}
use Rattle.route_lines.specs.Calls.{after_word}
use Rattle.route_lines.specs.Sound.{IsSound}
use Rattle.route_lines.specs.State.{State, Rooms, Place, is_full_of_places}
use Rattle.route_book.specs.Item.{StopView, MarkView}
use Rattle.route_book.specs.Holds.{Found, entry, IsHeld}
use Rattle.route_book.specs.Book.{Book, as_book, found_in, in_order, IsBook, KeepsItems}
use Rattle.route_book.specs.Keys.{IsFoundFor}
use Rattle.route_book.proofs.HoldLemmas.{lookup_given}
use Rattle.route_book.proofs.NeighborLemmas.{held_place}
use Rattle.route_book.proofs.NewPlaceLemmas.{place_added}
use Rattle.route_book.proofs.RewordLemmas.{reword_entry, length-reworded, along_reworded}
use Rattle.route_book.proofs.RewordLemmas.{as_reworded, place_reworded}
use Rattle.route_book.proofs.RoomLemmas.{room_left}
use Rattle.route_book.proofs.OptionLemmas.{found_has, some_same, none_new, one_new, each_stays}
use Rattle.route_book.proofs.OptionLemmas.{replaced_new}

-- ---- lists

length_put : (p : Place) (ps : List Place) → length (put p ps) ≡ length ps + 1
length_put p [] = refl
length_put p (q ∷ ps) = by (nat_lt p.key q.key) (length_put p ps)
  where
    by : (b : Bool) → length (put p ps) ≡ length ps + 1
        → length (if b then p ∷ q ∷ ps else q ∷ put p ps) ≡ length (q ∷ ps) + 1
    by true rest = omega arith
    by false rest = omega (arith, rest)

-- where there is room, fewer live than the room holds
pub not_full : (s : State) → is_full_of_places s ≡ false → length s.places < s.rooms.places
not_full s is = room_left s.rooms.places (length s.places) _ is

-- each place has a ticket that was given
pub ticket_given : (s : State) (f : Found) (order : List Place) (ends : ℕ → Option Ends)
    (book : List Entry) → IsHeld s f order ends book → (i g : ℕ) (q : Place)
    → f.places i ≡ Some (g, q)
    → q.ticket < s.last + 1
ticket_given s f order ends book h i g q is = let given =
    lookup_given book 0 s.last q.ticket _ h.rise (h.places_in i g q is) in omega (arith, given.2)

-- ---- what was found for the next ticket, in the store that the calls see

module _ (P : Type 0) (index generation : P → ℕ) (found : Option (P × Ordering)) (key : ℕ)
    (b now : Book) (view : b ≡ now) (last : ℕ) (last_is : b.state.last ≡ last) where
  abbrev IsFoundNext : ℕ → Book → Type 0
  IsFoundNext n k =
      IsFoundFor index generation (record { key = key; ticket = n + 1 }) k.places found

  pub found_now : IsFoundNext last b → IsFoundNext now.state.last now
  found_now h =
      subst (λ (k : Book). IsFoundNext k.state.last k) view
      (subst (λ n. IsFoundNext n b) (sym last_is) h)

  pub found_inside : IsFoundNext now.state.last now → IsFoundNext last b
  found_inside h =
      subst (λ n. IsFoundNext n b) last_is
      (subst (λ (k : Book). IsFoundNext k.state.last k) (sym view) h)

-- ---- what `place` answers

module _ (s : State) (key : ℕ) (word : List ℕ) where
  pub placed_new : is_full_of_places s ≡ false
      → (placed s ≡ Ok (s.last + 1))
      × (after_place s key word
      ≡ record s {
        last = s.last + 1;
        places = put (record { ticket = s.last + 1; key = key; word = word }) s.places;
      })
  placed_new free = (rw free refl, rw free refl)

-- what `word` answers
module _ (s : State) (t : ℕ) (word : List ℕ) (p : Place) (held : place_holder s t ≡ Ok p) where
  pub worded_is : (worded s t ≡ Ok p.word)
      × (after_word s t word ≡ record s { places = reworded t word s.places })
  worded_is = (rw held refl, rw held refl)

-- ---- what it leaves

module _ (rooms : Rooms) (last : ℕ) (s : State)
    (places places' : Ordered Place) (stops : Content (IndexLink StopView))
    (marks : Content MarkView)
    (book : List Entry) (b : IsBook rooms last s places stops marks book) where
  -- a new place
  module _ (p : Place) (key : ℕ) (word : List ℕ)
      (made : p ≡ record { ticket = last + 1; key = key; word = word })
      (sound : IsSound (after_place s key word)) (free : is_full_of_places s ≡ false)
      (i g : ℕ) (added : IsAdded i g p places places')
      (order : in_order places' ≡ put p (in_order places))
      (same_room : places'.chains.room ≡ places.chains.room)
      (same_counter : places'.chains.counter ≡ places.chains.counter)
      (s' : State) (is : s' ≡ after_place s key word)
      (book' : List Entry) (more : book' ≡ book ++ entry (last + 1) OfPlace i g ∷ []) where
    abbrev now : State
    now = record s { last = s.last + 1; places = put p s.places }

    ticket : p.ticket ≡ s.last + 1
    ticket = ap (λ (q : Place). q.ticket) made ∙ ap (λ n. n + 1) (sym b.last_is)

    after_is : now ≡ s'
    after_is =
        ap (λ q. record s { last = s.last + 1; places = put q s.places })
        (made ∙ ap (λ n. record { ticket = n + 1; key = key; word = word }) (sym b.last_is))
        ∙ sym (placed_new s key word free).1 ∙ sym is

    more_is : book ++ entry p.ticket OfPlace i g ∷ [] ≡ book'
    more_is = ap (λ (q : Place). book ++ entry q.ticket OfPlace i g ∷ []) made ∙ sym more

    pub place_kept : IsBook rooms (last + 1) s' places' stops marks book'
    place_kept = subst (IsBook rooms (last + 1) s' places' stops marks) more_is
        (subst (λ z. IsBook rooms (last + 1) z places' stops marks
        (book ++ entry p.ticket OfPlace i g ∷ [])) after_is (record {
          held = subst (λ c. IsHeld now
              (record {
                places = entry_in places';
                stops = values_in stops;
                marks = entry_at marks;
                place_counter = c;
                stop_counter = stops.counter;
              })
              (in_order places') (ends_in stops)
              (book ++ entry p.ticket OfPlace i g ∷ [])) (sym same_counter)
              (place_added s (found_in places stops marks) (in_order places)
              (in_order places') (ends_in stops) book b.held p i g (entry_in places')
              added.vacant added.entries ticket added.generation
              order);
          places_rise = (subst IsSound (sym (after_is ∙ is)) sound).order;
          within = record {
            rooms_are = b.within.rooms_are;
            place_count = (let n = b.within.place_count in let l = added.size in let m =
                length_put p s.places in omega (arith, n, l, m));
            stop_count = b.within.stop_count;
            mark_count = b.within.mark_count;
            places_fit = (let n = b.within.place_count in let l = added.size in let r =
                ap (λ (r : Rooms). r.places) b.within.rooms_are in let less = not_full s free in
                omega (arith, less, l, n, r));
            stops_fit = b.within.stops_fit;
            marks_fit = b.within.marks_fit;
            place_room = subst (λ r. rooms.places ≤ capacity r) (sym same_room) b.within.place_room;
            stop_room = b.within.stop_room;
            mark_room = b.within.mark_room;
          };
          last_is = ap (λ n. n + 1) b.last_is;
          entries = (let a = length-append book (entry p.ticket OfPlace i g ∷ []) in let n =
              b.entries in let l = added.size in omega (arith, a, n, l));
          marks_differ = b.marks_differ;
        }))

  -- another word for a place
  module _ (p : Place) (t : ℕ) (word : List ℕ) (held : place_holder s t ≡ Ok p)
      (sound : IsSound (after_word s t word)) (i g : ℕ)
      (replaced : IsReplaced i g (record p { word = word }) p places places')
      (s' : State) (is : s' ≡ after_word s t word) where
    pub reword_kept : IsBook rooms last s' places' stops marks book
    reword_kept =
        let same = found_has (λ (q : Place). q.ticket) t s.places p (held_place s t p held) in
        let at : (k : ℕ) → entry_in places' k
        ≡ option_map (reword_entry p.ticket word) (entry_in places k) =
        as_reworded s (found_in places stops marks) (in_order places)
        (in_order places') (ends_in stops) book b.held p i g word
        (entry_in places') replaced.was
        replaced.entries in
        let order : in_order places' ≡ reworded p.ticket word (in_order places) =
        ap (along (entry_in places')) replaced.order
        ∙ along_reworded p.ticket word (entry_in places) (entry_in places') at
        (order_in places) in
        let after : record s { places = reworded p.ticket word s.places } ≡ s' =
        ap (λ k. record s { places = reworded k word s.places }) same
        ∙ sym (worded_is s t word p held).1 ∙ sym is in
        subst (λ z. IsBook rooms last z places' stops marks book) after (record {
          held = subst (λ c. IsHeld (record s { places = reworded p.ticket word s.places })
              (record {
                places = entry_in places';
                stops = values_in stops;
                marks = entry_at marks;
                place_counter = c;
                stop_counter = stops.counter;
              })
              (in_order places') (ends_in stops) book) (sym replaced.kept.counter)
              (place_reworded s (found_in places stops marks) (in_order places)
              (in_order places') (ends_in stops) book b.held p i g word
              (entry_in places')
              replaced.was replaced.entries order);
          places_rise = (subst IsSound (sym (after ∙ is)) sound).order;
          within = record {
            rooms_are = b.within.rooms_are;
            place_count = length-reworded p.ticket word s.places ∙ b.within.place_count
                ∙ sym replaced.kept.live;
            stop_count = b.within.stop_count;
            mark_count = b.within.mark_count;
            places_fit = subst (λ n. n ≤ rooms.places) (sym replaced.kept.live) b.within.places_fit;
            stops_fit = b.within.stops_fit;
            marks_fit = b.within.marks_fit;
            place_room = subst (λ r. rooms.places ≤ capacity r) (sym replaced.kept.room)
                b.within.place_room;
            stop_room = b.within.stop_room;
            mark_room = b.within.mark_room;
          };
          last_is = b.last_is;
          entries = b.entries ∙ ap (λ n. n + live_count stops + live_count marks)
              (sym replaced.kept.live);
          marks_differ = b.marks_differ;
        })

some_of : {T : Type 0} (o : Option T) → IsSome o → (x : T) × (o ≡ Some x)
some_of None is = absurd (let no : false ≡ true = is in false≢true no)
some_of (Some x) is = (x, refl)

-- ---- what stays

module _ (s s' : State) (places places' : Ordered Place)
    (stops : Content (IndexLink StopView)) (marks : Content MarkView) (old : Book)
    (view : as_book s places stops marks ≡ old) where
  abbrev new : Book
  new = as_book s' places' stops marks

  pub kept_added : (p : Place) (i g : ℕ) → IsAdded i g p places places'
      → places'.chains.counter ≡ places.chains.counter → places'.chains.room ≡ places.chains.room
      → KeepsItems old new
  kept_added p i g added counter room = subst (λ (b : Book). KeepsItems b new) view (record {
    places = λ j n q is. let stays =
        each_stays places.chains.counter (entry_in places) (entry_in places') i g p added.entries
        added.vacant j n q is in (q, (stays, (refl, refl)));
    stops = λ j n v is. is;
    marks = λ j n v is. is;
    new_places = one_new places.chains.counter (entry_in places) (entry_in places') i g p
        added.entries added.generation;
    new_stops = none_new _ _ _ (λ k. refl);
    new_marks = none_new _ _ _ (λ k. refl);
    place_counter = counter;
    stop_counter = refl;
    mark_counter = refl;
    rooms = record { places = room; stops = refl; marks = refl };
  })

  pub kept_reworded : (p : Place) (word : List ℕ) (i g : ℕ)
      → IsReplaced i g (record p { word = word }) p places places' → KeepsItems old new
  kept_reworded p word i g replaced = subst (λ (b : Book). KeepsItems b new) view (record {
    places = stays;
    stops = λ j n v is. is;
    marks = λ j n v is. is;
    new_places = replaced_new places.chains.counter (entry_in places) (entry_in places') i g
        (record p { word = word }) replaced.entries (g, p) replaced.was;
    new_stops = none_new _ _ _ (λ k. refl);
    new_marks = none_new _ _ _ (λ k. refl);
    place_counter = replaced.kept.counter;
    stop_counter = refl;
    mark_counter = refl;
    rooms = record { places = replaced.kept.room; stops = refl; marks = refl };
  })
    where
      stays : (j n : ℕ) (q : Place) → entry_in places j ≡ Some (n, q)
          → (r : Place) × ((entry_in places' j ≡ Some (n, r))
          × ((r.ticket ≡ q.ticket) × (r.key ≡ q.key)))
      stays j n q is = elim (eqb_tells j i) [
        | inl same ↦
            let both : Some (g, p) ≡ Some (n, q) = sym replaced.was
            ∙ sym (ap (entry_in places) same.1) ∙ is in
            let pair : (g, p) ≡ (n, q) = some_same both in
            let here : entry_in places' j ≡ Some (g, record p { word = word }) = replaced.entries j
            ∙ rw same.0 refl in (
              record p { word = word },
              (
                here ∙ ap (λ m. Some (m, record p { word = word }))
                    (ap (λ (x : ℕ × Place). x.0) pair),
                (ap (λ (x : ℕ × Place). x.1.ticket) pair, ap (λ (x : ℕ × Place). x.1.key) pair),
              ),
            )
        | inr other ↦ (q, (replaced.entries j ∙ rw other.0 is, (refl, refl)))
      ]

pub kept_same : (b : Book) → KeepsItems b b
kept_same b = record {
  places = λ i g p is. (p, (is, (refl, refl)));
  stops = λ i g v is. is;
  marks = λ i g v is. is;
  new_places = none_new _ _ _ (λ k. refl);
  new_stops = none_new _ _ _ (λ k. refl);
  new_marks = none_new _ _ _ (λ k. refl);
  place_counter = refl;
  stop_counter = refl;
  mark_counter = refl;
  rooms = record { places = refl; stops = refl; marks = refl };
}

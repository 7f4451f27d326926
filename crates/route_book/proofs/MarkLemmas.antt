-- What `mark` makes of what is held, and of what ties a store's parts.
use Rattle.std.proofs.Common.{◌≡◌, ◌≢◌, ◌∙◌, sym, ap, subst, refl, Bool, true, false, ◌==◌, ◌||◌}
use Rattle.std.proofs.Common.{nat_lt, ℕ, ◌+◌, ◌<◌, ◌≤◌, List, [], ◌∷◌, ◌++◌, length, Option, Some}
use Rattle.std.proofs.Common.{None, IsSome, Result, Ok, Err, arith, length-append, inl, inr}
use Rattle.std.specs.Option.{option_map, option_or}
use Rattle.std.proofs.lemmas.Bool.{ne_eqb, eq-eqb}
use Rattle.std.proofs.lemmas.Bool.Decides.{eqb_tells}
use Rattle.std.proofs.lemmas.List.Folds.{find-append}
use Rattle.triple_arena.specs.Entries.{value_if, with_entry}
use Rattle.triple_arena.specs.Content.{Content, entry_at, live_count}
use Rattle.triple_arena_stack.specs.Room.{capacity}
use Rattle.linked_lists.specs.LinkedLists.{Ends}
use Rattle.triple_arena_chain.specs.LinkShape.{IndexLink}
use Rattle.triple_arena_chain.specs.Links.{ends_in, values_in}
use Rattle.triple_arena_ord.specs.Ordered.{Ordered, entry_in}
use Rattle.ticket_book.specs.declared.entry.Kind.{Kind}
use Rattle.ticket_book.specs.declared.entry.Kind.TheVariants.{Place as OfPlace, Stop as OfStop}
use Rattle.ticket_book.specs.declared.entry.Kind.TheVariants.{Mark as OfMark}
use Rattle.ticket_book.specs.Tickets.{Entry}
use Rattle.route_lines.specs.Calls.{place_holder, stop_holder, marked, after_mark}
use Rattle.route_lines.specs.State.{State, Rooms, Place, Stop, Mark, place_of, stop_list, stop_of}
use Rattle.route_lines.specs.State.{mark_of, is_full_of_marks}
use Rattle.route_lines.specs.declared.refusal.Refusal.{Refusal}
use Rattle.route_lines.specs.declared.refusal.Refusal.TheVariants.{Unknown, Gone}
use Rattle.route_lines.specs.declared.refusal.Refusal.TheVariants.{Kind as Refused}
use Rattle.route_book.specs.Item.{StopView, MarkView}
use Rattle.route_book.specs.Holds.{Found, entry, state_mark, place_at, stop_at, mark_at}
use Rattle.route_book.specs.Holds.{HasItem, IsLive, IsSettled}
use Rattle.route_book.specs.Holds.{IsHeld}
use Rattle.route_book.specs.Book.{MarksDiffer, found_in, in_order, IsBook, KeepsItems}
use Rattle.route_book.proofs.AddedLemmas.{Grows, Kept, grows}
use Rattle.route_book.proofs.SettledLemmas.{found_added, live_settled}
use Rattle.route_book.proofs.RoomLemmas.{room_left}
use Rattle.route_book.proofs.OptionLemmas.{found_has, none_behind, none_new, one_new, each_stays}

-- a mark more, at an index where there was none
module _ (s : State) (f : Found) (order : List Place) (ends : ℕ → Option Ends) (book : List Entry)
    (h : IsHeld s f order ends book)
    (v : MarkView) (i g : ℕ) (at : ℕ → Option (ℕ × MarkView)) (vacant : f.marks i ≡ None)
    (entries : (k : ℕ) → at k ≡ with_entry f.marks i (g, v) k)
    (next : v.ticket ≡ s.last + 1) (live_place : IsLive f.places v.place)
    (live_stop : IsLive f.stops v.stop) (m : Mark) (own : state_mark f v ≡ m) where
  abbrev now : Found
  now = record f { marks = at }

  abbrev e : Entry
  e = entry v.ticket OfMark i g

  abbrev more : List Entry
  more = book ++ e ∷ []

  abbrev pub after_marked : State
  after_marked = record s { last = s.last + 1; marks = s.marks ++ m ∷ [] }

  kept : (k : Kind) (j n : ℕ) → HasItem f k j n → Kept f now k j n
  kept OfPlace j n filled = record { place = refl; stop = refl; mark = refl; filled = filled }
  kept OfStop j n filled = record { place = refl; stop = refl; mark = refl; filled = filled }
  kept OfMark j n filled =
      let same = found_added f.marks at i g v vacant entries (Some (j, n)) (inl filled) in
      record {
        place = refl;
        stop = refl;
        mark = ap (option_map (state_mark f)) same;
        filled = subst IsSome (sym same) filled;
      }

  grown : Grows (λ (q : MarkView). q.ticket) OfMark s now book more f.marks at i g v
  grown = grows MarkView (λ q. q.ticket) OfMark s f now order ends book h f.marks at i g v entries
      next kept

  in_list : (t : ℕ) → mark_of (s.marks ++ m ∷ []) t
      ≡ option_or (mark_of s.marks t) (mark_of (m ∷ []) t)
  in_list t = find-append (λ (x : Mark). x.ticket == t) s.marks (m ∷ [])

  ticket : m.ticket ≡ s.last + 1
  ticket = ap (λ (x : Mark). x.ticket) (sym own) ∙ next

  pub no_mark_yet : mark_of s.marks m.ticket ≡ None
  no_mark_yet = h.marks m.ticket ∙ ap (mark_at f) (grown.none m.ticket ticket)

  pub mark_added : IsHeld after_marked now order ends more
  mark_added = record {
    rise = grown.rise;
    filled = grown.filled (subst IsSome (sym grown.found) refl);
    places_in = λ j k q is. grown.still q.ticket _ (h.places_in j k q is);
    stops_in = λ j k q is. grown.still q.ticket _ (h.stops_in j k q is);
    marks_in = grown.items h.marks_in;
    stop_place = h.stop_place;
    mark_place = grown.each (λ j k q. IsSettled f.places f.place_counter q.place)
        (live_settled f.places f.place_counter v.place live_place) h.mark_place;
    mark_stop = grown.each (λ j k q. IsSettled f.stops f.stop_counter q.stop)
        (live_settled f.stops f.stop_counter v.stop live_stop) h.mark_stop;
    places_up_to = h.places_up_to;
    stops_up_to = h.stops_up_to;
    places = grown.places (place_of s.places) (λ t other. refl)
        (λ t is. h.places t ∙ ap (place_at f) (grown.none t is));
    stops = grown.stops (stop_of s.routes) (λ t other. refl)
        (λ t is. h.stops t ∙ ap (stop_at f) (grown.none t is));
    marks = grown.marks (mark_of (s.marks ++ m ∷ [])) others mine;
    in_order = h.in_order;
    routes = h.routes;
  }
    where
      others : (t : ℕ) → t ≢ s.last + 1 → mark_of (s.marks ++ m ∷ []) t ≡ mark_of s.marks t
      others t other =
          let none : mark_of (m ∷ []) t ≡ None =
          rw (ne_eqb m.ticket t (λ is. other (sym is ∙ ticket))) refl in
          in_list t ∙ ap (option_or (mark_of s.marks t)) none ∙ none_behind (mark_of s.marks t)

      mine : (t : ℕ) → t ≡ s.last + 1
          → mark_of (s.marks ++ m ∷ []) t ≡ option_map (state_mark f) (value_if g (at i))
      mine t is =
          let new : mark_of (m ∷ []) t ≡ Some m = rw (eq-eqb m.ticket t (ticket ∙ sym is)) refl in
          let before : mark_of s.marks t ≡ None = ap (mark_of s.marks) (is ∙ sym ticket)
          ∙ no_mark_yet in
          in_list t ∙ ap (λ o. option_or o (mark_of (m ∷ []) t)) before ∙ new ∙ ap Some (sym own)
          ∙ sym (ap (option_map (state_mark f)) grown.found)

-- ---- the list of marks

MarksDiffer-behind : (ms : List Mark) (m : Mark) → MarksDiffer ms → mark_of ms m.ticket ≡ None
    → MarksDiffer (ms ++ m ∷ [])
MarksDiffer-behind [] m differ none = (refl, tt)
MarksDiffer-behind (x ∷ ms) m differ none = elim (eqb_tells x.ticket m.ticket) [
  | inl same ↦ absurd (let found : mark_of (x ∷ ms) m.ticket ≡ Some x = rw same.0 refl in
      let no : ◌≡◌ {A = Option Mark} None (Some x) = sym none ∙ found in cc)
  | inr other ↦
      let skip : mark_of (x ∷ ms) m.ticket ≡ mark_of ms m.ticket = rw other.0 refl in
      let mine : mark_of (m ∷ []) x.ticket ≡ None =
      rw (ne_eqb m.ticket x.ticket (λ is. other.1 (sym is))) refl in (
        find-append (λ (y : Mark). y.ticket == x.ticket) ms (m ∷ [])
            ∙ ap (λ o. option_or o (mark_of (m ∷ []) x.ticket)) differ.0 ∙ mine,
        MarksDiffer-behind ms m differ.1 (sym skip ∙ none),
      )
]

pub marks_not_full : (s : State) → is_full_of_marks s ≡ false → length s.marks < s.rooms.marks
marks_not_full s is = room_left s.rooms.marks (length s.marks) _ is

module _ (s : State) (at t : ℕ) where
  pub marked_new : (p : Place) (x : Stop) → place_holder s at ≡ Ok p → stop_holder s t ≡ Ok x
      → is_full_of_marks s ≡ false
      → (marked s at t ≡ Ok (s.last + 1))
      × (after_mark s at t ≡ record s {
        last = s.last + 1;
        marks = s.marks ++ record { ticket = s.last + 1; place = Some at; stop = Some t } ∷ [];
      })
  marked_new p x place stop free = (rw (place, stop, free) refl, rw (place, stop, free) refl)

-- ---- the items that a mark names

module _ (s : State) (t : ℕ) (x : Stop) (held : stop_holder s t ≡ Ok x) where
  held_stop : stop_of s.routes t ≡ Some x
  held_stop = by ((t == 0) || nat_lt s.last t) refl (place_of s.places t) refl (stop_of s.routes t)
      refl (mark_of s.marks t) refl
    where
      no_ok : {e : Refusal} → stop_holder s t ≡ Err e → stop_of s.routes t ≡ Some x
      no_ok err = absurd (let no : ◌≡◌ {A = Result Stop Refusal} (Ok x) (Err _) = sym held
          ∙ err in cc)

      by : (a : Bool) → ((t == 0) || nat_lt s.last t) ≡ a → (b : Option Place)
          → place_of s.places t ≡ b → (c : Option Stop) → stop_of s.routes t ≡ c → (d : Option Mark)
          → mark_of s.marks t ≡ d
          → stop_of s.routes t ≡ Some x
      by true one b two c three d four = no_ok {e = Unknown} (rw one refl)
      by false one (Some p) two c three d four = no_ok {e = Refused} (rw (one, two) refl)
      by false one None two None three None four =
          no_ok {e = Gone} (rw (one, two, three, four) refl)
      by false one None two None three (Some m) four =
          no_ok {e = Refused} (rw (one, two, three, four) refl)
      by false one None two (Some u) three d four =
          let there : stop_holder s t ≡ Ok u = rw (one, two, three) refl in
          let same : ◌≡◌ {A = Result Stop Refusal} (Ok u) (Ok x) = sym there ∙ held in
          three ∙ ap Some (let is : u ≡ x = cc in is)

  stop_ticket : x.ticket ≡ t
  stop_ticket = found_has (λ (u : Stop). u.ticket) t (stop_list s.routes) x held_stop

-- a mark where there is room
module _ (rooms : Rooms) (last : ℕ) (s : State)
    (places : Ordered Place) (stops : Content (IndexLink StopView))
    (marks marks' : Content MarkView)
    (book : List Entry) (b : IsBook rooms last s places stops marks book)
    (pt st : ℕ) (p : Place) (x : Stop) (place : place_holder s pt ≡ Ok p)
    (stop : stop_holder s st ≡ Ok x) (free : is_full_of_marks s ≡ false)
    (v : MarkView) (i g : ℕ) (ticket : v.ticket ≡ last + 1)
    (live_place : IsLive (entry_in places) v.place)
    (live_stop : IsLive (values_in stops) v.stop)
    (named : state_mark (found_in places stops marks) v
    ≡ record { ticket = s.last + 1; place = Some pt; stop = Some st })
    (vacant : entry_at marks i ≡ None)
    (entries : (k : ℕ) → entry_at marks' k ≡ with_entry (entry_at marks) i (g, v) k)
    (live : live_count marks' ≡ live_count marks + 1)
    (same_room : marks'.room ≡ marks.room) where
  abbrev m : Mark
  m = record { ticket = s.last + 1; place = Some pt; stop = Some st }

  next : v.ticket ≡ s.last + 1
  next = ticket ∙ ap (λ n. n + 1) (sym b.last_is)

  pub mark_made : IsBook rooms (last + 1) (after_mark s pt st) places stops marks'
      (book ++ entry v.ticket OfMark i g ∷ [])
  mark_made = subst (λ z. IsBook rooms (last + 1) z places stops marks'
      (book ++ entry v.ticket OfMark i g ∷ [])) (sym (marked_new s pt st p x place stop free).1)
      (record {
        held = mark_added s (found_in places stops marks) (in_order places)
            (ends_in stops) book b.held v i g (entry_at marks') vacant entries next
            live_place
            live_stop m named;
        places_rise = b.places_rise;
        within = record {
          rooms_are = b.within.rooms_are;
          place_count = b.within.place_count;
          stop_count = b.within.stop_count;
          mark_count = (let n = b.within.mark_count in let l = live in let k =
              length-append s.marks (m ∷ []) in omega (arith, n, l, k));
          places_fit = b.within.places_fit;
          stops_fit = b.within.stops_fit;
          marks_fit = (let l = live in let n = b.within.mark_count in let r =
              ap (λ (r : Rooms). r.marks) b.within.rooms_are in let less = marks_not_full s free in
              omega (arith, less, l, n, r));
          place_room = b.within.place_room;
          stop_room = b.within.stop_room;
          mark_room = subst (λ r. rooms.marks ≤ capacity r) (sym same_room) b.within.mark_room;
        };
        last_is = ap (λ n. n + 1) b.last_is;
        entries = (let a = length-append book (entry v.ticket OfMark i g ∷ []) in let n =
            b.entries in
            let l = live in omega (arith, a, n, l));
        marks_differ = MarksDiffer-behind s.marks m b.marks_differ
            (no_mark_yet s (found_in places stops marks) (in_order places)
            (ends_in stops)
            book b.held v i g (entry_at marks') vacant entries next live_place live_stop m named);
      })

-- each item keeps its pointer where a mark is added
pub kept_mark : (s s' : State) (places : Ordered Place)
    (stops : Content (IndexLink StopView)) (marks marks' : Content MarkView) (v : MarkView)
    (i g : ℕ)
    → entry_at marks i ≡ None
    → ((k : ℕ) → entry_at marks' k ≡ with_entry (entry_at marks) i (g, v) k)
    → g ≡ marks.counter → marks'.counter ≡ marks.counter → marks'.room ≡ marks.room
    → KeepsItems (record { state = s; places = places; stops = stops; marks = marks })
    (record { state = s'; places = places; stops = stops; marks = marks' })
kept_mark s s' places stops marks marks' v i g vacant entries own counter room = record {
  places = λ j n p is. (p, (is, (refl, refl)));
  stops = λ j n t is. is;
  marks = each_stays marks.counter (entry_at marks) (entry_at marks') i g v entries vacant;
  new_places = none_new _ _ _ (λ k. refl);
  new_stops = none_new _ _ _ (λ k. refl);
  new_marks = one_new marks.counter (entry_at marks) (entry_at marks') i g v entries own;
  place_counter = refl;
  stop_counter = refl;
  mark_counter = counter;
  rooms = record { places = refl; stops = refl; marks = room };
}

-- What the removal of a place leaves of what is held, and of what ties a store's parts.
use Rattle.std.proofs.Common.{◌≡◌, ◌≢◌, ◌∙◌, sym, ap, subst, refl, false, not, ◌==◌, if◌then◌else◌}
use Rattle.std.proofs.Common.{ℕ, ◌+◌, ◌≤◌, List, [], ◌∷◌, ◌++◌, length, filter, Option, Some}
use Rattle.std.proofs.Common.{None, IsSome, arith}
use Rattle.std.specs.Option.{option_map}
use Rattle.std.proofs.lemmas.Bool.{ne_eqb, eq-eqb}
use Rattle.triple_arena_ptr.specs.Generation.{next_wraps}
use Rattle.triple_arena_stack.specs.Room.{capacity}
use Rattle.triple_arena.specs.Content.{Content}
use Rattle.triple_arena.specs.Entries.{value_if, without}
use Rattle.triple_arena_chain.specs.LinkShape.{IndexLink}
use Rattle.linked_lists.specs.LinkedLists.{Apart, Ends, Off}
use Rattle.linked_lists.specs.ChainLaws.{Apart-split}
use Rattle.linked_lists.specs.UniquenessLaws.{linear_apart}
use Rattle.triple_arena_chain.specs.Links.{ends_in}
use Rattle.triple_arena_ord.specs.Ordered.{Ordered, IsOrdered, entry_in, order_in}
use Rattle.triple_arena_ord.specs.Removal.{IsEntryRemoved}
use Rattle.ticket_book.specs.AlongLaws.{along}
use Rattle.ticket_book.specs.declared.entry.Kind.{Kind}
use Rattle.ticket_book.specs.declared.entry.Kind.TheVariants.{Place as OfPlace, Stop as OfStop}
use Rattle.ticket_book.specs.declared.entry.Kind.TheVariants.{Mark as OfMark}
use Rattle.ticket_book.specs.Tickets.{Entry, without_ticket}
use Rattle.route_lines.specs.Calls.{clear_mark, clear_stop, unless_is, without_place}
use Rattle.route_lines.specs.Routes.{next_stop}
use Rattle.route_lines.specs.Sound.{IsSound}
use Rattle.route_lines.specs.State.{State, Rooms, Place, place_of, stop_of, mark_of, stop_list}
use Rattle.route_book.specs.Book.{found_in, in_order, IsBook}
use Rattle.route_book.specs.Item.{StopView, MarkView}
use Rattle.route_book.specs.Holds.{Found, found_by, state_stop, state_mark, place_under, place_at}
use Rattle.route_book.specs.Holds.{HasItem, IsSettled, IsHeld}
use Rattle.route_book.proofs.SettledLemmas.{settled_left, up_to_left}
use Rattle.route_book.proofs.EndLemmas.{IsKept, Shrinks, shrinks, own, unnamed, others_stay}
use Rattle.route_book.proofs.EndLemmas.{each_mapped, length_without}
use Rattle.route_book.proofs.OrderLemmas.{differ_of_rise, one_up}
use Rattle.route_book.proofs.OptionLemmas.{found_has, stands_at}

-- ---- the list of the places without one

module _ (at at' : ℕ → Option (ℕ × Place)) (i g : ℕ) (p : Place) (stood : at i ≡ Some (g, p))
    (entries : (k : ℕ) → at' k ≡ without at i k)
    (own : (j k : ℕ) (q : Place) → at j ≡ Some (k, q) → q.ticket ≡ p.ticket → j ≡ i) where
  abbrev others : List Place → List Place
  others ps = filter (λ q. not (q.ticket == p.ticket)) ps

  step : (j : ℕ) (js js' : List ℕ) → j ≢ i → along at' js' ≡ others (along at js)
      → along at' (j ∷ js') ≡ others (along at (j ∷ js))
  step j js js' other rest = by (at j) refl
    where
      by : (o : Option (ℕ × Place)) → at j ≡ o → along at' (j ∷ js') ≡ others (along at (j ∷ js))
      by None is =
          let now : at' j ≡ None = entries j ∙ rw (ne_eqb j i other) is in
          let new : along at' (j ∷ js') ≡ along at' js' = rw now refl in
          let old : along at (j ∷ js) ≡ along at js = rw is refl in
          new ∙ rest ∙ ap others (sym old)
      by (Some e) is =
          let now : at' j ≡ Some e = entries j ∙ rw (ne_eqb j i other) is in
          let new : along at' (j ∷ js') ≡ e.1 ∷ along at' js' = rw now refl in
          let old : along at (j ∷ js) ≡ e.1 ∷ along at js = rw is refl in
          let stays : others (e.1 ∷ along at js) ≡ e.1 ∷ others (along at js) =
          rw (ne_eqb e.1.ticket p.ticket (λ same. other (own j e.0 e.1 is same))) refl in
          new ∙ ap (λ l. e.1 ∷ l) rest ∙ sym stays ∙ ap others (sym old)

  behind : (js : List ℕ) → Off js i → along at' js ≡ others (along at js)
  behind [] off = refl
  behind (j ∷ js) off = step j js js off.0 (behind js off.1)

  along_left : (before after : List ℕ) → Off before i → Off after i
      → along at' (before ++ after) ≡ others (along at (before ++ i ∷ after))
  along_left [] after off off' =
      let whole : along at (i ∷ after) ≡ p ∷ along at after = rw stood refl in
      let goes : others (p ∷ along at after) ≡ others (along at after) =
      rw (eq-eqb p.ticket p.ticket refl) refl in
      behind after off' ∙ sym goes ∙ ap others (sym whole)
  along_left (j ∷ before) after off off' =
      step j (before ++ i ∷ after) (before ++ after) off.0 (along_left before after off.1 off')

-- ---- what is held

-- the place at an index ends, and its arena's counter goes one up; stops and marks are as they were
module _ (s s' : State) (f : Found) (order order' : List Place) (ends : ℕ → Option Ends)
    (book : List Entry) (h : IsHeld s f order ends book)
    (i g : ℕ) (p : Place) (stood : f.places i ≡ Some (g, p)) (at : ℕ → Option (ℕ × Place))
    (entries : (k : ℕ) → at k ≡ without f.places i k)
    (counter : ℕ) (steps : counter ≡ f.place_counter + 1) where
  abbrev pub place_left : Found
  place_left = record f { places = at; place_counter = counter }

  abbrev now : Found
  now = place_left

  abbrev t : ℕ
  t = p.ticket

  abbrev τ : Place → ℕ
  τ q = q.ticket

  settled : (r : Option (ℕ × ℕ)) → IsSettled f.places f.place_counter r → IsSettled at counter r
  settled = settled_left f.places at i g f.place_counter counter p stood entries steps
      h.places_up_to

  forgot : (r : Option (ℕ × ℕ))
      → option_map τ (found_by at r) ≡ unless_is t (option_map τ (found_by f.places r))
  forgot = unnamed τ OfPlace f.places at i g p stood entries book h.places_in

  stop_now : (v : StopView) → state_stop now v ≡ clear_stop t (state_stop f v)
  stop_now v = ap (λ r. record { ticket = v.ticket; place = r }) (forgot v.place)

  mark_now : (v : MarkView) → state_mark now v ≡ clear_mark t (state_mark f v)
  mark_now v = ap (λ r. record {
    ticket = v.ticket;
    place = r;
    stop = option_map (λ (q : StopView). q.ticket) (found_by f.stops v.stop);
  }) (forgot v.place)

  kept : (k : Kind) (j n : ℕ) → HasItem f k j n → (k ≡ OfPlace → at j ≡ f.places j)
      → IsKept f now (option_map (clear_stop t)) (option_map (clear_mark t)) k j n
  kept OfPlace j n filled same =
      let found = ap (value_if n) (same refl) in
      record { place = found; stop = refl; mark = refl; filled = subst IsSome (sym found) filled }
  kept OfStop j n filled same = record {
    place = refl;
    stop = each_mapped (clear_stop t) (state_stop now) (state_stop f) stop_now
        (value_if n (f.stops j));
    mark = refl;
    filled = filled;
  }
  kept OfMark j n filled same = record {
    place = refl;
    stop = refl;
    mark = each_mapped (clear_mark t) (state_mark now) (state_mark f) mark_now
        (value_if n (f.marks j));
    filled = filled;
  }

  shrunk : Shrinks τ OfPlace s f now book (without_ticket t book) f.places at i g t
      (option_map (clear_stop t)) (option_map (clear_mark t))
  shrunk = shrinks Place τ OfPlace s f now order ends book h f.places at i g p stood entries
      h.places_in (λ j n is. is)
      (λ u e q is kind found. found_has τ u s.places q (h.places u ∙ ap (place_at f) is
      ∙ ap (λ k. place_under f k e.index e.generation) kind ∙ found))
      (option_map (clear_stop t)) (option_map (clear_mark t)) refl refl kept

  pub place_ended : s'.last ≡ s.last → order' ≡ s'.places
      → ((u : ℕ) → place_of s'.places u ≡ (if u == t then None else place_of s.places u))
      → ((u : ℕ) → stop_of s'.routes u ≡ option_map (clear_stop t) (stop_of s.routes u))
      → ((u : ℕ) → mark_of s'.marks u ≡ option_map (clear_mark t) (mark_of s.marks u))
      → ((u : ℕ) → next_stop s'.routes u ≡ next_stop s.routes u)
      → IsHeld s' now order' ends (without_ticket t book)
  place_ended last_same in_order places stops marks next = record {
    rise = shrunk.rise s'.last last_same;
    filled = shrunk.filled;
    places_in = shrunk.items;
    stops_in = λ j k v is. shrunk.others OfStop (λ same. absurd cc) v.ticket j k
        (h.stops_in j k v is);
    marks_in = λ j k v is. shrunk.others OfMark (λ same. absurd cc) v.ticket j k
        (h.marks_in j k v is);
    stop_place = λ j k v is. settled v.place (h.stop_place j k v is);
    mark_place = λ j k v is. settled v.place (h.mark_place j k v is);
    mark_stop = h.mark_stop;
    places_up_to = up_to_left f.places at i g f.place_counter counter p stood entries steps
        h.places_up_to;
    stops_up_to = h.stops_up_to;
    places = shrunk.places (place_of s'.places) places;
    stops = shrunk.stops_kept refl (stop_of s'.routes) stops;
    marks = shrunk.marks_kept refl (mark_of s'.marks) marks;
    in_order = sym in_order;
    routes = λ j k v is. next v.ticket ∙ h.routes j k v is;
  }

-- ---- what ties a store's parts

-- what the model tells of the removal of a place
pub record IsPlaceGone (s s' : State) (t : ℕ) : Type 0 where
  pub is : s' ≡ without_place s t
  pub places : (u : ℕ) → place_of s'.places u ≡ (if u == t then None else place_of s.places u)
  pub stops : (u : ℕ) → stop_of s'.routes u ≡ option_map (clear_stop t) (stop_of s.routes u)
  pub marks : (u : ℕ) → mark_of s'.marks u ≡ option_map (clear_mark t) (mark_of s.marks u)
  pub next : (u : ℕ) → next_stop s'.routes u ≡ next_stop s.routes u
  pub place_count : length s'.places + 1 ≡ length s.places
  pub stop_count : length (stop_list s'.routes) ≡ length (stop_list s.routes)
  pub mark_count : length s'.marks ≡ length s.marks

module _ (rooms : Rooms) (last : ℕ) (s : State)
    (places places' : Ordered Place) (stops : Content (IndexLink StopView))
    (marks : Content MarkView)
    (book : List Entry) (b : IsBook rooms last s places stops marks book)
    (i g : ℕ) (p : Place) (found : value_if g (entry_in places i) ≡ Some p)
    (ordered : IsOrdered places)
    (final : Option ℕ) (top : ℕ) (counts : final ≡ Some top)
    (calm : next_wraps final places.chains.counter ≡ false)
    (removed : IsEntryRemoved final i places places') where
  stood : entry_in places i ≡ Some (g, p)
  stood = stands_at (entry_in places) i g p found

  pub place_steps : places'.chains.counter ≡ places.chains.counter + 1
  place_steps = removed.counter ∙ one_up final places.chains.counter top counts calm

  apart : Off removed.order.before i × Off removed.order.after i
  apart = Apart-split removed.order.before removed.order.after i
      (subst Apart removed.order.was
      (linear_apart (ends_in places.chains) None (order_in places) ordered.linear))

  order_is : in_order places'
      ≡ filter (λ (q : Place). not (q.ticket == p.ticket)) (in_order places)
  order_is =
      ap (along (entry_in places')) removed.order.is
      ∙ along_left (entry_in places) (entry_in places') i g p stood removed.entries
      (own (λ (q : Place). q.ticket) OfPlace (entry_in places) (entry_in places') i g p stood
      removed.entries book b.held.places_in)
      removed.order.before removed.order.after apart.0 apart.1
      ∙ ap (λ w. filter (λ (q : Place). not (q.ticket == p.ticket)) (along (entry_in places) w))
      (sym removed.order.was)

  -- the other places keep their pointers
  pub places_stay : (k h : ℕ) (q : Place) → entry_in places k ≡ Some (h, q) → q.ticket ≢ p.ticket
      → entry_in places' k ≡ Some (h, q)
  places_stay = others_stay (λ (q : Place). q.ticket) OfPlace (entry_in places) (entry_in places')
      i g p stood removed.entries book b.held.places_in

  module _ (s' : State) (laws : IsPlaceGone s s' p.ticket) (sound : IsSound s') where
    held : IsHeld s' (found_in places' stops marks) (in_order places') (ends_in stops)
        (without_ticket p.ticket book)
    held = place_ended s s' (found_in places stops marks) (in_order places)
        (in_order places') (ends_in stops) book b.held
        i g p stood (entry_in places') removed.entries places'.chains.counter place_steps
        (ap (λ (x : State). x.last) laws.is)
        (order_is ∙ ap (filter (λ (q : Place). not (q.ticket == p.ticket))) (sym b.held.in_order)
        ∙ sym (ap (λ (x : State). x.places) laws.is))
        laws.places laws.stops laws.marks laws.next

    pub place_leaves : IsBook rooms last s' places' stops marks
        (without_ticket p.ticket book)
    place_leaves = record {
      held = held;
      places_rise = sound.order;
      within = record {
        rooms_are = ap (λ (x : State). x.rooms) laws.is ∙ b.within.rooms_are;
        place_count = (let n = b.within.place_count in let z = removed.size in let l =
            laws.place_count in omega (arith, n, z, l));
        stop_count = laws.stop_count ∙ b.within.stop_count;
        mark_count = laws.mark_count ∙ b.within.mark_count;
        places_fit = (let n = b.within.places_fit in let z = removed.size in omega (arith, n, z));
        stops_fit = b.within.stops_fit;
        marks_fit = b.within.marks_fit;
        place_room = subst (λ r. rooms.places ≤ capacity r) (sym removed.room) b.within.place_room;
        stop_room = b.within.stop_room;
        mark_room = b.within.mark_room;
      };
      last_is = ap (λ (x : State). x.last) laws.is ∙ b.last_is;
      entries = (let n = b.entries in let z = removed.size in let l =
          length_without p.ticket book 0 s.last _ b.held.rise (b.held.places_in i g p stood) in
          omega (arith, n, z, l));
      marks_differ = differ_of_rise s'.marks sound.marks;
    }

-- What a stop that a ticket names is in the arena of the stops, and what other interlinks make of
-- what ties a store's parts.
use Rattle.std.proofs.Common.{◌≡◌, ◌≢◌, ◌∙◌, sym, ap, subst, refl, Bool, true, false, ◌==◌, ◌||◌}
use Rattle.std.proofs.Common.{nat_lt, ℕ, ◌+◌, ◌≤◌, List, length, Option, Some, None, IsSome, Result}
use Rattle.std.proofs.Common.{Ok, Err, arith, cond, inl, inr}
use Rattle.std.specs.Option.{option_map}
use Rattle.std.proofs.lemmas.Bool.Decides.{eqb_tells}
use Rattle.triple_arena.specs.Entries.{value_if}
use Rattle.triple_arena.specs.Content.{Content, entry_at, get}
use Rattle.triple_arena_stack.specs.Room.{capacity}
use Rattle.triple_arena_chain.specs.LinkShape.{IndexLink}
use Rattle.linked_lists.specs.LinkedLists.{Ends}
use Rattle.triple_arena_chain.specs.Links.{ends_in, ends_found, link_ends, values_in, valued}
use Rattle.triple_arena_chain.specs.Links.{entry_ends, IsKept}
use Rattle.triple_arena_ord.specs.Ordered.{Ordered, entry_in}
use Rattle.ticket_book.specs.declared.entry.Kind.{Kind as ItemKind}
use Rattle.ticket_book.specs.declared.entry.Kind.TheVariants.{Place as OfPlace, Stop as OfStop}
use Rattle.ticket_book.specs.declared.entry.Kind.TheVariants.{Mark as OfMark}
use Rattle.ticket_book.specs.Tickets.{Entry, lookup}
use Rattle.route_lines.specs.Calls.{stop_holder}
use Rattle.route_lines.specs.Routes.{next_stop}
use Rattle.route_lines.specs.State.{State, Rooms, Place, Stop, Route, Mark, stop_list, place_of}
use Rattle.route_lines.specs.State.{stop_of, mark_of}
use Rattle.route_lines.specs.declared.refusal.Refusal.{Refusal}
use Rattle.route_lines.specs.declared.refusal.Refusal.TheVariants.{Unknown, Gone, Kind}
use Rattle.route_book.specs.Follows.{LeadAs, AreDistinct}
use Rattle.route_book.specs.Item.{StopView, MarkView}
use Rattle.route_book.specs.Holds.{Found, entry, state_stop, stop_under, stop_at, IsHeld}
use Rattle.route_book.specs.Book.{found_in, in_order, IsBook, KeepsItems}
use Rattle.route_book.proofs.HoldLemmas.{lookup_given}
use Rattle.route_book.proofs.OptionLemmas.{found_has, some_same, none_new}

-- ---- live indexes

module _ {T : Type 0} (c : Content (IndexLink T)) where
  pub live_ends : (i : ℕ) → IsSome (values_in c i) → IsSome (ends_in c i)
  live_ends i = by (entry_at c i)
    where
      by : (o : Option (ℕ × IndexLink T)) → IsSome (option_map valued o)
          → IsSome (option_map entry_ends o)
      by None some = some
      by (Some e) some = refl

  pub live_values : (i : ℕ) → IsSome (ends_in c i) → IsSome (values_in c i)
  live_values i = by (entry_at c i)
    where
      by : (o : Option (ℕ × IndexLink T)) → IsSome (option_map entry_ends o)
          → IsSome (option_map valued o)
      by None some = some
      by (Some e) some = refl

  -- what a pointer finds stands at its index
  pub record IsAt (i g : ℕ) (v : T) : Type 0 where
    pub here : values_in c i ≡ Some (g, v)
    pub ends : ends_found c i g ≡ ends_in c i
    pub live : IsSome (ends_in c i)

  pub is_at : (i g : ℕ) (v : T) → value_if g (values_in c i) ≡ Some v → IsAt i g v
  is_at i g v found = by (entry_at c i) refl
    where
      by : (o : Option (ℕ × IndexLink T)) → entry_at c i ≡ o → IsAt i g v
      by None none = absurd
          (let no : ◌≡◌ {A = Option T} None (Some v) =
          sym (ap (λ o. value_if g (option_map valued o)) none) ∙ found in cc)
      by (Some e) some = elim (eqb_tells e.0 g) [
        | inl own ↦
            let value : value_if g (values_in c i) ≡ Some e.1.t =
            ap (λ o. value_if g (option_map valued o)) some ∙ rw own.0 refl in
            let same : e.1.t ≡ v = some_same (sym value ∙ found) in
            let there : get c i g ≡ Some e.1 = ap (value_if g) some ∙ rw own.0 refl in
            record {
              here = ap (option_map valued) some ∙ ap (λ n. Some (n, e.1.t)) own.1
                  ∙ ap (λ x. Some (g, x)) same;
              ends = ap (option_map link_ends) there
                  ∙ sym (ap (option_map entry_ends) some);
              live = subst IsSome (sym (ap (option_map entry_ends) some)) refl;
            }
        | inr other ↦ absurd (let none : value_if g (values_in c i) ≡ None =
            ap (λ o. value_if g (option_map valued o)) some ∙ rw other.0 refl in
            let no : ◌≡◌ {A = Option T} None (Some v) = sym none ∙ found in cc)
      ]

-- ---- tickets

module _ (s : State) (f : Found) (order : List Place) (ends : ℕ → Option Ends) (book : List Entry)
    (h : IsHeld s f order ends book) where
  pub distinct : AreDistinct (λ (x : StopView). x.ticket) f.stops
  distinct i j g k v w here there same =
      let one : Some (entry v.ticket OfStop i g) ≡ Some (entry w.ticket OfStop j k) =
      sym (h.stops_in i g v here) ∙ ap (lookup book) same ∙ h.stops_in j k w there in
      ap (λ (e : Entry). e.index) (some_same one)

  -- no stop has the next ticket
  pub unknown : (v : StopView) → v.ticket ≡ s.last + 1 → (i g : ℕ) (w : StopView)
      → f.stops i ≡ Some (g, w) → w.ticket ≢ v.ticket
  unknown v next i g w there same = let given =
      lookup_given book 0 s.last w.ticket (entry w.ticket OfStop i g) h.rise
      (h.stops_in i g w there) in let top = given.2 in omega (arith, top, same, next)

  -- a stop of the state is at an index
  pub stop_index : (t : ℕ) (x : Stop) → stop_of s.routes t ≡ Some x
      → (i : ℕ) × ((e : ℕ × StopView) × ((f.stops i ≡ Some e) × (e.1.ticket ≡ x.ticket)))
  stop_index t x is = by (lookup book t) refl
    where
      Indexed : Type 0
      Indexed = (i : ℕ) × ((e : ℕ × StopView) × ((f.stops i ≡ Some e) × (e.1.ticket ≡ x.ticket)))

      no_stop : None ≡ Some x → Indexed
      no_stop never = absurd (let e : ◌≡◌ {A = Option Stop} None (Some x) = never in cc)

      at_index : (i g : ℕ) (o : Option (ℕ × StopView)) → f.stops i ≡ o
          → option_map (state_stop f) (value_if g o) ≡ Some x → Indexed
      at_index i g None none under = no_stop under
      at_index i g (Some e) some under = go (e.0 == g) under
        where
          go : (b : Bool) → option_map (state_stop f) (cond b (Some e.1) None) ≡ Some x → Indexed
          go true h = (i, (e, (some, ap (λ (y : Stop). y.ticket) (some_same h))))
          go false h = no_stop h

      of_kind : (k : ItemKind) (i g : ℕ) → stop_under f k i g ≡ Some x → Indexed
      of_kind OfPlace i g under = no_stop under
      of_kind OfMark i g under = no_stop under
      of_kind OfStop i g under = at_index i g (f.stops i) refl under

      by : (o : Option Entry) → lookup book t ≡ o → Indexed
      by None none = no_stop (sym (h.stops t ∙ ap (stop_at f) none) ∙ is)
      by (Some e) some = of_kind e.kind e.index e.generation
          (sym (h.stops t ∙ ap (stop_at f) some) ∙ is)

-- the stop that a ticket names has it
pub held_stop : (s : State) (t : ℕ) (q : Stop) → stop_holder s t ≡ Ok q
    → stop_of s.routes t ≡ Some q
held_stop s t q held =
    by ((t == 0) || nat_lt s.last t) refl (place_of s.places t) refl (stop_of s.routes t) refl
    (mark_of s.marks t) refl
  where
    no_ok : {e : Refusal} → stop_holder s t ≡ Err e → stop_of s.routes t ≡ Some q
    no_ok err = absurd (let no : ◌≡◌ {A = Result Stop Refusal} (Ok q) (Err _) = sym held
        ∙ err in cc)

    by : (a : Bool) → ((t == 0) || nat_lt s.last t) ≡ a → (b : Option Place)
        → place_of s.places t ≡ b → (c : Option Stop) → stop_of s.routes t ≡ c → (d : Option Mark)
        → mark_of s.marks t ≡ d
        → stop_of s.routes t ≡ Some q
    by true one b two c three d four = no_ok {e = Unknown} (rw one refl)
    by false one None two None three None four = no_ok {e = Gone} (rw (one, two, three, four) refl)
    by false one None two None three (Some m) four =
        no_ok {e = Kind} (rw (one, two, three, four) refl)
    by false one (Some p) two c three d four = no_ok {e = Kind} (rw (one, two) refl)
    by false one None two (Some u) three d four =
        let there : stop_holder s t ≡ Ok u = rw (one, two, three) refl in
        let same : ◌≡◌ {A = Result Stop Refusal} (Ok u) (Ok q) = sym there ∙ held in
        three ∙ ap Some (let is : u ≡ q = cc in is)

pub held_ticket : (s : State) (t : ℕ) (q : Stop) → stop_holder s t ≡ Ok q → q.ticket ≡ t
held_ticket s t q held =
    found_has (λ (x : Stop). x.ticket) t (stop_list s.routes) q (held_stop s t q held)

-- ---- other interlinks of the same stops

-- the functions are equal where they are at each index
equal_if_alike : {T : Type 0} (at at' : ℕ → T) → ((k : ℕ) → at k ≡ at' k) → at ≡ at'
equal_if_alike at at' same = λ i k. same k i

module _ (rooms : Rooms) (last : ℕ) (s : State)
    (places : Ordered Place) (stops stops' : Content (IndexLink StopView))
    (marks : Content MarkView)
    (book : List Entry) (b : IsBook rooms last s places stops marks book)
    (same : (k : ℕ) → values_in stops' k ≡ values_in stops k) (kept : IsKept stops stops')
    (routes : List Route) where
  pub relinked_kept : ((k : ℕ) → stop_of routes k ≡ stop_of s.routes k)
      → length (stop_list routes) ≡ length (stop_list s.routes)
      → LeadAs (λ (x : StopView). x.ticket) (values_in stops) (ends_in stops')
      (next_stop routes)
      → IsBook rooms last (record s { routes = routes }) places stops' marks book
  relinked_kept stay count lead = record {
    held = subst (λ (c : ℕ). IsHeld now
        (record {
          places = entry_in places;
          stops = values_in stops';
          marks = entry_at marks;
          place_counter = places.chains.counter;
          stop_counter = c;
        })
        (in_order places) (ends_in stops') book) (sym kept.counter)
        (subst (λ (at : ℕ → Option (ℕ × StopView)). IsHeld now
        (record {
          places = entry_in places;
          stops = at;
          marks = entry_at marks;
          place_counter = places.chains.counter;
          stop_counter = stops.counter;
        }) (in_order places)
        (ends_in stops') book)
        (sym (equal_if_alike (values_in stops') (values_in stops) same)) held);
    places_rise = b.places_rise;
    within = record {
      rooms_are = b.within.rooms_are;
      place_count = b.within.place_count;
      stop_count = count ∙ b.within.stop_count ∙ sym kept.live;
      mark_count = b.within.mark_count;
      places_fit = b.within.places_fit;
      stops_fit = (let l = kept.live in let n = b.within.stops_fit in omega (arith, l, n));
      marks_fit = b.within.marks_fit;
      place_room = b.within.place_room;
      stop_room = subst (λ r. rooms.stops ≤ capacity r) (sym kept.room) b.within.stop_room;
      mark_room = b.within.mark_room;
    };
    last_is = b.last_is;
    entries = (let n = b.entries in let l = kept.live in omega (arith, n, l));
    marks_differ = b.marks_differ;
  }
    where
      now : State
      now = record s { routes = routes }

      held : IsHeld now (found_in places stops marks) (in_order places)
          (ends_in stops') book
      held = record {
        rise = b.held.rise;
        filled = b.held.filled;
        places_in = b.held.places_in;
        stops_in = b.held.stops_in;
        marks_in = b.held.marks_in;
        stop_place = b.held.stop_place;
        mark_place = b.held.mark_place;
        mark_stop = b.held.mark_stop;
        places_up_to = b.held.places_up_to;
        stops_up_to = b.held.stops_up_to;
        places = b.held.places;
        stops = λ t. stay t ∙ b.held.stops t;
        marks = b.held.marks;
        in_order = b.held.in_order;
        routes = lead;
      }

-- each item keeps its pointer where interlinks change
pub kept_links : (s s' : State) (places : Ordered Place)
    (stops stops' : Content (IndexLink StopView)) (marks : Content MarkView)
    → ((k : ℕ) → values_in stops' k ≡ values_in stops k) → IsKept stops stops'
    → KeepsItems (record { state = s; places = places; stops = stops; marks = marks })
    (record { state = s'; places = places; stops = stops'; marks = marks })
kept_links s s' places stops stops' marks same kept = record {
  places = λ j n p is. (p, (is, (refl, refl)));
  stops = λ j n u is. same j ∙ is;
  marks = λ j n m is. is;
  new_places = none_new _ _ _ (λ k. refl);
  new_stops = none_new stops.counter (values_in stops) (values_in stops') same;
  new_marks = none_new _ _ _ (λ k. refl);
  place_counter = refl;
  stop_counter = kept.counter;
  mark_counter = refl;
  rooms = record { places = refl; stops = kept.room; marks = refl };
}

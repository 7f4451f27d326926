-- What a pack leaves of what ties a store's parts, over what the calls on the three arenas tell.
use Rattle.std.proofs.Common.{◌≡◌, ◌∙◌, sym, ap, subst, refl, true, ℕ, ◌<◌, ◌≤◌, List, [], ◌∷◌}
use Rattle.std.proofs.Common.{◌++◌, length, map, Option, Some, None, IsSome, is_some, arith}
use Rattle.std.specs.Option.{option_map}
use Rattle.std.proofs.lemmas.List.{length-map}
use Rattle.triple_arena_ptr.specs.Generation.{second_generation}
use Rattle.triple_arena_stack.specs.Room.{capacity}
use Rattle.triple_arena.specs.Content.{Content, entry_at, live_count, some_counter}
use Rattle.triple_arena.specs.Compression.{value_of}
use Rattle.triple_arena.specs.Changes.{IsCompressed}
use Rattle.triple_arena.specs.LiveEntries.{live_entries, entry-listed, live_entries-increase}
use Rattle.triple_arena_chain.specs.LinkShape.{IndexLink}
use Rattle.linked_lists.specs.LinkedLists.{Ends, On, next_at, next_in}
use Rattle.triple_arena_chain.specs.Renaming.{ends_renamed}
use Rattle.linked_lists.specs.ChainLaws.{On-first, live_prev_in}
use Rattle.linked_lists.specs.LinkedListLaws.{On-cons}
use Rattle.triple_arena_chain.specs.Links.{ends_in, values_in, IsChained}
use Rattle.triple_arena_chain.specs.CanonicalLayout.{IsCanonical}
use Rattle.triple_arena_ord.specs.Ascending.{entries_along}
use Rattle.triple_arena_ord.specs.Ordered.{Ordered, entry_in, order_in}
use Rattle.triple_arena_ord.specs.CanonicalLayout.{IsLaidInOrder}
use Rattle.route_lines.specs.State.{Place, State, Rooms}
use Rattle.ticket_book.specs.declared.entry.Kind.TheVariants.{Place as OfPlace, Stop as OfStop}
use Rattle.ticket_book.specs.declared.entry.Kind.TheVariants.{Mark as OfMark}
use Rattle.route_book.specs.Item.{StopView, MarkView}
use Rattle.ticket_book.specs.Tickets.{Entry}
use Rattle.route_book.specs.Holds.{Found, IsHeld}
use Rattle.route_book.specs.Book.{found_in, in_order, IsBook}
use Rattle.route_book.specs.Packing.{AreMoved, IsMirror, IsMirrored, IsBooked, recast_stop}
use Rattle.route_book.specs.Packing.{recast_mark}
use Rattle.ticket_book.specs.Mirrors.{Mirror, renewed_entry}
use Rattle.route_book.proofs.MirrorLemmas.{booked, mirror_is}
use Rattle.route_book.proofs.PackLemmas.{AreLive, packed}
use Rattle.route_book.proofs.PassedLemmas.{listed_to, listed_moved}
use Rattle.route_book.proofs.OptionLemmas.{mapped_some}
use Rattle.route_book.proofs.LinkLemmas.{live_ends, live_values}

no_some : {X : Type 0} {x : X} → ◌≡◌ {A = Option X} None (Some x) → ⊥
no_some e = absurd (cc)

-- an index along a list that is mapped
on_mapped : (to : ℕ → ℕ) (w : List ℕ) (k : ℕ) → On (map to w) k → (i : ℕ) × (On w i × (to i ≡ k))
on_mapped to [] k on = absurd (none on.front on.is)
  where
    none : (front : List ℕ) → [] ≡ front ++ k ∷ on.back → ⊥
    none [] is = absurd (let n = ap length is in omega (arith, n))
    none (x ∷ xs) is = absurd (let n = ap length is in omega (arith, n))
on_mapped to (x ∷ w) k on = by (λ o. on_mapped to w k o) on.front on.is
  where
    by : (On (map to w) k → (i : ℕ) × (On w i × (to i ≡ k))) → (front : List ℕ)
        → to x ∷ map to w ≡ front ++ k ∷ on.back → (i : ℕ) × (On (x ∷ w) i × (to i ≡ k))
    by next [] is = (x, (On-first x w, (let same : to x ≡ k = cc in same)))
    by next (y ∷ front) is =
        let tail : map to w ≡ front ++ k ∷ on.back = cc in
        let rest = next (record { front = front; back = on.back; is = tail }) in
        (rest.0, (On-cons x rest.0 w rest.1.0, rest.1.1))

-- entries along a list, each under another index and generation
module _ {T : Type 0} (to : ℕ → ℕ) (g : ℕ) (old new : ℕ → Option (ℕ × T)) where
  abbrev shift : ℕ × (ℕ × T) → ℕ × (ℕ × T)
  shift x = (to x.0, (g, x.1.1))

  along_moved : (w : List ℕ)
      → ((i : ℕ) → On w i → new (to i)
      ≡ option_map (λ (e : ℕ × T). (let z : ℕ × T = (g, e.1) in z)) (old i))
      → entries_along new (map to w) ≡ map shift (entries_along old w)
  along_moved [] each = refl
  along_moved (i ∷ w) each = by (old i) refl (along_moved w (λ k on. each k (On-cons i k w on)))
    where
      by : (o : Option (ℕ × T)) → old i ≡ o
          → entries_along new (map to w) ≡ map shift (entries_along old w)
          → entries_along new (to i ∷ map to w) ≡ map shift (entries_along old (i ∷ w))
      by None is rest =
          let none : new (to i) ≡ None = each i (On-first i w)
          ∙ ap (option_map (λ (e : ℕ × T). (let z : ℕ × T = (g, e.1) in z))) is in
          rw (none, is) rest
      by (Some e) is rest =
          let some : new (to i) ≡ Some (g, e.1) = each i (On-first i w)
          ∙ ap (option_map (λ (e : ℕ × T). (let z : ℕ × T = (g, e.1) in z))) is in
          rw (some, is) (ap (λ l. (to i, (g, e.1)) ∷ l) rest)

-- what the pointers of these arenas find, under counters of these values
abbrev pub found_under : Ordered Place → Content (IndexLink StopView) → Content MarkView → ℕ → ℕ
    → Found
found_under places stops marks place_counter stop_counter = record {
  places = entry_in places;
  stops = values_in stops;
  marks = entry_at marks;
  place_counter = place_counter;
  stop_counter = stop_counter;
}

-- what is held under counters and in an order that are the arenas' own
pub held_in_order : (s : State) (places : Ordered Place) (stops : Content (IndexLink StopView))
    (marks : Content MarkView) (order : List Place) (book : List Entry) (g : ℕ)
    → places.chains.counter ≡ g → stops.counter ≡ g → in_order places ≡ order
    → IsHeld s (found_under places stops marks g g) order (ends_in stops) book
    → IsHeld s (found_in places stops marks) (in_order places) (ends_in stops) book
held_in_order s places stops marks order book g counter_p counter_s same held =
    subst (λ w. IsHeld s (found_in places stops marks) w (ends_in stops) book) (sym same)
    (subst (λ c. IsHeld s (found_under places stops marks c stops.counter) order (ends_in stops)
    book) (sym counter_p)
    (subst (λ c. IsHeld s (found_under places stops marks g c) order (ends_in stops) book)
    (sym counter_s) held))

-- the places in order
module _ (last : Option ℕ) (places places' : Ordered Place)
    (laid : IsLaidInOrder last true places places')
    (stand : (i : ℕ) → IsSome (entry_in places i) → On (order_in places) i)
    (stand' : (i : ℕ) → IsSome (entry_in places' i) → On (order_in places') i) where
  pub places_moved : AreMoved laid.to (second_generation last) (entry_in places) (entry_in places')
  places_moved = record {
    into = λ i h p is. laid.entries i (stand i (ap is_some is))
        ∙ ap (option_map (λ (e : ℕ × Place). (let z : ℕ × Place = (second_generation last, e.1) in
        z))) is;
    onto = λ k h p is.
        let w = on_mapped laid.to (order_in places) k
        (subst (λ l. On l k) laid.order (stand' k (ap is_some is))) in
        let there : option_map
        (λ (e : ℕ × Place). (let z : ℕ × Place = (second_generation last, e.1) in z))
        (entry_in places w.0) ≡ Some (h, p) =
        sym (laid.entries w.0 w.1.0) ∙ ap (entry_in places') w.1.1 ∙ is in
        let x = mapped_some (λ
        (e : ℕ × Place). (let z : ℕ × Place = (second_generation last, e.1) in z))
        (entry_in places w.0) (h, p) there in (
          w.0,
          (
            x.0.0,
            (
              x.1.0 ∙ ap (λ v. Some (x.0.0, v)) (ap (λ (z : ℕ × Place). z.1) x.1.1),
              (w.1.1, sym (ap (λ (z : ℕ × Place). z.0) x.1.1)),
            ),
          ),
        );
  }

  along_same : entries_along (entry_in places') (order_in places')
      ≡ map (shift laid.to (second_generation last) (entry_in places) (entry_in places'))
      (entries_along (entry_in places) (order_in places))
  along_same =
      ap (entries_along (entry_in places')) laid.order
      ∙ along_moved laid.to (second_generation last) (entry_in places) (entry_in places')
      (order_in places) laid.entries

  pub order_same : in_order places' ≡ in_order places
  order_same = ap (map (λ x. x.1.1)) along_same
      ∙ by (entries_along (entry_in places) (order_in places))
    where
      by : (l : List (ℕ × (ℕ × Place)))
          → map (λ (x : ℕ × (ℕ × Place)). x.1.1)
          (map (shift laid.to (second_generation last) (entry_in places) (entry_in places')) l)
          ≡ map
          (λ (x : ℕ × (ℕ × Place)). x.1.1) l
      by [] = refl
      by (x ∷ l) = ap (λ t. x.1.1 ∷ t) (by l)

-- the stops in runs
module _ {T : Type 0} where
  pub stops_moved : (last : Option ℕ) (old new : Content (IndexLink T))
      (c : IsCanonical last true old new)
      → AreMoved c.to (second_generation last) (values_in old) (values_in new)
  stops_moved last old new c = record {
    into = λ i h t is. c.values i (live_ends old i (ap is_some is))
        ∙ ap (option_map (λ (e : ℕ × T). (let z : ℕ × T = (second_generation last, e.1) in z))) is;
    onto = λ k h t is.
        let w = c.renamed.onto k (live_ends new k (ap is_some is)) in
        let there : option_map (λ (e : ℕ × T). (let z : ℕ × T = (second_generation last, e.1) in z))
        (values_in old w.0) ≡ Some (h, t) =
        sym (c.values w.0 w.1) ∙ ap (values_in new) w.2 ∙ is in
        let x = mapped_some (λ (e : ℕ × T). (let z : ℕ × T = (second_generation last, e.1) in z))
        (values_in old w.0) (h, t) there in (
          w.0,
          (
            x.0.0,
            (
              x.1.0 ∙ ap (λ v. Some (x.0.0, v)) (ap (λ (z : ℕ × T). z.1) x.1.1),
              (w.2, sym (ap (λ (z : ℕ × T). z.0) x.1.1)),
            ),
          ),
        );
  }

-- the marks in the order of their indexes
module _ (last : Option ℕ) (old new : Content MarkView)
    (values : map value_of (live_entries new) ≡ map value_of (live_entries old))
    (compressed : IsCompressed entry_at live_count some_counter (λ (c : Content MarkView). c.room)
    last live_entries true old new) where
  abbrev pub marks_to : ℕ → ℕ
  marks_to = listed_to (entry_at old) (entry_at new) (live_entries old) (live_entries new)
      (second_generation last) (entry-listed old) (entry-listed new)
      (live_entries-increase old) (live_entries-increase new) values compressed.generations

  pub marks_moved : AreMoved marks_to (second_generation last) (entry_at old) (entry_at new)
  marks_moved = listed_moved (entry_at old) (entry_at new) (live_entries old) (live_entries new)
      (second_generation last) (entry-listed old) (entry-listed new)
      (live_entries-increase old) (live_entries-increase new) values compressed.generations

-- all that ties a store's parts
module _ (last : Option ℕ) (rooms : Rooms) (given : ℕ) (s : State)
    (places places' : Ordered Place)
    (stops stops1 stops' : Content (IndexLink StopView)) (marks marks1 marks' : Content MarkView)
    (book : List Entry) (b : IsBook rooms given s places stops marks book)
    (laid : IsLaidInOrder last true places places')
    (stand : (i : ℕ) → IsSome (entry_in places i) → On (order_in places) i)
    (stand' : (i : ℕ) → IsSome (entry_in places' i) → On (order_in places') i)
    (chained : IsChained stops) (canon : IsCanonical last true stops stops1)
    (values : map value_of (live_entries marks1) ≡ map value_of (live_entries marks))
    (compressed : IsCompressed entry_at live_count some_counter (λ (c : Content MarkView). c.room)
    last live_entries true marks marks1) where
  abbrev g : ℕ
  g = second_generation last

  moved_p : AreMoved laid.to g (entry_in places) (entry_in places')
  moved_p = places_moved last places places' laid stand stand'

  moved_s : AreMoved canon.to g (values_in stops) (values_in stops1)
  moved_s = stops_moved last stops stops1 canon

  abbrev to_m : ℕ → ℕ
  to_m = marks_to last marks marks1 values compressed

  moved_m : AreMoved to_m g (entry_at marks) (entry_at marks1)
  moved_m = marks_moved last marks marks1 values compressed

  -- the book has each item, so a mirror with the room can be filled
  pub places_booked : (room : ℕ) → ((i : ℕ) → IsSome (entry_in places i) → (0 < i) × (i ≤ room))
      → IsBooked (λ (p : Place). p.ticket) book (entry_in places') room
  places_booked = booked (λ (p : Place). p.ticket) OfPlace book laid.to g (entry_in places)
      (entry_in places') b.held.places_in moved_p

  pub stops_booked : (room : ℕ) → ((i : ℕ) → IsSome (values_in stops i) → (0 < i) × (i ≤ room))
      → IsBooked (λ (p : StopView). p.ticket) book (values_in stops1) room
  stops_booked = booked (λ (p : StopView). p.ticket) OfStop book canon.to g (values_in stops)
      (values_in stops1) b.held.stops_in moved_s

  pub marks_booked : (room : ℕ) → ((i : ℕ) → IsSome (entry_at marks i) → (0 < i) × (i ≤ room))
      → IsBooked (λ (p : MarkView). p.ticket) book (entry_at marks1) room
  marks_booked = booked (λ (p : MarkView). p.ticket) OfMark book to_m g (entry_at marks)
      (entry_at marks1) b.held.marks_in moved_m

  module _ (m n o : Mirror) (low_p low_s low_m : ℕ)
      (mirrored_p : IsMirrored (λ (p : Place). p.ticket) book (entry_in places') low_p m)
      (all_p : (k : ℕ) → IsSome (entry_in places' k) → k < low_p)
      (mirrored_s : IsMirrored (λ (p : StopView). p.ticket) book (values_in stops1) low_s n)
      (all_s : (k : ℕ) → IsSome (values_in stops1 k) → k < low_s)
      (mirrored_m : IsMirrored (λ (p : MarkView). p.ticket) book (entry_at marks1) low_m o)
      (all_m : (k : ℕ) → IsSome (entry_at marks1 k) → k < low_m)
      (recast_s : (k : ℕ) → values_in stops' k
      ≡ option_map (λ e. (e.0, recast_stop m e.1)) (values_in stops1 k))
      (recast_m : (k : ℕ) → entry_at marks' k
      ≡ option_map (λ e. (e.0, recast_mark m n e.1)) (entry_at marks1 k))
      (ends : (k : ℕ) → ends_in stops' k ≡ ends_in stops1 k)
      (stops_counter : stops'.counter ≡ stops1.counter)
      (stops_live : live_count stops' ≡ live_count stops1)
      (stops_room : stops'.room ≡ stops1.room)
      (marks_live : live_count marks' ≡ live_count marks1) (marks_room : marks'.room ≡ marks1.room)
    where
      mirror_p : IsMirror laid.to g (entry_in places) m
      mirror_p = mirror_is (λ (p : Place). p.ticket) OfPlace book laid.to g (entry_in places)
          (entry_in places') b.held.places_in moved_p low_p m mirrored_p all_p

      mirror_s : IsMirror canon.to g (values_in stops) n
      mirror_s = mirror_is (λ (p : StopView). p.ticket) OfStop book canon.to g (values_in stops)
          (values_in stops1) b.held.stops_in moved_s low_s n mirrored_s all_s

      mirror_m : IsMirror to_m g (entry_at marks) o
      mirror_m = mirror_is (λ (p : MarkView). p.ticket) OfMark book to_m g (entry_at marks)
          (entry_at marks1) b.held.marks_in moved_m low_m o mirrored_m all_m

      -- what follows a link follows it under the new indexes
      next_kept : (i : ℕ) → IsSome (values_in stops i)
          → next_at (ends_in stops') (canon.to i)
          ≡ option_map canon.to (next_at (ends_in stops) i)
      next_kept i some = ap next_in
          (ends (canon.to i) ∙ canon.renamed.ends i (live_ends stops i some))
          ∙ by (ends_in stops i)
        where
          by : (o : Option Ends)
              → next_in (option_map (ends_renamed canon.to) o) ≡ option_map canon.to (next_in o)
          by None = refl
          by (Some e) = refl

      live_kept : (i k : ℕ) → IsSome (values_in stops i) → next_at (ends_in stops) i ≡ Some k
          → IsSome (values_in stops k)
      live_kept i k some is =
          live_values stops k
          (live_prev_in (ends_in stops k) i (chained.agreed.forward i k is))

      held_now : IsHeld s (found_under places' stops' marks' g g) (in_order places)
          (ends_in stops') (map (renewed_entry m n o) book)
          × AreLive (entry_in places') (values_in stops') (entry_at marks')
      held_now = packed s (found_in places stops marks) (in_order places) (ends_in stops)
          (ends_in stops')
          book b.held laid.to canon.to to_m g g g (entry_in places') (values_in stops1)
          (entry_at marks1)
          m n o moved_p moved_s moved_m mirror_p mirror_s mirror_m (values_in stops')
          (entry_at marks') recast_s recast_m next_kept live_kept

      kept : IsBook rooms given s places' stops' marks' (map (renewed_entry m n o) book)
      kept = record {
        held = held_in_order s places' stops' marks' (in_order places)
            (map (renewed_entry m n o) book) g laid.counter (stops_counter ∙ canon.counter)
            (order_same last places places' laid stand stand') held_now.0;
        places_rise = b.places_rise;
        within = record {
          rooms_are = b.within.rooms_are;
          place_count = b.within.place_count ∙ sym laid.size;
          stop_count = b.within.stop_count ∙ sym (stops_live ∙ canon.live);
          mark_count = b.within.mark_count ∙ sym (marks_live ∙ compressed.live);
          places_fit = subst (λ k. k ≤ rooms.places) (sym laid.size) b.within.places_fit;
          stops_fit = subst (λ k. k ≤ rooms.stops) (sym (stops_live ∙ canon.live))
              b.within.stops_fit;
          marks_fit = subst (λ k. k ≤ rooms.marks) (sym (marks_live ∙ compressed.live))
              b.within.marks_fit;
          place_room = subst (λ r. rooms.places ≤ capacity r) (sym laid.room) b.within.place_room;
          stop_room = subst (λ r. rooms.stops ≤ capacity r) (sym (stops_room ∙ canon.room))
              b.within.stop_room;
          mark_room = subst (λ r. rooms.marks ≤ capacity r) (sym (marks_room ∙ compressed.room))
              b.within.mark_room;
        };
        last_is = b.last_is;
        marks_differ = b.marks_differ;
        entries = omega (
          arith,
          b.entries,
          length-map book (renewed_entry m n o),
          laid.size,
          stops_live ∙ canon.live,
          marks_live ∙ compressed.live,
        );
      }

      -- and no stored reference is dead
      pub pack_kept : IsBook rooms given s places' stops' marks' (map (renewed_entry m n o) book)
          × AreLive (entry_in places') (values_in stops') (entry_at marks')
      pack_kept = (kept, held_now.1)

-- A whole pack, over what its steps tell.
use Rattle.std.proofs.Common.{◌≡◌, ◌∙◌, sym, ap, subst, refl, ℕ, zero, suc, ◌+◌, ◌*◌, ◌<◌, ◌≤◌}
use Rattle.std.proofs.Common.{List, length, map, Option, None, IsSome, is_some, true≢false}
use Rattle.std.proofs.Common.{arith}
use Rattle.std.specs.Option.{option_map}
use Rattle.std.specs.List.{range_with_len}
use Rattle.triple_arena_ptr.specs.Generation.{second_generation}
use Rattle.triple_arena_stack.specs.Room.{Room, capacity}
use Rattle.triple_arena.specs.Content.{Content, entry_at, live_count, arena_capacity}
use Rattle.triple_arena_chain.specs.LinkShape.{IndexLink}
use Rattle.linked_lists.specs.LinkedLists.{On}
use Rattle.triple_arena_chain.specs.Links.{ends_in, values_in}
use Rattle.triple_arena_chain.specs.CanonicalLayout.{IsLaidOut}
use Rattle.triple_arena_chain.specs.CanonicalLayoutLaws.{laid_same}
use Rattle.triple_arena_ord.specs.Ordered.{Ordered, IsOrdered, entry_in, order_in}
use Rattle.route_lines.specs.Searches.{references_in}
use Rattle.route_lines.specs.State.{Place, State, Rooms}
use Rattle.route_book.specs.Item.{StopView, MarkView}
use Rattle.ticket_book.specs.Tickets.{Entry}
use Rattle.route_book.specs.Book.{Book, IsBook, as_book}
use Rattle.route_book.specs.Removals.{HaveGeneration, IsPacked}
use Rattle.route_book.specs.Compressed.{IsAllCompressed}
use Rattle.route_book.specs.Packing.{AreMoved, IsMirrored, IsBooked, StandAs, recast_stop}
use Rattle.route_book.specs.Packing.{recast_mark}
use Rattle.ticket_book.specs.Mirrors.{Mirror, renewed_entry}
use Rattle.route_book.proofs.BookPackLemmas.{places_moved, stops_moved, marks_moved}
use Rattle.route_book.proofs.BookPackLemmas.{places_booked, stops_booked, marks_booked}
use Rattle.route_book.proofs.BookPackLemmas.{pack_kept}
use Rattle.route_book.proofs.OptionLemmas.{mapped_some, some_same}
use Rattle.route_book.proofs.PackLemmas.{AreLive}
use Rattle.route_book.proofs.RunLemmas.{marks_run}

-- what ties the parts of a store says its rooms and its last ticket as its state has them
module _ (rooms : Rooms) (last : ℕ) (s : State)
    (places : Ordered Place)
    (stops : Content (IndexLink StopView)) (marks : Content MarkView) (book : List Entry)
    (b : IsBook rooms last s places stops marks book) where
  pub of_state : IsBook s.rooms s.last s places stops marks book
  of_state =
      subst (λ l. IsBook s.rooms l s places stops marks book) (sym b.last_is)
      (subst (λ r. IsBook r last s places stops marks book) (sym b.within.rooms_are) b)

  -- and what was changed within them, as the store has them
  pub in_store : (s' : State) (places' : Ordered Place) (stops' : Content (IndexLink StopView))
      (marks' : Content MarkView)
      (book' : List Entry) → IsBook s.rooms s.last s' places' stops' marks' book'
      → IsBook rooms last s' places' stops' marks' book'
  in_store s' places' stops' marks' book' b' =
      subst (λ l. IsBook rooms l s' places' stops' marks' book') b.last_is
      (subst (λ r. IsBook r s.last s' places' stops' marks' book') b.within.rooms_are b')

-- an arena whose room stays has that of a mirror whose room stays
pub fits_still : (room room' mirror mirror' : Room) → room' ≡ room → mirror' ≡ mirror
    → capacity room ≡ capacity mirror → capacity room' ≡ capacity mirror'
fits_still room room' mirror mirror' same kept fits = rw (same, kept) fits

-- renewed entries have their tickets and their kinds
pub stand_renewed : (m n o : Mirror) (old new : ℕ → Option Entry)
    → ((i : ℕ) → new i ≡ option_map (renewed_entry m n o) (old i)) → StandAs old new
stand_renewed m n o old new each i e is =
    (renewed_entry m n o e, (each i ∙ ap (option_map (renewed_entry m n o)) is, (refl, refl)))

-- the live indexes are from 1 to the room
fits : {T : Type 0} (at : ℕ → Option (ℕ × T)) (cap room : ℕ) → at 0 ≡ None
    → ((i : ℕ) → IsSome (at i) → i ≤ cap) → cap ≤ room → (i : ℕ) → IsSome (at i)
    → (0 < i) × (i ≤ room)
fits at cap room zero_none all up zero some = absurd (true≢false (sym some ∙ ap is_some zero_none))
fits at cap room zero_none all up (suc i) some =
    (omega arith, (let a = all (suc i) some in omega (arith, a, up)))

below : {T : Type 0} (at : ℕ → Option (ℕ × T)) (cap : ℕ) → ((i : ℕ) → IsSome (at i) → i ≤ cap)
    → (k : ℕ) → IsSome (at k) → k < cap + 1
below at cap all k some = (let a = all k some in omega (arith, a))

-- what a map made of each item under one generation has it
pub have_all : {T U : Type 0} (g : ℕ) (f : T → U) (old : ℕ → Option (ℕ × T))
    (new : ℕ → Option (ℕ × U))
    → ((k : ℕ) → new k ≡ option_map (λ (e : ℕ × T). (let z : ℕ × U = (g, f e.1) in z)) (old k))
    → HaveGeneration g new
have_all {U = U} g f old new each i h x is =
    let was = mapped_some (λ e. (let z : ℕ × U = (g, f e.1) in z)) (old i) (h, x)
    (sym (each i) ∙ is) in
    sym (ap (λ (z : ℕ × U). z.0) was.1.1)

-- what was moved has one generation, and what is written in place keeps its own
moved_to : {T : Type 0} (to : ℕ → ℕ) (g : ℕ) (old new : ℕ → Option (ℕ × T)) → AreMoved to g old new
    → HaveGeneration g new
moved_to to g old new moved i h x is = (moved.onto i h x is).1.1.1.1

written : {T : Type 0} (g : ℕ) (f : T → T) (old new : ℕ → Option (ℕ × T)) → HaveGeneration g old
    → ((k : ℕ) → new k ≡ option_map (λ (e : ℕ × T). (let z : ℕ × T = (e.0, f e.1) in z)) (old k))
    → HaveGeneration g new
written {T} g f old new have writes i h x is =
    let was = mapped_some (λ (e : ℕ × T). (let z : ℕ × T = (e.0, f e.1) in z)) (old i) (h, x)
    (sym (writes i) ∙ is) in
    sym (ap (λ (z : ℕ × T). z.0) was.1.1) ∙ have i was.0.0 was.0.1 was.1.0

-- a whole pack: what ties the store's parts still does, and the store is packed
pub record IsWhole (last : Option ℕ) (rooms : Rooms) (given before after : ℕ) (old new : Book)
    (entries : List Entry) : Type 0 where
  pub book : IsBook rooms given new.state new.places new.stops new.marks entries
  pub packed : IsPacked last before after old new

module _ (last : Option ℕ) (rooms : Rooms) (given : ℕ) (s : State)
    (places places' : Ordered Place)
    (stops stops1 : Content (IndexLink StopView)) (marks marks1 : Content MarkView)
    (book : List Entry) (b : IsBook rooms given s places stops marks book)
    (all : IsAllCompressed last places places' stops stops1 marks marks1)
    (law : (o : Ordered Place) (i : ℕ) → IsOrdered o → IsSome (entry_in o i)
    → On (order_in o) i) where
  stand : (i : ℕ) → IsSome (entry_in places i) → On (order_in places) i
  stand i some = law places i all.was_ordered some

  stand' : (i : ℕ) → IsSome (entry_in places' i) → On (order_in places') i
  stand' i some = law places' i all.ordered some

  pub ready_places : (book' : List Entry) → book' ≡ book → (room : ℕ)
      → arena_capacity places.chains ≤ room
      → IsBooked (λ (p : Place). p.ticket) book' (entry_in places') room
  ready_places book' same room up =
      subst (λ l. IsBooked (λ (p : Place). p.ticket) l (entry_in places') room) (sym same)
      (places_booked last rooms given s places places' stops stops1 stops1 marks marks1
      marks1 book b all.laid stand stand' all.was_chained all.canonical all.values
      all.compressed
      room (fits (entry_in places) (arena_capacity places.chains) room refl all.place_indexes up))

  pub ready_stops : (book' : List Entry) → book' ≡ book → (room : ℕ) → arena_capacity stops ≤ room
      → IsBooked (λ (p : StopView). p.ticket) book' (values_in stops1) room
  ready_stops book' same room up =
      subst (λ l. IsBooked (λ (p : StopView). p.ticket) l (values_in stops1) room) (sym same)
      (stops_booked last rooms given s places places' stops stops1 stops1 marks marks1 marks1
      book b all.laid stand stand' all.was_chained all.canonical all.values all.compressed
      room (fits (values_in stops) (arena_capacity stops) room refl all.stop_indexes up))

  pub ready_marks : (book' : List Entry) → book' ≡ book → (room : ℕ) → arena_capacity marks ≤ room
      → IsBooked (λ (p : MarkView). p.ticket) book' (entry_at marks1) room
  ready_marks book' same room up =
      subst (λ l. IsBooked (λ (p : MarkView). p.ticket) l (entry_at marks1) room) (sym same)
      (marks_booked last rooms given s places places' stops stops1 stops1 marks marks1 marks1
      book b all.laid stand stand' all.was_chained all.canonical all.values all.compressed
      room (fits (entry_at marks) (arena_capacity marks) room refl all.mark_indexes up))

  places_in_order : order_in places' ≡ range_with_len 1 (length s.places)
  places_in_order = all.laid.runs ∙ ap (range_with_len 1) (sym b.within.place_count)

  -- the generations
  place_generations : HaveGeneration (second_generation last) (entry_in places')
  place_generations =
      moved_to all.laid.to (second_generation last) (entry_in places) (entry_in places')
      (places_moved last places places' all.laid stand stand')

  stop_generations : (stops' : Content (IndexLink StopView)) (m : Mirror)
      → ((k : ℕ) → values_in stops' k
      ≡ option_map (λ e. (e.0, recast_stop m e.1)) (values_in stops1 k))
      → HaveGeneration (second_generation last) (values_in stops')
  stop_generations stops' m recast =
      written (second_generation last) (recast_stop m) (values_in stops1) (values_in stops')
      (moved_to all.canonical.to (second_generation last) (values_in stops) (values_in stops1)
      (stops_moved last stops stops1 all.canonical)) recast

  mark_generations : (marks' : Content MarkView) (m n : Mirror)
      → ((k : ℕ) → entry_at marks' k
      ≡ option_map (λ e. (e.0, recast_mark m n e.1)) (entry_at marks1 k))
      → HaveGeneration (second_generation last) (entry_at marks')
  mark_generations marks' m n recast =
      written (second_generation last) (recast_mark m n) (entry_at marks1) (entry_at marks')
      (moved_to _ (second_generation last) (entry_at marks) (entry_at marks1)
      (marks_moved last marks marks1 all.values all.compressed)) recast

  looks_made : (before between after : ℕ) → between ≡ before + live_count stops1
      → after ≡ between + 2 * live_count marks1
      → after ≡ before + references_in s
  looks_made before between after one two =
      let n = b.within.stop_count in let o = b.within.mark_count in let p = all.canonical.live in
      let q = all.compressed.live in
      omega (arith, one, two, n, o, p, q)

  module _ (stops' : Content (IndexLink StopView)) (marks' : Content MarkView) (m n o : Mirror)
      (book1 book2 book3 : List Entry)
      (same1 : book1 ≡ book) (same2 : book2 ≡ book) (same3 : book3 ≡ book)
      (mirrored_p : (low : ℕ) → ((k : ℕ) → IsSome (entry_in places' k) → k < low)
      → IsMirrored (λ (p : Place). p.ticket) book1 (entry_in places') low m)
      (mirrored_s : (low : ℕ) → ((k : ℕ) → IsSome (values_in stops1 k) → k < low)
      → IsMirrored (λ (p : StopView). p.ticket) book2 (values_in stops1) low n)
      (mirrored_m : (low : ℕ) → ((k : ℕ) → IsSome (entry_at marks1 k) → k < low)
      → IsMirrored (λ (p : MarkView). p.ticket) book3 (entry_at marks1) low o)
      (recast_s : (k : ℕ) → values_in stops' k
      ≡ option_map (λ e. (e.0, recast_stop m e.1)) (values_in stops1 k))
      (recast_m : (k : ℕ) → entry_at marks' k
      ≡ option_map (λ e. (e.0, recast_mark m n e.1)) (entry_at marks1 k))
      (ends : (k : ℕ) → ends_in stops' k ≡ ends_in stops1 k)
      (stops_counter : stops'.counter ≡ stops1.counter)
      (stops_live : live_count stops' ≡ live_count stops1)
      (stops_room : stops'.room ≡ stops1.room) (stops_free : stops'.free ≡ stops1.free)
      (marks_counter : marks'.counter ≡ marks1.counter)
      (marks_live : live_count marks' ≡ live_count marks1) (marks_room : marks'.room ≡ marks1.room)
      (marks_free : marks'.free ≡ marks1.free) where
    low_p : ℕ
    low_p = arena_capacity places'.chains + 1

    low_s : ℕ
    low_s = arena_capacity stops1 + 1

    low_m : ℕ
    low_m = arena_capacity marks1 + 1

    all_p : (k : ℕ) → IsSome (entry_in places' k) → k < low_p
    unfolding low_p
    all_p = below (entry_in places') (arena_capacity places'.chains) all.place_bound

    all_s : (k : ℕ) → IsSome (values_in stops1 k) → k < low_s
    unfolding low_s
    all_s = below (values_in stops1) (arena_capacity stops1) all.stop_bound

    all_m : (k : ℕ) → IsSome (entry_at marks1 k) → k < low_m
    unfolding low_m
    all_m = below (entry_at marks1) (arena_capacity marks1) all.mark_bound

    in_p : IsMirrored (λ (p : Place). p.ticket) book (entry_in places') low_p m
    in_p = subst (λ l. IsMirrored (λ (p : Place). p.ticket) l (entry_in places') low_p m) same1
        (mirrored_p low_p all_p)

    in_s : IsMirrored (λ (p : StopView). p.ticket) book (values_in stops1) low_s n
    in_s = subst (λ l. IsMirrored (λ (p : StopView). p.ticket) l (values_in stops1) low_s n) same2
        (mirrored_s low_s all_s)

    in_m : IsMirrored (λ (p : MarkView). p.ticket) book (entry_at marks1) low_m o
    in_m = subst (λ l. IsMirrored (λ (p : MarkView). p.ticket) l (entry_at marks1) low_m o) same3
        (mirrored_m low_m all_m)

    tied : IsBook rooms given s places' stops' marks' (map (renewed_entry m n o) book)
        × AreLive (entry_in places') (values_in stops') (entry_at marks')
    tied =
        pack_kept last rooms given s places places' stops stops1 stops' marks marks1 marks'
        book b all.laid stand stand' all.was_chained all.canonical all.values all.compressed
        m n o low_p low_s low_m in_p all_p in_s all_s in_m all_m recast_s recast_m ends
        stops_counter stops_live stops_room marks_live marks_room

    pub whole_pack : (before between after : ℕ) → between ≡ before + live_count stops1
        → after ≡ between + 2 * live_count marks1
        → IsWhole last rooms given before after (as_book s places stops marks)
        (as_book s places' stops' marks') (map (renewed_entry m n o) book)
    whole_pack before between after one two = record {
      book = tied.0;
      packed = record {
        looks = looks_made before between after one two;
        place_counter = all.laid.counter;
        stop_counter = stops_counter ∙ all.canonical.counter;
        mark_counter = marks_counter ∙ some_same all.compressed.counter;
        place_generations = place_generations;
        stop_generations = stop_generations stops' m recast_s;
        mark_generations = mark_generations marks' m n recast_m;
        rooms = record {
          places = all.laid.room;
          stops = stops_room ∙ all.canonical.room;
          marks = marks_room ∙ all.compressed.room;
        };
        order = places_in_order;
        stop_runs = subst (IsLaidOut (ends_in stops')) (sym (stops_live ∙ all.canonical.live))
            (laid_same (ends_in stops1) (ends_in stops') _ ends all.canonical.laid_out);
        mark_run = marks_run marks1 marks' _ all.compressed.entries recast_m marks_live;
        place_free = all.laid.free;
        stop_free = stops_free ∙ all.canonical.free;
        mark_free = marks_free ∙ all.mark_free;
        stops = tied.1.stops;
        marks = tied.1.marks;
      };
    }

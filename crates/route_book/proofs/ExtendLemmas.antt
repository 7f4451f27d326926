-- What `extend` makes of what ties a store's parts.
use Rattle.std.proofs.Common.{◌≡◌, ◌≢◌, ◌∙◌, sym, ap, subst, refl, true, false, ℕ, ◌+◌, ◌≤◌}
use Rattle.std.proofs.Common.{List, [], ◌∷◌, ◌++◌, length, Option, Some, None, IsSome, IfSome, Ok}
use Rattle.std.proofs.Common.{arith, length-append}
use Rattle.std.specs.Option.{option_map}
use Rattle.triple_arena.specs.Entries.{value_if}
use Rattle.triple_arena.specs.Content.{Content, entry_at}
use Rattle.triple_arena_stack.specs.Room.{capacity}
use Rattle.linked_lists.specs.LinkedLists.{Ends, IsAgreed, next_at}
use Rattle.triple_arena_chain.specs.Kinds.{after_link}
use Rattle.triple_arena_chain.specs.LinkShape.{IndexLink}
use Rattle.triple_arena_chain.specs.declared.gap.Gap.{Gap}
use Rattle.triple_arena_chain.specs.declared.gap.Gap.TheVariants.{Between}
use Rattle.triple_arena_chain.specs.Links.{ends_in, ends_found, entry_ends, values_in, valued}
use Rattle.triple_arena_chain.specs.Links.{IsChained, IsLinkInserted}
use Rattle.triple_arena_ord.specs.Ordered.{Ordered, entry_in}
use Rattle.ticket_book.specs.declared.entry.Kind.TheVariants.{Stop as OfStop}
use Rattle.ticket_book.specs.Tickets.{Entry, AreBelow}
use Rattle.route_lines.specs.Calls.{place_holder, stop_holder, extended, after_extend}
use Rattle.route_lines.specs.Routes.{next_stop, put_behind}
use Rattle.route_lines.specs.State.{State, Rooms, Place, Stop, Route, stop_list, stop_of}
use Rattle.route_lines.specs.State.{is_full_of_stops}
use Rattle.route_book.specs.Follows.{LeadAs}
use Rattle.route_book.specs.Item.{StopView, MarkView}
use Rattle.route_book.specs.Holds.{entry, state_stop, IsHeld}
use Rattle.route_book.specs.Book.{Book, found_in, found_of, in_order, IsBook, KeepsItems}
use Rattle.route_book.proofs.FollowLemmas.{lead_extended}
use Rattle.route_book.proofs.HoldLemmas.{below_next}
use Rattle.route_book.proofs.LinkLemmas.{IsAt, is_at, distinct, held_ticket, live_ends, unknown}
use Rattle.route_book.proofs.NeighborLemmas.{held_place}
use Rattle.route_book.proofs.StartLemmas.{stops_not_full, kept_stop}
use Rattle.route_book.proofs.StopLemmas.{stop_added}
use Rattle.route_book.proofs.OptionLemmas.{found_has}

-- ---- what it answers

module _ (s : State) (t at : ℕ) where
  pub extended_new : (x : Stop) (p : Place) → stop_holder s t ≡ Ok x → place_holder s at ≡ Ok p
      → is_full_of_stops s ≡ false
      → (extended s t at ≡ Ok (s.last + 1))
      × (after_extend s t at
      ≡ record s {
        last = s.last + 1;
        routes = put_behind t (record { ticket = s.last + 1; place = Some at }) s.routes;
      })
  extended_new x p stop place free = (rw (stop, place, free) refl, rw (stop, place, free) refl)

-- ---- where there is room

-- a stop directly behind one that a pointer finds
behind_is : {T : Type 0} (c : Content (IndexLink T)) (i g : ℕ) (v : T)
    → IsAt c i g v
    → after_link i (ends_found c i g)
    ≡ Some (Between (Some i) (next_at (ends_in c) i))
behind_is c i g v at = by (ends_in c i) refl at.live
  where
    by : (o : Option Ends) → ends_in c i ≡ o → IsSome o
        → after_link i (ends_found c i g)
        ≡ Some (Between (Some i) (next_at (ends_in c) i))
    by None none some = absurd (let never : false ≡ true = some in cc)
    by (Some e) is some = ap (after_link i) (at.ends ∙ is)
        ∙ sym (ap (λ o. Some (Between (Some i) (next_of o))) is)
      where
        next_of : Option Ends → Option ℕ
        next_of o = next_at (λ k. o) i

module _ (rooms : Rooms) (last : ℕ) (s : State)
    (places : Ordered Place) (stops : Content (IndexLink StopView)) (marks : Content MarkView)
    (book : List Entry) (b : IsBook rooms last s places stops marks book) (t i g : ℕ)
    (v : StopView) (found : value_if g (values_in stops i) ≡ Some v)
    (held : stop_holder s t ≡ Ok (state_stop (found_in places stops marks) v)) (pt : ℕ) (p : Place)
    (place : place_holder s pt ≡ Ok p) (free : is_full_of_stops s ≡ false) where
  own_at : IsAt stops i g v
  own_at = is_at stops i g v found

  module _ (agreed : IsAgreed (ends_in stops)) (pi pg : ℕ)
      (at_place : value_if pg (entry_in places pi) ≡ Some p) (w : StopView) (n h : ℕ)
      (ticket : w.ticket ≡ last + 1)
      (to : w.place ≡ Some (pi, pg))
      (stops' : Content (IndexLink StopView))
      (placed : IfSome (after_link i (ends_found stops i g))
      (λ gap. IsLinkInserted gap n h w stops stops'))
      (same_room : stops'.room ≡ stops.room) where
    put : IsLinkInserted (Between (Some i) (next_at (ends_in stops) i)) n h w
        stops stops'
    put = subst (λ o. IfSome o (λ (gap : Gap ℕ). IsLinkInserted gap n h w stops stops'))
        (behind_is stops i g v own_at) placed

    vacant : values_in stops n ≡ None
    vacant = ap (option_map valued) put.vacant

    absent : ends_in stops n ≡ None
    absent = ap (option_map entry_ends) put.vacant

    next : w.ticket ≡ s.last + 1
    next = ticket ∙ ap (λ k. k + 1) (sym b.last_is)

    live : IfSome w.place (λ q. IsSome (value_if q.1 (entry_in places q.0)))
    live = subst (λ r. IfSome r (λ q. IsSome (value_if q.1 (entry_in places q.0)))) (sym to)
        (subst IsSome (sym at_place) refl)

    stop_is : state_stop (found_in places stops marks) w
        ≡ record { ticket = s.last + 1; place = Some pt }
    stop_is = let named =
        found_has (λ (x : Place). x.ticket) pt s.places p (held_place s pt p place) in
        rw (next, to, at_place, named) refl

    own_ticket : v.ticket ≡ t
    own_ticket = held_ticket s t _ held

    answer : extended s t pt ≡ Ok (s.last + 1)
    answer = (extended_new s t pt _ p held place free).0

    abbrev later : List Route
    later = (after_extend s t pt).routes

    pub extend_kept : (extended s t pt ≡ Ok (s.last + 1) → next_stop later t ≡ Some (s.last + 1))
        → (extended s t pt ≡ Ok (s.last + 1) → next_stop later (s.last + 1) ≡ next_stop s.routes t)
        → ((k : ℕ) → extended s t pt ≡ Ok (s.last + 1) → k ≢ t → k ≢ s.last + 1
        → next_stop later k ≡ next_stop s.routes k)
        → (extended s t pt ≡ Ok (s.last + 1)
        → stop_of later (s.last + 1) ≡ Some (record { ticket = s.last + 1; place = Some pt }))
        → ((k : ℕ) → extended s t pt ≡ Ok (s.last + 1) → k ≢ s.last + 1
        → stop_of later k ≡ stop_of s.routes k)
        → (extended s t pt ≡ Ok (s.last + 1)
        → length (stop_list later) ≡ length (stop_list s.routes) + 1)
        → IsBook rooms (last + 1) (after_extend s t pt) places stops' marks
        (book ++ entry w.ticket OfStop n h ∷ [])
    extend_kept leads through leads_others own others count =
        subst (λ z. IsBook rooms (last + 1) z places stops' marks
        (book ++ entry w.ticket OfStop n h ∷ [])) (sym whole) (record {
          held = subst (λ (c : ℕ). IsHeld now
              (record {
                places = entry_in places;
                stops = values_in stops';
                marks = entry_at marks;
                place_counter = places.chains.counter;
                stop_counter = c;
              })
              (in_order places) (ends_in stops')
              (book ++ entry w.ticket OfStop n h ∷ []))
              (sym put.counter) held_now;
          places_rise = b.places_rise;
          within = record {
            rooms_are = b.within.rooms_are;
            place_count = b.within.place_count;
            stop_count = (let c = count answer in let k = b.within.stop_count in let l = put.live in
                omega (arith, c, k, l));
            mark_count = b.within.mark_count;
            places_fit = b.within.places_fit;
            stops_fit = (let l = put.live in let k = b.within.stop_count in let r =
                ap (λ (r : Rooms). r.stops) b.within.rooms_are in let less =
                stops_not_full s free in omega (arith, less, l, k, r));
            marks_fit = b.within.marks_fit;
            place_room = b.within.place_room;
            stop_room = subst (λ r. rooms.stops ≤ capacity r) (sym same_room) b.within.stop_room;
            mark_room = b.within.mark_room;
          };
          last_is = ap (λ k. k + 1) b.last_is;
          entries = (let a = length-append book (entry w.ticket OfStop n h ∷ []) in let k =
              b.entries in let l = put.live in omega (arith, a, k, l));
          marks_differ = b.marks_differ;
        })
      where
        now : State
        now = record s { last = s.last + 1; routes = later }

        whole : after_extend s t pt ≡ now
        whole = let e = (extended_new s t pt _ p held place free).1 in e
            ∙ sym (ap (λ (z : State). record s { last = s.last + 1; routes = z.routes }) e)

        lead : LeadAs (λ (x : StopView). x.ticket) (values_in stops') (ends_in stops')
            (next_stop later)
        lead =
            lead_extended (λ (x : StopView). x.ticket) (values_in stops) (ends_in stops)
            (ends_in stops') (next_stop s.routes) (next_stop later) b.held.routes
            (values_in stops') n h w agreed (live_ends stops) absent
            (unknown s (found_in places stops marks) (in_order places)
            (ends_in stops) book b.held w next) put.values
            (distinct s (found_in places stops marks) (in_order places)
            (ends_in stops) book b.held) i g v own_at.here
            (ap (next_stop later) own_ticket ∙ leads answer ∙ ap Some (sym next))
            (ap (next_stop later) next ∙ through answer
            ∙ ap (next_stop s.routes) (sym own_ticket))
            (λ k apart off. leads_others k answer (λ is. apart (is ∙ sym own_ticket))
            (λ is. off (is ∙ sym next))) put.ends

        held_now : IsHeld now
            (record {
              places = entry_in places;
              stops = values_in stops';
              marks = entry_at marks;
              place_counter = places.chains.counter;
              stop_counter = stops.counter;
            })
            (in_order places) (ends_in stops')
            (book ++ entry w.ticket OfStop n h ∷ [])
        held_now =
            stop_added s (found_in places stops marks) (in_order places)
            (ends_in stops) (ends_in stops') book b.held w n h (values_in stops')
            vacant put.values next
            put.generation live later
            (λ k other. others k answer other)
            (λ k is. ap (stop_of later) is ∙ own answer ∙ ap Some (sym stop_is)) lead

    -- each item keeps its pointer
    pub extend_keeps : (s' : State)
        → KeepsItems (record { state = s; places = places; stops = stops; marks = marks })
        (record { state = s'; places = places; stops = stops'; marks = marks })
    extend_keeps s' =
        kept_stop s s' places stops stops' marks w n h
        put.values vacant put.generation put.counter same_room

-- ---- the same of the store that the calls see

-- the next ticket is above those of the book
pub next_above : (rooms : Rooms) (last : ℕ) (s : State)
    (places : Ordered Place) (stops : Content (IndexLink StopView)) (marks : Content MarkView)
    (book : List Entry) → IsBook rooms last s places stops marks book
    → AreBelow book (last + 1)
next_above rooms last s places stops marks book b =
    subst (λ n. AreBelow book (n + 1)) b.last_is (below_next book 0 s.last b.held.rise)

module _ (rooms : Rooms) (last : ℕ) (s : State)
    (places : Ordered Place) (stops : Content (IndexLink StopView)) (marks : Content MarkView)
    (book : List Entry) (b : IsBook rooms last s places stops marks book) (k : Book)
    (view : record { state = s; places = places; stops = stops; marks = marks } ≡ k)
    (t i g : ℕ) (from : (v : StopView) × (value_if g (values_in k.stops i) ≡ Some v)
    × (stop_holder k.state t ≡ Ok (state_stop (found_of k) v)))
    (pt pi pg : ℕ) (at : (p : Place) × (value_if pg (entry_in k.places pi) ≡ Some p)
    × (place_holder k.state pt ≡ Ok p)) (free : false ≡ is_full_of_stops k.state) where
  abbrev stop : (v : StopView) × (value_if g (values_in stops i) ≡ Some v)
      × (stop_holder s t ≡ Ok (state_stop (found_in places stops marks) v))
  stop = subst (λ (x : Book). (v : StopView) × (value_if g (values_in x.stops i) ≡ Some v)
      × (stop_holder x.state t ≡ Ok (state_stop (found_of x) v))) (sym view) from

  abbrev place : (p : Place) × (value_if pg (entry_in places pi) ≡ Some p)
      × (place_holder s pt ≡ Ok p)
  place = subst (λ (x : Book). (p : Place) × (value_if pg (entry_in x.places pi) ≡ Some p)
      × (place_holder x.state pt ≡ Ok p)) (sym view) at

  abbrev room : is_full_of_stops s ≡ false
  room = ap (λ (x : Book). is_full_of_stops x.state) view ∙ sym free

  module _ (chained : IsChained k.stops) (w : StopView) (n h : ℕ)
      (ticket : w.ticket ≡ last + 1) (to : w.place ≡ Some (pi, pg))
      (stops' : Content (IndexLink StopView))
      (placed : IfSome (after_link i (ends_found stops i g))
      (λ gap. IsLinkInserted gap n h w stops stops'))
      (same_room : stops'.room ≡ stops.room) where
    abbrev agreed : IsAgreed (ends_in stops)
    agreed = (subst (λ (x : Book). IsChained x.stops) (sym view) chained).agreed

    pub extend_leaves : (z : State) (book' : List Entry) → z ≡ after_extend s t pt
        → book' ≡ book ++ entry (last + 1) OfStop n h ∷ []
        → ((m : ℕ) → extended s t pt ≡ Ok m → next_stop (after_extend s t pt).routes t ≡ Some m)
        → ((m : ℕ) → extended s t pt ≡ Ok m
        → next_stop (after_extend s t pt).routes m ≡ next_stop s.routes t)
        → ((m x : ℕ) → extended s t pt ≡ Ok m → x ≢ t → x ≢ m
        → next_stop (after_extend s t pt).routes x ≡ next_stop s.routes x)
        → ((m : ℕ) → extended s t pt ≡ Ok m
        → stop_of (after_extend s t pt).routes m
        ≡ Some (record { ticket = m; place = Some pt }))
        → ((m x : ℕ) → extended s t pt ≡ Ok m → x ≢ m
        → stop_of (after_extend s t pt).routes x ≡ stop_of s.routes x)
        → ((m : ℕ) → extended s t pt ≡ Ok m
        → length (stop_list (after_extend s t pt).routes) ≡ length (stop_list s.routes) + 1)
        → IsBook rooms (last + 1) z places stops' marks book'
    extend_leaves z book' is more leads through leads_others own others count =
        subst (λ l. IsBook rooms (last + 1) z places stops' marks l)
        (ap (λ m. book ++ entry m OfStop n h ∷ []) ticket ∙ sym more)
        (subst (λ x. IsBook rooms (last + 1) x places stops' marks
        (book ++ entry w.ticket OfStop n h ∷ [])) (sym is)
        (extend_kept rooms last s places stops marks book b t i g stop.0 stop.1 stop.2 pt
        place.0 place.2 room agreed pi pg place.1 w n h ticket to stops' placed same_room
        (leads (s.last + 1)) (through (s.last + 1)) (λ x. leads_others (s.last + 1) x)
        (own (s.last + 1)) (λ x. others (s.last + 1) x) (count (s.last + 1))))

    pub extend_keeps_in : (s' : State)
        → KeepsItems k (record { state = s'; places = places; stops = stops'; marks = marks })
    extend_keeps_in s' =
        subst (λ x. KeepsItems x
        (record { state = s'; places = places; stops = stops'; marks = marks })) view
        (extend_keeps rooms last s places stops marks book b t i g stop.0 stop.1 stop.2 pt
        place.0 place.2 room agreed pi pg place.1 w n h ticket to stops' placed same_room s')

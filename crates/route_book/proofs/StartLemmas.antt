-- What `start` makes of what ties a store's parts.
use Rattle.std.proofs.Common.{◌≡◌, ◌≢◌, ◌∙◌, sym, ap, subst, refl, false, ◌==◌, ℕ}
use Rattle.std.proofs.Common.{◌+◌, ◌<◌, ◌≤◌, List, [], ◌∷◌, ◌++◌, length, Some, None}
use Rattle.std.proofs.Common.{IsSome, IfSome, Ok, arith, length-append, find, append_assoc}
use Rattle.std.specs.Option.{option_map, option_or}
use Rattle.std.proofs.lemmas.Bool.{ne_eqb, eq-eqb}
use Rattle.std.proofs.lemmas.List.Folds.{find-append}
use Rattle.triple_arena.specs.Entries.{value_if, with_entry}
use Rattle.triple_arena.specs.Content.{Content, entry_at}
use Rattle.triple_arena_stack.specs.Room.{capacity}
use Rattle.linked_lists.specs.LinkedLists.{IsAgreed}
use Rattle.triple_arena_chain.specs.LinkShape.{IndexLink}
use Rattle.triple_arena_chain.specs.declared.gap.Gap.TheVariants.{Between}
use Rattle.triple_arena_chain.specs.Links.{ends_in, values_in, entry_ends, valued, IsLinkInserted}
use Rattle.triple_arena_ord.specs.Ordered.{Ordered, entry_in}
use Rattle.ticket_book.specs.declared.entry.Kind.TheVariants.{Stop as OfStop}
use Rattle.ticket_book.specs.Tickets.{Entry}
use Rattle.route_lines.specs.Calls.{place_holder, started, after_start}
use Rattle.route_lines.specs.Routes.{linear, next_stop}
use Rattle.route_lines.specs.State.{State, Rooms, Place, Stop, Route, stop_list, stop_of}
use Rattle.route_lines.specs.State.{is_full_of_stops}
use Rattle.route_book.specs.Item.{StopView, MarkView}
use Rattle.route_book.specs.Follows.{LeadAs}
use Rattle.route_book.specs.Holds.{entry, state_stop, IsHeld}
use Rattle.route_book.specs.Book.{found_in, in_order, IsBook, KeepsItems}
use Rattle.route_book.proofs.NeighborLemmas.{held_place}
use Rattle.route_book.proofs.FollowLemmas.{lead_started}
use Rattle.route_book.proofs.LinkLemmas.{live_ends, unknown}
use Rattle.route_book.proofs.StopLemmas.{stop_added, no_stop_yet}
use Rattle.route_book.proofs.RoomLemmas.{room_left}
use Rattle.route_book.proofs.OptionLemmas.{found_has, none_behind, none_new, one_new, each_stays}

-- where there is room, fewer stops live than the room holds
pub stops_not_full : (s : State) → is_full_of_stops s ≡ false
    → length (stop_list s.routes) < s.rooms.stops
stops_not_full s is = room_left s.rooms.stops (length (stop_list s.routes)) _ is

pub stop_list-append : (rs : List Route) (r : Route)
    → stop_list (rs ++ r ∷ []) ≡ stop_list rs ++ r.stops
stop_list-append [] r = by r.stops
  where
    by : (l : List Stop) → l ++ [] ≡ l
    by [] = refl
    by (x ∷ l) = ap (λ k. x ∷ k) (by l)
stop_list-append (x ∷ rs) r = ap (λ l. x.stops ++ l) (stop_list-append rs r)
    ∙ sym (append_assoc x.stops (stop_list rs) r.stops)

module _ (s : State) (t : ℕ) where
  pub started_new : (p : Place) → place_holder s t ≡ Ok p → is_full_of_stops s ≡ false
      → (started s t ≡ Ok (s.last + 1))
      × (after_start s t ≡ record s {
        last = s.last + 1;
        routes = s.routes ++ linear (record { ticket = s.last + 1; place = Some t } ∷ []) ∷ [];
      })
  started_new p held free = (rw (held, free) refl, rw (held, free) refl)

-- a start where there is room
module _ (rooms : Rooms) (last : ℕ) (s : State)
    (places : Ordered Place) (stops stops' : Content (IndexLink StopView))
    (marks : Content MarkView)
    (book : List Entry) (b : IsBook rooms last s places stops marks book)
    (t : ℕ) (p : Place) (held : place_holder s t ≡ Ok p) (free : is_full_of_stops s ≡ false)
    (pi pg : ℕ) (found : value_if pg (entry_in places pi) ≡ Some p)
    (v : StopView) (i g : ℕ) (ticket : v.ticket ≡ last + 1) (to : v.place ≡ Some (pi, pg))
    (put : IsLinkInserted (Between None None) i g v stops stops')
    (same_room : stops'.room ≡ stops.room) (agreed : IsAgreed (ends_in stops))
    (nowhere : next_stop (after_start s t).routes (s.last + 1) ≡ None)
    (as_before : (u : ℕ) → u ≢ s.last + 1
    → next_stop (after_start s t).routes u ≡ next_stop s.routes u) where
  abbrev own : Route
  own = linear (record { ticket = s.last + 1; place = Some t } ∷ [])

  abbrev now : State
  now = record s { last = s.last + 1; routes = s.routes ++ own ∷ [] }

  next : v.ticket ≡ s.last + 1
  next = ticket ∙ ap (λ n. n + 1) (sym b.last_is)

  stop_is : state_stop (found_in places stops marks) v
      ≡ record { ticket = s.last + 1; place = Some t }
  stop_is = let named = found_has (λ (x : Place). x.ticket) t s.places p (held_place s t p held) in
      rw (next, to, found, named) refl

  no_more : stop_of s.routes (s.last + 1) ≡ None
  no_more = no_stop_yet s (found_in places stops marks) (in_order places)
      (ends_in stops) (ends_in stops') book b.held v i g (values_in stops') vacant
      put.values next
      put.generation live (s.routes ++ own ∷ []) (s.last + 1) refl
    where
      vacant : values_in stops i ≡ None
      vacant = ap (option_map valued) put.vacant

      live : IfSome v.place (λ q. IsSome (value_if q.1 (entry_in places q.0)))
      live = subst (λ r. IfSome r (λ q. IsSome (value_if q.1 (entry_in places q.0)))) (sym to)
          (subst IsSome (sym found) refl)

  pub start_kept : IsBook rooms (last + 1) (after_start s t) places stops' marks
      (book ++ entry v.ticket OfStop i g ∷ [])
  start_kept = subst (λ z. IsBook rooms (last + 1) z places stops' marks
      (book ++ entry v.ticket OfStop i g ∷ [])) (sym (started_new s t p held free).1) (record {
        held = subst (λ c. IsHeld now
            (record {
              places = entry_in places;
              stops = values_in stops';
              marks = entry_at marks;
              place_counter = places.chains.counter;
              stop_counter = c;
            })
            (in_order places) (ends_in stops')
            (book ++ entry v.ticket OfStop i g ∷ []))
            (sym put.counter)
            (stop_added s (found_in places stops marks) (in_order places)
            (ends_in stops)
            (ends_in stops') book b.held v i g (values_in stops') vacant put.values
            next put.generation live (s.routes ++ own ∷ []) others first
            lead);
        places_rise = b.places_rise;
        within = record {
          rooms_are = b.within.rooms_are;
          place_count = b.within.place_count;
          stop_count = (let n = b.within.stop_count in let l = put.live in let m =
              ap length (stop_list-append s.routes own)
              ∙ length-append (stop_list s.routes) own.stops in omega (arith, n, l, m));
          mark_count = b.within.mark_count;
          places_fit = b.within.places_fit;
          stops_fit = (let l = put.live in let n = b.within.stop_count in let r =
              ap (λ (r : Rooms). r.stops) b.within.rooms_are in let less = stops_not_full s free in
              omega (arith, less, l, n, r));
          marks_fit = b.within.marks_fit;
          place_room = b.within.place_room;
          stop_room = subst (λ r. rooms.stops ≤ capacity r) (sym same_room) b.within.stop_room;
          mark_room = b.within.mark_room;
        };
        last_is = ap (λ n. n + 1) b.last_is;
        entries = (let a = length-append book (entry v.ticket OfStop i g ∷ []) in let n =
            b.entries in
            let l = put.live in omega (arith, a, n, l));
        marks_differ = b.marks_differ;
      })
    where
      vacant : values_in stops i ≡ None
      vacant = ap (option_map valued) put.vacant

      absent : ends_in stops i ≡ None
      absent = ap (option_map entry_ends) put.vacant

      live : IfSome v.place (λ q. IsSome (value_if q.1 (entry_in places q.0)))
      live = subst (λ r. IfSome r (λ q. IsSome (value_if q.1 (entry_in places q.0)))) (sym to)
          (subst IsSome (sym found) refl)

      routes_are : (after_start s t).routes ≡ s.routes ++ own ∷ []
      routes_are = ap (λ (z : State). z.routes) (started_new s t p held free).1

      lead : LeadAs (λ (x : StopView). x.ticket) (values_in stops') (ends_in stops')
          (next_stop (s.routes ++ own ∷ []))
      lead =
          lead_started (λ (x : StopView). x.ticket) (values_in stops) (ends_in stops)
          (ends_in stops') (next_stop s.routes) (next_stop (s.routes ++ own ∷ []))
          b.held.routes
          (values_in stops') i g v agreed (live_ends stops) absent
          (unknown s (found_in places stops marks) (in_order places)
          (ends_in stops) book b.held v next) put.values
          (ap (next_stop (s.routes ++ own ∷ [])) next
          ∙ sym (ap (λ rs. next_stop rs (s.last + 1)) routes_are) ∙ nowhere)
          (λ u other. sym (ap (λ rs. next_stop rs u) routes_are)
          ∙ as_before u (λ is. other (is ∙ sym next))) put.ends

      in_list : (u : ℕ) → stop_of (s.routes ++ own ∷ []) u
          ≡ option_or (stop_of s.routes u) (find (λ (x : Stop). x.ticket == u) own.stops)
      in_list u = ap (find (λ (x : Stop). x.ticket == u)) (stop_list-append s.routes own)
          ∙ find-append (λ (x : Stop). x.ticket == u) (stop_list s.routes) own.stops

      others : (u : ℕ) → u ≢ s.last + 1 → stop_of (s.routes ++ own ∷ []) u ≡ stop_of s.routes u
      others u other =
          let mine : find (λ (x : Stop). x.ticket == u) own.stops ≡ None =
          rw (ne_eqb (s.last + 1) u (λ is. other (sym is))) refl in
          in_list u ∙ ap (option_or (stop_of s.routes u)) mine ∙ none_behind (stop_of s.routes u)

      first : (u : ℕ) → u ≡ s.last + 1
          → stop_of (s.routes ++ own ∷ []) u ≡ Some (state_stop (found_in places stops marks) v)
      first u is =
          let mine : find (λ (x : Stop). x.ticket == u) own.stops
          ≡ Some (record { ticket = s.last + 1; place = Some t }) =
          rw (eq-eqb (s.last + 1) u (sym is)) refl in
          in_list u ∙ ap (λ o. option_or o (find (λ (x : Stop). x.ticket == u) own.stops))
          (ap (stop_of s.routes) is ∙ no_more) ∙ mine ∙ ap Some (sym stop_is)

-- each item keeps its pointer where a stop is added
pub kept_stop : (s s' : State) (places : Ordered Place)
    (stops stops' : Content (IndexLink StopView)) (marks : Content MarkView) (v : StopView)
    (i g : ℕ)
    → ((k : ℕ) → values_in stops' k ≡ with_entry (values_in stops) i (g, v) k)
    → values_in stops i ≡ None → g ≡ stops.counter → stops'.counter ≡ stops.counter
    → stops'.room ≡ stops.room
    → KeepsItems (record { state = s; places = places; stops = stops; marks = marks })
    (record { state = s'; places = places; stops = stops'; marks = marks })
kept_stop s s' places stops stops' marks v i g entries vacant own counter room = record {
  places = λ j n p is. (p, (is, (refl, refl)));
  stops = each_stays stops.counter (values_in stops) (values_in stops') i g v entries vacant;
  marks = λ j n m is. is;
  new_places = none_new _ _ _ (λ k. refl);
  new_stops = one_new stops.counter (values_in stops) (values_in stops') i g v entries own;
  new_marks = none_new _ _ _ (λ k. refl);
  place_counter = refl;
  stop_counter = counter;
  mark_counter = refl;
  rooms = record { places = refl; stops = room; marks = refl };
}

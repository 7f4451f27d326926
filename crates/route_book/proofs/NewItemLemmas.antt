-- What `start` and `mark` make of the store that their callers see.
use Rattle.std.proofs.Common.{◌≡◌, ◌≢◌, ◌∙◌, sym, ap, subst, refl, false, ℕ, ◌+◌, List, []}
use Rattle.std.proofs.Common.{◌∷◌, ◌++◌, Some, None, IsSome, IfSome, Ok}
use Rattle.std.specs.Option.{option_map}
use Rattle.triple_arena.specs.Entries.{value_if, with_entry}
use Rattle.triple_arena.specs.Content.{Content, entry_at, live_count}
use Rattle.linked_lists.specs.LinkedLists.{IsAgreed}
use Rattle.triple_arena_chain.specs.LinkShape.{IndexLink}
use Rattle.triple_arena_chain.specs.declared.gap.Gap.TheVariants.{Between}
use Rattle.triple_arena_chain.specs.Links.{ends_in, values_in, valued, IsChained, IsLinkInserted}
use Rattle.triple_arena_ord.specs.Ordered.{Ordered, entry_in}
use Rattle.ticket_book.specs.declared.entry.Kind.TheVariants.{Stop as OfStop, Mark as OfMark}
use Rattle.ticket_book.specs.Tickets.{Entry}
use Rattle.route_lines.specs.Calls.{place_holder, stop_holder, started, after_start, after_mark}
use Rattle.route_lines.specs.Routes.{next_stop}
use Rattle.route_lines.specs.State.{State, Rooms, Place, is_full_of_stops, is_full_of_marks}
use Rattle.route_book.specs.Item.{StopView, MarkView}
use Rattle.route_book.specs.Holds.{entry, state_mark, state_stop}
use Rattle.route_book.specs.Book.{Book, found_in, found_of, IsBook, KeepsItems}
use Rattle.route_book.proofs.LinkLemmas.{held_ticket}
use Rattle.route_book.proofs.MarkLemmas.{kept_mark, mark_made}
use Rattle.route_book.proofs.NeighborLemmas.{held_place}
use Rattle.route_book.proofs.StartLemmas.{kept_stop, start_kept, started_new}
use Rattle.route_book.proofs.OptionLemmas.{found_has}

module _ (rooms : Rooms) (last : ℕ) (s : State)
    (places : Ordered Place) (stops : Content (IndexLink StopView)) (marks : Content MarkView)
    (book : List Entry) (b : IsBook rooms last s places stops marks book) (k : Book)
    (view : record { state = s; places = places; stops = stops; marks = marks } ≡ k)
    (pt pi pg : ℕ) (at : (p : Place) × (value_if pg (entry_in k.places pi) ≡ Some p)
    × (place_holder k.state pt ≡ Ok p)) where
  abbrev place : (p : Place) × (value_if pg (entry_in places pi) ≡ Some p)
      × (place_holder s pt ≡ Ok p)
  place = subst (λ (x : Book). (p : Place) × (value_if pg (entry_in x.places pi) ≡ Some p)
      × (place_holder x.state pt ≡ Ok p)) (sym view) at

  -- ---- start

  module _ (free : false ≡ is_full_of_stops k.state) where
    abbrev room : is_full_of_stops s ≡ false
    room = ap (λ (x : Book). is_full_of_stops x.state) view ∙ sym free

    module _ (chained : IsChained k.stops) (w : StopView) (n h : ℕ)
        (ticket : w.ticket ≡ last + 1) (to : w.place ≡ Some (pi, pg))
        (stops' : Content (IndexLink StopView))
        (put : IsLinkInserted (Between None None) n h w stops stops')
        (same_room : stops'.room ≡ stops.room) where
      abbrev agreed : IsAgreed (ends_in stops)
      agreed = (subst (λ (x : Book). IsChained x.stops) (sym view) chained).agreed

      answer : started s pt ≡ Ok (s.last + 1)
      answer = (started_new s pt place.0 place.2 room).0

      pub start_leaves : (z : State) (book' : List Entry) → z ≡ after_start s pt
          → book' ≡ book ++ entry (last + 1) OfStop n h ∷ []
          → ((m : ℕ) → started s pt ≡ Ok m → next_stop (after_start s pt).routes m ≡ None)
          → ((m x : ℕ) → started s pt ≡ Ok m → x ≢ m
          → next_stop (after_start s pt).routes x ≡ next_stop s.routes x)
          → IsBook rooms (last + 1) z places stops' marks book'
      start_leaves z book' is more nowhere others =
          subst (λ l. IsBook rooms (last + 1) z places stops' marks l)
          (ap (λ m. book ++ entry m OfStop n h ∷ []) ticket ∙ sym more)
          (subst (λ x. IsBook rooms (last + 1) x places stops' marks
          (book ++ entry w.ticket OfStop n h ∷ [])) (sym is)
          (start_kept rooms last s places stops stops' marks book b pt place.0 place.2 room
          pi pg place.1 w n h ticket to put same_room agreed (nowhere (s.last + 1) answer)
          (λ x. others (s.last + 1) x answer)))

      pub start_keeps : (s' : State)
          → KeepsItems k (record { state = s'; places = places; stops = stops'; marks = marks })
      start_keeps s' =
          subst (λ x. KeepsItems x
          (record { state = s'; places = places; stops = stops'; marks = marks })) view
          (kept_stop s s' places stops stops' marks w n h put.values
          (ap (option_map valued) put.vacant) put.generation put.counter same_room)

  -- ---- mark

  module _ (st si sg : ℕ)
      (by : (v : StopView) × (value_if sg (values_in k.stops si) ≡ Some v)
      × (stop_holder k.state st ≡ Ok (state_stop (found_of k) v)))
      (free : false ≡ is_full_of_marks k.state) where
    abbrev stop : (v : StopView) × (value_if sg (values_in stops si) ≡ Some v)
        × (stop_holder s st ≡ Ok (state_stop (found_in places stops marks) v))
    stop = subst (λ (x : Book). (v : StopView) × (value_if sg (values_in x.stops si) ≡ Some v)
        × (stop_holder x.state st ≡ Ok (state_stop (found_of x) v))) (sym view) by

    abbrev mark_room : is_full_of_marks s ≡ false
    mark_room = ap (λ (x : Book). is_full_of_marks x.state) view ∙ sym free

    module _ (w : MarkView) (n h : ℕ) (ticket : w.ticket ≡ last + 1) (to : w.place ≡ Some (pi, pg))
        (of : w.stop ≡ Some (si, sg))
        (marks' : Content MarkView) (vacant : entry_at marks n ≡ None)
        (entries : (j : ℕ) → entry_at marks' j ≡ with_entry (entry_at marks) n (h, w) j) where
      named : state_mark (found_in places stops marks) w
          ≡ record { ticket = s.last + 1; place = Some pt; stop = Some st }
      named =
          let next : w.ticket ≡ s.last + 1 = ticket ∙ ap (λ m. m + 1) (sym b.last_is) in
          let at_place = place.1 in let at_stop = stop.1 in
          let one = found_has (λ (x : Place). x.ticket) pt s.places place.0
          (held_place s pt place.0 place.2) in
          let two : stop.0.ticket ≡ st =
          held_ticket s st (state_stop (found_in places stops marks) stop.0) stop.2 in
          rw (next, to, of, at_place, at_stop, one, two) refl

      pub mark_leaves : (z : State) (book' : List Entry) → z ≡ after_mark s pt st
          → book' ≡ book ++ entry (last + 1) OfMark n h ∷ []
          → live_count marks' ≡ live_count marks + 1
          → marks'.room ≡ marks.room
          → IsBook rooms (last + 1) z places stops marks' book'
      mark_leaves z book' is more live same_room =
          subst (λ l. IsBook rooms (last + 1) z places stops marks' l)
          (ap (λ m. book ++ entry m OfMark n h ∷ []) ticket ∙ sym more)
          (subst (λ x. IsBook rooms (last + 1) x places stops marks'
          (book ++ entry w.ticket OfMark n h ∷ [])) (sym is)
          (mark_made rooms last s places stops marks marks' book b pt st place.0
          (state_stop (found_in places stops marks) stop.0) place.2 stop.2 mark_room w n h
          ticket
          (subst (λ r. IfSome r (λ q. IsSome (value_if q.1 (entry_in places q.0)))) (sym to)
          (subst IsSome (sym place.1) refl))
          (subst (λ r. IfSome r (λ q. IsSome (value_if q.1 (values_in stops q.0)))) (sym of)
          (subst IsSome (sym stop.1) refl))
          named vacant entries live same_room))

      pub mark_keeps : (s' : State) → h ≡ marks.counter → marks'.counter ≡ marks.counter
          → marks'.room ≡ marks.room
          → KeepsItems k (record { state = s'; places = places; stops = stops; marks = marks' })
      mark_keeps s' own counter room =
          subst (λ x. KeepsItems x
          (record { state = s'; places = places; stops = stops; marks = marks' })) view
          (kept_mark s s' places stops marks marks' w n h vacant entries own counter room)

-- What a walk answers.
use Rattle.std.proofs.Common.{◌≡◌, ◌≢◌, ◌↔◌, ◌∙◌, sym, ap, subst, refl, false, ℕ, List, [], ◌∷◌}
use Rattle.std.proofs.Common.{◌++◌, map, reverse, Option, Some, None, IsSome, IfSome, Ok, ◌≤◌}
use Rattle.std.specs.List.{AllByRecursion}
use Rattle.std.specs.Option.{option_map}
use Rattle.triple_arena.specs.Entries.{value_if}
use Rattle.triple_arena.specs.Content.{Content, entry_at}
use Rattle.triple_arena_chain.specs.LinkShape.{IndexLink}
use Rattle.linked_lists.specs.LinkedLists.{IsAgreed, next_at, prev_at}
use Rattle.triple_arena_chain.specs.IterChains.{links_along}
use Rattle.triple_arena_chain.specs.Links.{ends_in, values_in}
use Rattle.triple_arena_chain.specs.Walks.{IsWalkFrom}
use Rattle.triple_arena_ord.specs.Ordered.{Ordered, entry_in}
use Rattle.ticket_book.specs.Tickets.{Entry}
use Rattle.route_lines.specs.Calls.{stop_holder, walked}
use Rattle.route_lines.specs.Cuts.{first_item}
use Rattle.route_lines.specs.Leads.{Leads, closes_at}
use Rattle.route_lines.specs.Routes.{has_ticket, next_stop, previous_stop, walk_from}
use Rattle.route_lines.specs.Sound.{count_of}
use Rattle.route_lines.specs.State.{State, Rooms, Place, Stop, stop_list, stop_of}
use Rattle.route_book.specs.Follows.{along, ticket_at, AreRoutes}
use Rattle.route_book.specs.Item.{StopView, MarkView}
use Rattle.route_book.specs.Holds.{state_stop}
use Rattle.route_book.specs.Book.{Book, found_in, found_of, in_order, IsBook}
use Rattle.route_book.specs.Walked.{stop_seen, stop_in}
use Rattle.route_book.proofs.ChainLemmas.{routes_are_chains}
use Rattle.route_book.proofs.HoldLemmas.{stop_listed}
use Rattle.route_book.proofs.LinkLemmas.{IsAt, is_at, distinct, held_ticket, live_ends, live_values}
use Rattle.route_book.proofs.LinkLemmas.{stop_index}
use Rattle.route_book.proofs.RelinkLemmas.{IsNamed, named_in, next_known}
use Rattle.route_book.proofs.StopWalkLemmas.{leads_back, stops_walked, ticket_by}
use Rattle.route_book.proofs.OptionLemmas.{found_has, some_same}

module _ (rooms : Rooms) (last : ℕ) (s : State)
    (places : Ordered Place) (stops : Content (IndexLink StopView)) (marks : Content MarkView)
    (book : List Entry) (b : IsBook rooms last s places stops marks book) where
  abbrev at_index : ℕ → Option Stop
  at_index = stop_in (found_in places stops marks)

  seen_along : (walk : List ℕ)
      → map (λ (e : ℕ × (ℕ × IndexLink StopView)). stop_seen (entry_in places) e.1.1.t)
      (links_along (entry_at stops) walk) ≡ along at_index walk
  seen_along [] = refl
  seen_along (i ∷ walk) = one (entry_at stops i) refl (seen_along walk)
    where
      one : (o : Option (ℕ × IndexLink StopView)) → entry_at stops i ≡ o
          → map (λ (e : ℕ × (ℕ × IndexLink StopView)). stop_seen (entry_in places) e.1.1.t)
          (links_along (entry_at stops) walk) ≡ along at_index walk
          → map (λ (e : ℕ × (ℕ × IndexLink StopView)). stop_seen (entry_in places) e.1.1.t)
          (links_along (entry_at stops) (i ∷ walk)) ≡ along at_index (i ∷ walk)
      one None none rest = rw none rest
      one (Some e) some rest = rw some (ap (λ l. stop_seen (entry_in places) e.1.t ∷ l) rest)

  -- a stop at an index is one of the arena's
  record IsStopAt (i : ℕ) (x : Stop) : Type 0 where
    generation : ℕ
    view : StopView
    here : values_in stops i ≡ Some (generation, view)
    is : state_stop (found_in places stops marks) view ≡ x

  stands : (i : ℕ) (x : Stop) → at_index i ≡ Some x → IsStopAt i x
  stands i x is = by (values_in stops i) refl is
    where
      by : (o : Option (ℕ × StopView)) → values_in stops i ≡ o
          → option_map (λ (e : ℕ × StopView). state_stop (found_in places stops marks) e.1) o
          ≡ Some x → IsStopAt i x
      by None none e = absurd (let never : ◌≡◌ {A = Option Stop} None (Some x) = e in cc)
      by (Some y) some e = record { generation = y.0; view = y.1; here = some; is = some_same e }

  same_ticket : (o : Option ℕ)
      → ticket_at (λ (v : StopView). v.ticket) (values_in stops) o ≡ ticket_by at_index o
  same_ticket None = refl
  same_ticket (Some j) = by (values_in stops j)
    where
      by : (o : Option (ℕ × StopView))
          → option_map (λ (e : ℕ × StopView). e.1.ticket) o ≡ option_map (λ (t : Stop). t.ticket)
          (option_map (λ (e : ℕ × StopView). state_stop (found_in places stops marks) e.1) o)
      by None = refl
      by (Some e) = refl

  live_in : (i : ℕ) → IsSome (ends_in stops i) → IsSome (at_index i)
  live_in i live = by (values_in stops i) (live_values stops i live)
    where
      by : (o : Option (ℕ × StopView)) → IsSome o
          → IsSome (option_map (λ (e : ℕ × StopView). state_stop (found_in places stops marks) e.1)
          o)
      by None some = some
      by (Some e) some = refl

  module _ (agreed : IsAgreed (ends_in stops))
      (both : (x y : ℕ) → (next_stop s.routes x ≡ Some y) ↔ (previous_stop s.routes y ≡ Some x))
    where
      lead : (i : ℕ) (x : Stop) → at_index i ≡ Some x
          → next_stop s.routes x.ticket ≡ ticket_by at_index (next_at (ends_in stops) i)
      lead i x is =
          let at = stands i x is in
          ap (λ (y : Stop). next_stop s.routes y.ticket) (sym at.is)
          ∙ b.held.routes i at.generation at.view at.here
          ∙ same_ticket (next_at (ends_in stops) i)

      back : (i : ℕ) (x : Stop) → at_index i ≡ Some x
          → previous_stop s.routes x.ticket ≡ ticket_by at_index (prev_at (ends_in stops) i)
      back i x is =
          let at = stands i x is in
          ap (λ (y : Stop). previous_stop s.routes y.ticket) (sym at.is)
          ∙ leads_back (λ (v : StopView). v.ticket) (values_in stops) (ends_in stops)
          (next_stop s.routes) (previous_stop s.routes) b.held.routes agreed
          (distinct s (found_in places stops marks) (in_order places) (ends_in stops)
          book b.held) (live_values stops) both known i at.generation at.view at.here
          ∙ same_ticket (prev_at (ends_in stops) i)
        where
          known : (u w : ℕ) → next_stop s.routes u ≡ Some w
              → (j : ℕ) × ((e : ℕ × StopView) × ((values_in stops j ≡ Some e) × (e.1.ticket ≡ u)))
          known u w leads =
              let y = next_known s.routes u w leads in
              let at = stop_index s (found_in places stops marks) (in_order places)
              (ends_in stops) book b.held u y.0 y.1 in (
                at.0,
                (
                  at.1.0,
                  (
                    at.1.1.0,
                    at.1.1.1 ∙ found_has (λ (x : Stop). x.ticket) u (stop_list s.routes) y.0 y.1,
                  ),
                ),
              )

      known_in : (i : ℕ) (x : Stop) → at_index i ≡ Some x → stop_of s.routes x.ticket ≡ Some x
      known_in i x is =
          let at = stands i x is in
          subst (λ (y : Stop). stop_of s.routes y.ticket ≡ Some y) at.is
          (stop_listed s (found_in places stops marks) (in_order places)
          (ends_in stops)
          book b.held i at.generation at.view at.here)

      apart_in : (i j : ℕ) (x y : Stop) → at_index i ≡ Some x → at_index j ≡ Some y
          → x.ticket ≡ y.ticket → i ≡ j
      apart_in i j x y is are same =
          let at = stands i x is in
          let on = stands j y are in
          distinct s (found_in places stops marks) (in_order places) (ends_in stops)
          book b.held i j at.generation on.generation at.view on.view at.here on.here
          (ap (λ (z : Stop). z.ticket) at.is ∙ same ∙ sym (ap (λ (z : Stop). z.ticket) on.is))

      -- the routes of the state are chains of the interlinks
      pub routes_chained : AllByRecursion (λ r. Leads (next_stop s.routes) (closes_at r) r.stops)
          s.routes
          → AllByRecursion (λ r. r.is_ring ≡ false
          → IfSome (first_item r.stops) (λ t. previous_stop s.routes t.ticket ≡ None)) s.routes
          → AllByRecursion (λ t. stop_of s.routes t.ticket ≡ Some t) (stop_list s.routes)
          → ((n : ℕ) → count_of (has_ticket n) (stop_list s.routes) ≤ 1)
          → AreRoutes at_index (ends_in stops) s.routes
      routes_chained leads first known once =
          routes_are_chains at_index (ends_in stops) (next_stop s.routes)
          (previous_stop s.routes) (λ t. stop_of s.routes t.ticket ≡ Some t) agreed live_in
          alive_in lead back apart_in index
          s.routes leads first known once
        where
          alive_in : (i : ℕ) → IsSome (at_index i) → IsSome (ends_in stops i)
          alive_in i some = live_ends stops i (by (values_in stops i) some)
            where
              by : (o : Option (ℕ × StopView))
                  → IsSome (option_map (λ (e : ℕ × StopView). state_stop
                  (found_in places stops marks)
                  e.1) o) → IsSome o
              by None none = none
              by (Some e) there = refl

          index : (t : Stop) → stop_of s.routes t.ticket ≡ Some t → (i : ℕ) × (at_index i ≡ Some t)
          index t known_as =
              let at = stop_index s (found_in places stops marks) (in_order places)
              (ends_in stops) book b.held t.ticket t known_as in
              let here : at_index at.0 ≡ Some (state_stop (found_in places stops marks) at.1.0.1) =
              ap (option_map (λ (e : ℕ × StopView). state_stop (found_in places stops marks) e.1))
              at.1.1.0 in
              let own = known_in at.0 (state_stop (found_in places stops marks) at.1.0.1) here in
              (at.0, here ∙ sym own ∙ ap (stop_of s.routes) at.1.1.1 ∙ known_as)

      module _ (ways : (front behind : List Stop) (t : Stop)
          → AllByRecursion (λ x. stop_of s.routes x.ticket ≡ Some x) (front ++ t ∷ behind)
          → Leads (next_stop s.routes) None (front ++ t ∷ behind)
          → ((u : ℕ) (x : Stop) (rest : List Stop) → front ++ t ∷ behind ≡ x ∷ rest
          → next_stop s.routes u ≢ Some x.ticket)
          → walk_from t.ticket s.routes ≡ (t ∷ behind) ++ reverse front)
          (rounds : (t : Stop) (behind : List Stop)
          → AllByRecursion (λ x. stop_of s.routes x.ticket ≡ Some x) (t ∷ behind)
          → Leads (next_stop s.routes) (Some t.ticket) (t ∷ behind)
          → count_of (has_ticket t.ticket) behind ≡ 0
          → walk_from t.ticket s.routes ≡ t ∷ behind)
          (k : Book) (view : record { state = s; places = places; stops = stops; marks = marks }
          ≡ k) (t i g : ℕ)
          (from : (v : StopView) × (value_if g (values_in k.stops i) ≡ Some v)
          × (stop_holder k.state t ≡ Ok (state_stop (found_of k) v))) where
        abbrev own : (v : StopView) × IsNamed rooms last s places stops marks book b t i g v
        own = named_in rooms last s places stops marks book b k view t i g from

        own_at : IsAt stops i g own.0
        own_at = is_at stops i g own.0 own.1.found

        pub walked_along : (it : List (ℕ × (ℕ × IndexLink StopView)))
            → (walk : List ℕ) × IsWalkFrom (ends_in stops) i walk
            × (it ≡ links_along (entry_at stops) walk)
            → Ok (map (λ (e : ℕ × (ℕ × IndexLink StopView)). stop_seen (entry_in places) e.1.1.t)
            it) ≡ walked k.state t
        walked_along it walk =
            ap Ok (ap (map (λ (e : ℕ × (ℕ × IndexLink StopView)). stop_seen (entry_in places)
            e.1.1.t)) walk.2 ∙ seen_along walk.0 ∙ sym whole)
            ∙ sym answer ∙ ap (λ (x : Book). walked x.state t) view
          where
            first : Stop
            first = state_stop (found_in places stops marks) own.0

            here : at_index i ≡ Some first
            here = ap (option_map
                (λ (e : ℕ × StopView). state_stop (found_in places stops marks) e.1)) own_at.here

            ticket : first.ticket ≡ t
            ticket = held_ticket s t first own.1.held

            answer : walked s t ≡ Ok (walk_from t s.routes)
            answer = let h = own.1.held in rw h refl

            whole : walk_from t s.routes ≡ along at_index walk.0
            whole =
                ap (λ n. walk_from n s.routes) (sym ticket)
                ∙ stops_walked at_index (ends_in stops) (next_stop s.routes)
                (previous_stop s.routes) s.routes live_in lead back (λ x y. (both x y).0) known_in
                apart_in ways rounds i first
                walk.0 here walk.1

-- What the removal of a stop leaves of what is held, and of what ties a store's parts.
use Rattle.std.proofs.Common.{◌≡◌, ◌≢◌, ◌∙◌, sym, ap, subst, refl, false, ◌==◌, if◌then◌else◌, ℕ}
use Rattle.std.proofs.Common.{◌+◌, ◌≤◌, List, length, Option, Some, None, IsSome, is_some}
use Rattle.std.proofs.Common.{true≢false, arith, inl, inr}
use Rattle.std.specs.Option.{option_map}
use Rattle.std.proofs.lemmas.Bool.{ne_eqb, eq-eqb}
use Rattle.std.proofs.lemmas.Bool.Decides.{eqb_tells}
use Rattle.triple_arena_ptr.specs.Generation.{next_wraps}
use Rattle.triple_arena_stack.specs.Room.{capacity}
use Rattle.triple_arena.specs.Content.{Content}
use Rattle.triple_arena.specs.Entries.{value_if, without}
use Rattle.triple_arena_chain.specs.LinkShape.{IndexLink}
use Rattle.linked_lists.specs.LinkedLists.{Ends, IsAgreed, next_at, prev_at, next_in, prev_in}
use Rattle.linked_lists.specs.LinkedLists.{renext, with_next, with_next_if, bridged, taken_from}
use Rattle.linked_lists.specs.LinkedLists.{taken_out}
use Rattle.triple_arena_chain.specs.Links.{ends_in, values_in, IsChained, IsTakenOut}
use Rattle.triple_arena_ord.specs.Ordered.{Ordered}
use Rattle.ticket_book.specs.declared.entry.Kind.{Kind}
use Rattle.ticket_book.specs.declared.entry.Kind.TheVariants.{Place as OfPlace, Stop as OfStop}
use Rattle.ticket_book.specs.declared.entry.Kind.TheVariants.{Mark as OfMark}
use Rattle.ticket_book.specs.Tickets.{Entry, without_ticket}
use Rattle.route_lines.specs.Calls.{clear_mark_stop, unless_is, without_stop}
use Rattle.route_lines.specs.Routes.{next_stop, past}
use Rattle.route_lines.specs.Sound.{IsSound}
use Rattle.route_lines.specs.State.{State, Rooms, Place, Stop, place_of, stop_of, mark_of}
use Rattle.route_lines.specs.State.{stop_list}
use Rattle.route_book.specs.Book.{found_in, in_order, IsBook}
use Rattle.route_book.specs.Follows.{ticket_at, LeadAs}
use Rattle.route_book.specs.Item.{StopView, MarkView}
use Rattle.route_book.specs.Holds.{Found, found_by, state_stop, state_mark, stop_under, stop_at}
use Rattle.route_book.specs.Holds.{HasItem, IsSettled, IsHeld}
use Rattle.route_book.proofs.FollowLemmas.{next_with_prev}
use Rattle.route_book.proofs.LinkLemmas.{live_ends}
use Rattle.route_book.proofs.SettledLemmas.{settled_left, up_to_left}
use Rattle.route_book.proofs.EndLemmas.{IsKept, Shrinks, shrinks, own, there, unnamed, was_other}
use Rattle.route_book.proofs.EndLemmas.{others_stay, each_mapped, length_without}
use Rattle.route_book.proofs.OrderLemmas.{differ_of_rise, one_up}
use Rattle.route_book.proofs.OptionLemmas.{found_has, some_same, stands_at}

-- ---- what follows once an index is taken out

-- it is passed over
abbrev over : ℕ → Option ℕ → Option ℕ → Option ℕ
over p after None = None
over p after (Some n) = if n == p then after else Some n

module _ (ends : ℕ → Option Ends) (agreed : IsAgreed ends) (p : ℕ) where
  next_bridged : (before after : Option ℕ) (i : ℕ)
      → next_at (bridged ends before after) i ≡ next_at (with_next_if ends before after) i
  next_bridged before None i = refl
  next_bridged before (Some n) i = next_with_prev (with_next_if ends before (Some n)) n before i

  next_joined : (before after : Option ℕ) (i : ℕ) → IsSome (ends i) → before ≡ prev_at ends p
      → next_at (with_next_if ends before after) i ≡ over p after (next_at ends i)
  next_joined None after i some is = by (next_at ends i) refl
    where
      by : (o : Option ℕ) → next_at ends i ≡ o → o ≡ over p after o
      by None at = refl
      by (Some n) at = elim (eqb_tells n p) [
        | inl same ↦
            let back : prev_at ends p ≡ Some i = ap (prev_at ends) (sym same.1)
            ∙ agreed.forward i n at in
            absurd (let no : ◌≡◌ {A = Option ℕ} None (Some i) = is ∙ back in cc)
        | inr other ↦ rw other.0 refl
      ]
  next_joined (Some k) after i some is = elim (eqb_tells i k) [
    | inl same ↦
        let forth : next_at ends i ≡ Some p = ap (next_at ends) same.1
        ∙ agreed.backward k p (sym is) in
        let new : next_at (with_next ends k after) i ≡ after = rw same.0 (set (ends i) some) in
        new ∙ sym (ap (over p after) forth ∙ rw (eq-eqb p p refl) refl)
    | inr other ↦
        let old : next_at (with_next ends k after) i ≡ next_at ends i = rw other.0 refl in
        old ∙ by other.1 (next_at ends i) refl
  ]
    where
      set : (o : Option Ends) → IsSome o → next_in (renext after o) ≡ after
      set None some = absurd (true≢false (sym some))
      set (Some e) some = refl

      by : i ≢ k → (o : Option ℕ) → next_at ends i ≡ o → o ≡ over p after o
      by apart None at = refl
      by apart (Some n) at = elim (eqb_tells n p) [
        | inl same ↦
            let back : prev_at ends p ≡ Some i = ap (prev_at ends) (sym same.1)
            ∙ agreed.forward i n at in
            absurd (apart (some_same (sym back ∙ sym is)))
        | inr other ↦ rw other.0 refl
      ]

  pub next_taken : (i : ℕ) → i ≢ p → IsSome (ends i)
      → next_at (taken_out ends p) i ≡ over p (next_at ends p) (next_at ends i)
  next_taken i other some = by (ends p) refl
    where
      by : (o : Option Ends) → ends p ≡ o
          → next_at (taken_from ends p o) i ≡ over p (next_in o) (next_at ends i)
      by None is = away (next_at ends i) refl
        where
          away : (o : Option ℕ) → next_at ends i ≡ o → o ≡ over p None o
          away None at = refl
          away (Some n) at = elim (eqb_tells n p) [
            | inl same ↦
                let back : prev_at ends p ≡ Some i = ap (prev_at ends) (sym same.1)
                ∙ agreed.forward i n at in
                absurd (let no : ◌≡◌ {A = Option ℕ} None (Some i) = sym (ap prev_in is)
                ∙ back in cc)
            | inr apart ↦ rw apart.0 refl
          ]
      by (Some own) is =
          rw (ne_eqb i p other)
          (next_bridged own.0 own.1 i ∙ next_joined own.0 own.1 i some (sym (ap prev_in is)))

  -- what follows an index that is not itself what follows it is not that index, where another one
  -- leads to it
  pub no_loop : (i : ℕ) → i ≢ p → next_at ends i ≡ Some p → next_at ends p ≡ Some p → ⊥
  no_loop i other to own = other (some_same (sym (agreed.forward i p to) ∙ agreed.forward p p own))

-- ---- what is held

-- the stop at an index ends, and its arena's counter goes one up; places and marks are as they were
module _ (s s' : State) (f : Found) (order : List Place) (ends ends' : ℕ → Option Ends)
    (book : List Entry) (h : IsHeld s f order ends book)
    (i g : ℕ) (v : StopView) (stood : f.stops i ≡ Some (g, v)) (at : ℕ → Option (ℕ × StopView))
    (entries : (k : ℕ) → at k ≡ without f.stops i k)
    (counter : ℕ) (steps : counter ≡ f.stop_counter + 1) where
  abbrev pub stop_left : Found
  stop_left = record f { stops = at; stop_counter = counter }

  abbrev now : Found
  now = stop_left

  abbrev t : ℕ
  t = v.ticket

  abbrev τ : StopView → ℕ
  τ w = w.ticket

  settled : (r : Option (ℕ × ℕ)) → IsSettled f.stops f.stop_counter r → IsSettled at counter r
  settled = settled_left f.stops at i g f.stop_counter counter v stood entries steps h.stops_up_to

  forgot : (r : Option (ℕ × ℕ))
      → option_map τ (found_by at r) ≡ unless_is t (option_map τ (found_by f.stops r))
  forgot = unnamed τ OfStop f.stops at i g v stood entries book h.stops_in

  mark_now : (w : MarkView) → state_mark now w ≡ clear_mark_stop t (state_mark f w)
  mark_now w = ap (λ r. record {
    ticket = w.ticket;
    place = option_map (λ (q : Place). q.ticket) (found_by f.places w.place);
    stop = r;
  }) (forgot w.stop)

  kept : (k : Kind) (j n : ℕ) → HasItem f k j n → (k ≡ OfStop → at j ≡ f.stops j)
      → IsKept f now (λ o. o) (option_map (clear_mark_stop t)) k j n
  kept OfPlace j n filled same = record { place = refl; stop = refl; mark = refl; filled = filled }
  kept OfStop j n filled same =
      let found = ap (value_if n) (same refl) in
      record {
        place = refl;
        stop = ap (option_map (state_stop f)) found;
        mark = refl;
        filled = subst IsSome (sym found) filled;
      }
  kept OfMark j n filled same = record {
    place = refl;
    stop = refl;
    mark = each_mapped (clear_mark_stop t) (state_mark now) (state_mark f) mark_now
        (value_if n (f.marks j));
    filled = filled;
  }

  shrunk : Shrinks τ OfStop s f now book (without_ticket t book) f.stops at i g t (λ o. o)
      (option_map (clear_mark_stop t))
  shrunk = shrinks StopView τ OfStop s f now order ends book h f.stops at i g v stood entries
      h.stops_in (λ j n is. is)
      (λ u e w is kind found. found_has (λ (x : Stop). x.ticket) u (stop_list s.routes)
      (state_stop f w) (h.stops u ∙ ap (stop_at f) is
      ∙ ap (λ k. stop_under f k e.index e.generation) kind ∙ ap (option_map (state_stop f)) found))
      (λ o. o) (option_map (clear_mark_stop t)) refl refl kept

  module _ (agreed : IsAgreed ends) (live : (k : ℕ) → IsSome (f.stops k) → IsSome (ends k))
      (ends_are : (k : ℕ) → ends' k ≡ taken_out ends i k)
      (next_is : (u : ℕ) → u ≢ t
      → next_stop s'.routes u ≡ past t (next_stop s.routes t) (next_stop s.routes u)) where
    -- the ticket at an index that is not the one that ended is as before
    same_at : (o : Option ℕ) → o ≢ Some i → ticket_at τ at o ≡ ticket_at τ f.stops o
    same_at None other = refl
    same_at (Some k) other =
        ap (option_map (λ (x : ℕ × StopView). x.1.ticket))
        (there τ OfStop f.stops at i g v stood entries book h.stops_in k
        (λ same. other (ap Some same)))

    lead_left : LeadAs τ at ends' (next_stop s'.routes)
    lead_left j k w is =
        let was = was_other τ OfStop f.stops at i g v stood entries book h.stops_in j k w is in
        let apart : j ≢ i = λ same. (was.1
        (ap (λ (x : ℕ × StopView). x.1.ticket)
        (some_same (sym was.0 ∙ ap f.stops same ∙ stood)))) in
        next_is w.ticket was.1
        ∙ ap (past t (next_stop s.routes t)) (h.routes j k w was.0)
        ∙ ap (λ o. past t o (ticket_at τ f.stops (next_at ends j))) (h.routes i g v stood)
        ∙ by apart (next_at ends j) refl
        ∙ sym (ap (ticket_at τ at)
        (ap next_in (ends_are j)
        ∙ next_taken ends agreed i j apart (live j (ap is_some was.0))))
      where
        by : j ≢ i → (o : Option ℕ) → next_at ends j ≡ o
            → past t (ticket_at τ f.stops (next_at ends i)) (ticket_at τ f.stops o)
            ≡ ticket_at τ at (over i (next_at ends i) o)
        by apart None to = refl
        by apart (Some n) to = elim (eqb_tells n i) [
          | inl same ↦
              let name : ticket_at τ f.stops (Some n) ≡ Some t =
              ap (λ k. option_map (λ (x : ℕ × StopView). x.1.ticket) (f.stops k)) same.1
              ∙ ap (option_map (λ (x : ℕ × StopView). x.1.ticket)) stood in
              let old : past t (ticket_at τ f.stops (next_at ends i)) (Some t)
              ≡ ticket_at τ f.stops (next_at ends i) = rw (eq-eqb t t refl) refl in
              let new : ticket_at τ at (over i (next_at ends i) (Some n))
              ≡ ticket_at τ at (next_at ends i) = rw same.0 refl in
              ap (past t (ticket_at τ f.stops (next_at ends i))) name ∙ old
              ∙ sym (same_at (next_at ends i)
              (λ own. no_loop ends agreed i j apart (to ∙ ap Some same.1) own)) ∙ sym new
          | inr other ↦
              let new : ticket_at τ at (over i (next_at ends i) (Some n))
              ≡ ticket_at τ at (Some n) = rw other.0 refl in
              by_stop other.1 (f.stops n) refl
              ∙ sym (same_at (Some n) (λ same. other.1 (some_same same))) ∙ sym new
        ]
          where
            by_stop : n ≢ i → (o : Option (ℕ × StopView)) → f.stops n ≡ o
                → past t (ticket_at τ f.stops (next_at ends i))
                (option_map (λ (x : ℕ × StopView). x.1.ticket) (f.stops n))
                ≡ option_map (λ (x : ℕ × StopView). x.1.ticket) (f.stops n)
            by_stop other None is = rw is refl
            by_stop other (Some x) is =
                let apart : x.1.ticket ≢ t = λ same. other
                (own τ OfStop f.stops at i g v stood entries book h.stops_in n x.0 x.1 is same) in
                rw (is, ne_eqb x.1.ticket t apart) refl

    pub stop_ended : s'.last ≡ s.last → s'.places ≡ s.places
        → ((u : ℕ) → stop_of s'.routes u ≡ (if u == t then None else stop_of s.routes u))
        → ((u : ℕ) → mark_of s'.marks u ≡ option_map (clear_mark_stop t) (mark_of s.marks u))
        → IsHeld s' now order ends' (without_ticket t book)
    stop_ended last_same places stops marks = record {
      rise = shrunk.rise s'.last last_same;
      filled = shrunk.filled;
      places_in = λ j k q is. shrunk.others OfPlace (λ same. absurd cc) q.ticket j k
          (h.places_in j k q is);
      stops_in = shrunk.items;
      marks_in = λ j k w is. shrunk.others OfMark (λ same. absurd cc) w.ticket j k
          (h.marks_in j k w is);
      stop_place = λ j k w is. h.stop_place j k w (shrunk.stood j k w is);
      mark_place = h.mark_place;
      mark_stop = λ j k w is. settled w.stop (h.mark_stop j k w is);
      places_up_to = h.places_up_to;
      stops_up_to = up_to_left f.stops at i g f.stop_counter counter v stood entries steps
          h.stops_up_to;
      places = shrunk.places_kept refl (place_of s'.places) (λ u. ap (λ ps. place_of ps u) places);
      stops = shrunk.stops (stop_of s'.routes) stops;
      marks = shrunk.marks_kept refl (mark_of s'.marks) marks;
      in_order = places ∙ h.in_order;
      routes = lead_left;
    }

-- ---- what ties a store's parts

-- what the model tells of the removal of a stop
pub record IsStopGone (s s' : State) (t : ℕ) : Type 0 where
  pub is : s' ≡ without_stop s t
  pub stops : (u : ℕ) → stop_of s'.routes u ≡ (if u == t then None else stop_of s.routes u)
  pub marks : (u : ℕ) → mark_of s'.marks u ≡ option_map (clear_mark_stop t) (mark_of s.marks u)
  pub next : (u : ℕ) → u ≢ t
      → next_stop s'.routes u ≡ past t (next_stop s.routes t) (next_stop s.routes u)
  pub stop_count : length (stop_list s'.routes) + 1 ≡ length (stop_list s.routes)
  pub mark_count : length s'.marks ≡ length s.marks

module _ (rooms : Rooms) (last : ℕ) (s : State)
    (places : Ordered Place) (stops stops' : Content (IndexLink StopView))
    (marks : Content MarkView)
    (book : List Entry) (b : IsBook rooms last s places stops marks book)
    (i g : ℕ) (v : StopView) (found : value_if g (values_in stops i) ≡ Some v)
    (chained : IsChained stops)
    (final : Option ℕ) (top : ℕ) (counts : final ≡ Some top)
    (calm : next_wraps final stops.counter ≡ false)
    (taken : IsTakenOut final i stops stops') where
  stood : values_in stops i ≡ Some (g, v)
  stood = stands_at (values_in stops) i g v found

  pub stop_steps : stops'.counter ≡ stops.counter + 1
  stop_steps = taken.counter ∙ one_up final stops.counter top counts calm

  -- the other stops keep their pointers
  pub stops_stay : (k h : ℕ) (w : StopView) → values_in stops k ≡ Some (h, w) → w.ticket ≢ v.ticket
      → values_in stops' k ≡ Some (h, w)
  stops_stay = others_stay (λ (w : StopView). w.ticket) OfStop (values_in stops)
      (values_in stops') i g v stood taken.values book b.held.stops_in

  module _ (s' : State) (laws : IsStopGone s s' v.ticket) (sound : IsSound s') where
    held : IsHeld s' (found_in places stops' marks) (in_order places) (ends_in stops')
        (without_ticket v.ticket book)
    held = stop_ended s s' (found_in places stops marks) (in_order places)
        (ends_in stops) (ends_in stops') book b.held
        i g v stood (values_in stops') taken.values stops'.counter stop_steps chained.agreed
        (live_ends stops) taken.ends laws.next
        (ap (λ (x : State). x.last) laws.is) (ap (λ (x : State). x.places) laws.is) laws.stops
        laws.marks

    pub stop_leaves : IsBook rooms last s' places stops' marks (without_ticket v.ticket book)
    stop_leaves = record {
      held = held;
      places_rise = sound.order;
      within = record {
        rooms_are = ap (λ (x : State). x.rooms) laws.is ∙ b.within.rooms_are;
        place_count = ap (λ (x : State). length x.places) laws.is ∙ b.within.place_count;
        stop_count = (let n = b.within.stop_count in let z = taken.live in let l =
            laws.stop_count in omega (arith, n, z, l));
        mark_count = laws.mark_count ∙ b.within.mark_count;
        places_fit = b.within.places_fit;
        stops_fit = (let n = b.within.stops_fit in let z = taken.live in omega (arith, n, z));
        marks_fit = b.within.marks_fit;
        place_room = b.within.place_room;
        stop_room = subst (λ r. rooms.stops ≤ capacity r) (sym taken.room) b.within.stop_room;
        mark_room = b.within.mark_room;
      };
      last_is = ap (λ (x : State). x.last) laws.is ∙ b.last_is;
      entries = (let n = b.entries in let z = taken.live in let l =
          length_without v.ticket book 0 s.last _ b.held.rise (b.held.stops_in i g v stood) in
          omega (arith, n, z, l));
      marks_differ = differ_of_rise s'.marks sound.marks;
    }

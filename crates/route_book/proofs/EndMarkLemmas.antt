-- What the removal of a mark leaves of what is held, and of what ties a store's parts. No reference
-- is to a mark.
use Rattle.std.proofs.Common.{◌≡◌, ◌≢◌, ◌∙◌, sym, ap, subst, refl, ◌==◌, if◌then◌else◌, ℕ, ◌+◌, ◌≤◌}
use Rattle.std.proofs.Common.{List, length, Option, Some, None, IsSome, arith}
use Rattle.std.specs.Option.{option_map}
use Rattle.triple_arena_stack.specs.Room.{capacity}
use Rattle.triple_arena.specs.Changes.{IsRemoved}
use Rattle.triple_arena.specs.Content.{Content, entry_at, live_count, some_counter}
use Rattle.triple_arena.specs.Entries.{value_if, without}
use Rattle.triple_arena_chain.specs.LinkShape.{IndexLink}
use Rattle.linked_lists.specs.LinkedLists.{Ends}
use Rattle.triple_arena_chain.specs.Links.{ends_in}
use Rattle.triple_arena_ord.specs.Ordered.{Ordered}
use Rattle.ticket_book.specs.declared.entry.Kind.{Kind}
use Rattle.ticket_book.specs.declared.entry.Kind.TheVariants.{Place as OfPlace, Stop as OfStop}
use Rattle.ticket_book.specs.declared.entry.Kind.TheVariants.{Mark as OfMark}
use Rattle.ticket_book.specs.Tickets.{Entry, without_ticket}
use Rattle.route_lines.specs.Calls.{without_mark}
use Rattle.route_lines.specs.Routes.{next_stop}
use Rattle.route_lines.specs.Sound.{IsSound}
use Rattle.route_lines.specs.State.{State, Rooms, Place, Mark, place_of, stop_of, mark_of}
use Rattle.route_lines.specs.State.{stop_list}
use Rattle.route_book.specs.Book.{found_in, in_order, IsBook}
use Rattle.route_book.specs.Item.{StopView, MarkView}
use Rattle.route_book.specs.Holds.{Found, state_mark, mark_under, mark_at, HasItem, IsHeld}
use Rattle.route_book.proofs.EndLemmas.{IsKept, Shrinks, shrinks, others_stay, length_without}
use Rattle.route_book.proofs.OrderLemmas.{differ_of_rise}
use Rattle.route_book.proofs.OptionLemmas.{found_has, stands_at}

-- ---- what is held

module _ (s s' : State) (f : Found) (order : List Place) (ends : ℕ → Option Ends)
    (book : List Entry) (h : IsHeld s f order ends book)
    (i g : ℕ) (v : MarkView) (stood : f.marks i ≡ Some (g, v)) (at : ℕ → Option (ℕ × MarkView))
    (entries : (k : ℕ) → at k ≡ without f.marks i k) where
  abbrev pub mark_left : Found
  mark_left = record f { marks = at }

  abbrev now : Found
  now = mark_left

  abbrev t : ℕ
  t = v.ticket

  abbrev τ : MarkView → ℕ
  τ w = w.ticket

  kept : (k : Kind) (j n : ℕ) → HasItem f k j n → (k ≡ OfMark → at j ≡ f.marks j)
      → IsKept f now (λ o. o) (λ o. o) k j n
  kept OfPlace j n filled same = record { place = refl; stop = refl; mark = refl; filled = filled }
  kept OfStop j n filled same = record { place = refl; stop = refl; mark = refl; filled = filled }
  kept OfMark j n filled same =
      let found = ap (value_if n) (same refl) in
      record {
        place = refl;
        stop = refl;
        mark = ap (option_map (state_mark f)) found;
        filled = subst IsSome (sym found) filled;
      }

  shrunk : Shrinks τ OfMark s f now book (without_ticket t book) f.marks at i g t (λ o. o) (λ o. o)
  shrunk = shrinks MarkView τ OfMark s f now order ends book h f.marks at i g v stood entries
      h.marks_in (λ j n is. is)
      (λ u e w is kind found. found_has (λ (x : Mark). x.ticket) u s.marks (state_mark f w)
      (h.marks u ∙ ap (mark_at f) is ∙ ap (λ k. mark_under f k e.index e.generation) kind
      ∙ ap (option_map (state_mark f)) found)) (λ o. o) (λ o. o) refl refl kept

  pub mark_ended : s'.last ≡ s.last → s'.places ≡ s.places → s'.routes ≡ s.routes
      → ((u : ℕ) → mark_of s'.marks u ≡ (if u == t then None else mark_of s.marks u))
      → IsHeld s' now order ends (without_ticket t book)
  mark_ended last_same places routes marks = record {
    rise = shrunk.rise s'.last last_same;
    filled = shrunk.filled;
    places_in = λ j k q is. shrunk.others OfPlace (λ same. absurd cc) q.ticket j k
        (h.places_in j k q is);
    stops_in = λ j k w is. shrunk.others OfStop (λ same. absurd cc) w.ticket j k
        (h.stops_in j k w is);
    marks_in = shrunk.items;
    stop_place = h.stop_place;
    mark_place = λ j k w is. h.mark_place j k w (shrunk.stood j k w is);
    mark_stop = λ j k w is. h.mark_stop j k w (shrunk.stood j k w is);
    places_up_to = h.places_up_to;
    stops_up_to = h.stops_up_to;
    places = shrunk.places_kept refl (place_of s'.places) (λ u. ap (λ ps. place_of ps u) places);
    stops = shrunk.stops_kept refl (stop_of s'.routes) (λ u. ap (λ rs. stop_of rs u) routes);
    marks = shrunk.marks (mark_of s'.marks) marks;
    in_order = places ∙ h.in_order;
    routes = λ j k w is. ap (λ rs. next_stop rs w.ticket) routes ∙ h.routes j k w is;
  }

-- ---- what ties a store's parts

-- what the model tells of the removal of a mark
pub record IsMarkGone (s s' : State) (t : ℕ) : Type 0 where
  pub is : s' ≡ without_mark s t
  pub marks : (u : ℕ) → mark_of s'.marks u ≡ (if u == t then None else mark_of s.marks u)
  pub mark_count : length s'.marks + 1 ≡ length s.marks

module _ (rooms : Rooms) (last : ℕ) (s : State)
    (places : Ordered Place) (stops : Content (IndexLink StopView))
    (marks marks' : Content MarkView)
    (book : List Entry) (b : IsBook rooms last s places stops marks book)
    (i g : ℕ) (v : MarkView) (found : value_if g (entry_at marks i) ≡ Some v)
    (final : Option ℕ) (removed : IsRemoved entry_at live_count some_counter
    (λ (c : Content MarkView). c.room) final i marks marks') where
  stood : entry_at marks i ≡ Some (g, v)
  stood = stands_at (entry_at marks) i g v found

  -- the other marks keep their pointers
  pub marks_stay : (k h : ℕ) (w : MarkView) → entry_at marks k ≡ Some (h, w) → w.ticket ≢ v.ticket
      → entry_at marks' k ≡ Some (h, w)
  marks_stay = others_stay (λ (w : MarkView). w.ticket) OfMark (entry_at marks) (entry_at marks')
      i g v stood removed.entries book b.held.marks_in

  module _ (s' : State) (laws : IsMarkGone s s' v.ticket) (sound : IsSound s') where
    held : IsHeld s' (found_in places stops marks') (in_order places) (ends_in stops)
        (without_ticket v.ticket book)
    held = mark_ended s s' (found_in places stops marks) (in_order places)
        (ends_in stops) book b.held i g v stood (entry_at marks') removed.entries
        (ap (λ (x : State). x.last) laws.is) (ap (λ (x : State). x.places) laws.is)
        (ap (λ (x : State). x.routes) laws.is) laws.marks

    pub mark_leaves : IsBook rooms last s' places stops marks' (without_ticket v.ticket book)
    mark_leaves = record {
      held = held;
      places_rise = sound.order;
      within = record {
        rooms_are = ap (λ (x : State). x.rooms) laws.is ∙ b.within.rooms_are;
        place_count = ap (λ (x : State). length x.places) laws.is ∙ b.within.place_count;
        stop_count = ap (λ (x : State). length (stop_list x.routes)) laws.is ∙ b.within.stop_count;
        mark_count = (let n = b.within.mark_count in let z = removed.live in let l =
            laws.mark_count in omega (arith, n, z, l));
        places_fit = b.within.places_fit;
        stops_fit = b.within.stops_fit;
        marks_fit = (let n = b.within.marks_fit in let z = removed.live in omega (arith, n, z));
        place_room = b.within.place_room;
        stop_room = b.within.stop_room;
        mark_room = subst (λ r. rooms.marks ≤ capacity r) (sym removed.room) b.within.mark_room;
      };
      last_is = ap (λ (x : State). x.last) laws.is ∙ b.last_is;
      entries = (let n = b.entries in let z = removed.live in let l =
          length_without v.ticket book 0 s.last _ b.held.rise (b.held.marks_in i g v stood) in
          omega (arith, n, z, l));
      marks_differ = differ_of_rise s'.marks sound.marks;
    }

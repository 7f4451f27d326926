-- What one stop more makes of what is held.
use Rattle.std.proofs.Common.{◌≡◌, ◌≢◌, ◌∙◌, sym, ap, subst, refl}
use Rattle.std.proofs.Common.{ℕ, ◌+◌, inl, List, [], ◌∷◌, ◌++◌, Option, Some, None}
use Rattle.std.proofs.Common.{IsSome}
use Rattle.std.specs.Option.{option_map}
use Rattle.triple_arena.specs.Entries.{value_if, with_entry}
use Rattle.linked_lists.specs.LinkedLists.{Ends}
use Rattle.ticket_book.specs.declared.entry.Kind.{Kind}
use Rattle.ticket_book.specs.declared.entry.Kind.TheVariants.{Place as OfPlace, Stop as OfStop}
use Rattle.ticket_book.specs.declared.entry.Kind.TheVariants.{Mark as OfMark}
use Rattle.ticket_book.specs.Tickets.{Entry}
use Rattle.route_book.specs.Item.{StopView}
use Rattle.route_lines.specs.Routes.{next_stop}
use Rattle.route_lines.specs.State.{State, Place, Route, place_of, stop_of, mark_of}
use Rattle.route_book.specs.Follows.{LeadAs}
use Rattle.route_book.specs.Holds.{Found, found_by, state_stop, state_mark, place_at, stop_at}
use Rattle.route_book.specs.Holds.{mark_at, HasItem, entry, IsLive, IsSettled, IsHeld}
use Rattle.route_book.proofs.AddedLemmas.{Grows, Kept, grows, shown_still}
use Rattle.route_book.proofs.SettledLemmas.{found_added, settled_added, up_to_added, live_settled}

-- a stop more, at an index where there was none; `routes` are the state's routes with it
module _ (s : State) (f : Found) (order : List Place) (ends ends' : ℕ → Option Ends)
    (book : List Entry) (h : IsHeld s f order ends book)
    (v : StopView) (i g : ℕ) (at : ℕ → Option (ℕ × StopView)) (vacant : f.stops i ≡ None)
    (entries : (k : ℕ) → at k ≡ with_entry f.stops i (g, v) k)
    (next : v.ticket ≡ s.last + 1) (counted : g ≡ f.stop_counter) (live : IsLive f.places v.place)
    (routes : List Route) where
  abbrev pub with_stops : Found
  with_stops = record f { stops = at }

  abbrev now : Found
  now = record f { stops = at }

  abbrev e : Entry
  e = entry v.ticket OfStop i g

  abbrev more : List Entry
  more = book ++ e ∷ []

  abbrev pub after_stop : State
  after_stop = record s { last = s.last + 1; routes = routes }

  by_counter : (k : ℕ) → at k ≡ with_entry f.stops i (f.stop_counter, v) k
  by_counter k = entries k ∙ ap (λ n. with_entry f.stops i (n, v) k) counted

  found_kept : (r : Option (ℕ × ℕ)) → IsSettled f.stops f.stop_counter r
      → found_by at r ≡ found_by f.stops r
  found_kept = found_added f.stops at i f.stop_counter v vacant by_counter

  settled_kept : (r : Option (ℕ × ℕ)) → IsSettled f.stops f.stop_counter r
      → IsSettled at f.stop_counter r
  settled_kept = settled_added f.stops at i f.stop_counter v vacant by_counter

  mark_kept : (j n : ℕ) → option_map (state_mark now) (value_if n (f.marks j))
      ≡ option_map (state_mark f) (value_if n (f.marks j))
  mark_kept = shown_still f.marks (state_mark f) (state_mark now)
      (λ j n x is. ap (λ (r : Option StopView).
      (record {
        ticket = x.ticket;
        place = option_map (λ (q : Place). q.ticket) (found_by f.places x.place);
        stop = option_map (λ (q : StopView). q.ticket) r;
      }))
      (found_kept x.stop (h.mark_stop j n x is)))

  kept : (k : Kind) (j h' : ℕ) → HasItem f k j h' → Kept f now k j h'
  kept OfPlace j h' filled = record { place = refl; stop = refl; mark = refl; filled = filled }
  kept OfStop j h' filled =
      let same = found_kept (Some (j, h')) (inl filled) in
      record {
        place = refl;
        stop = ap (option_map (state_stop f)) same;
        mark = refl;
        filled = subst IsSome (sym same) filled;
      }
  kept OfMark j h' filled =
      record { place = refl; stop = refl; mark = mark_kept j h'; filled = filled }

  grown : Grows (λ (q : StopView). q.ticket) OfStop s now book more f.stops at i g v
  grown = grows StopView (λ q. q.ticket) OfStop s f now order ends book h f.stops at i g v entries
      next kept

  pub no_stop_yet : (t : ℕ) → t ≡ s.last + 1 → stop_of s.routes t ≡ None
  no_stop_yet t is = h.stops t ∙ ap (stop_at f) (grown.none t is)

  pub stop_added : ((t : ℕ) → t ≢ s.last + 1 → stop_of routes t ≡ stop_of s.routes t)
      → ((t : ℕ) → t ≡ s.last + 1 → stop_of routes t ≡ Some (state_stop f v))
      → LeadAs (λ (x : StopView). x.ticket) at ends' (next_stop routes)
      → IsHeld after_stop now order ends' more
  stop_added others own lead = record {
    rise = grown.rise;
    filled = grown.filled (subst IsSome (sym grown.found) refl);
    places_in = λ j k q is. grown.still q.ticket _ (h.places_in j k q is);
    stops_in = grown.items h.stops_in;
    marks_in = λ j k q is. grown.still q.ticket _ (h.marks_in j k q is);
    stop_place = grown.each (λ j k q. IsSettled f.places f.place_counter q.place)
        (live_settled f.places f.place_counter v.place live) h.stop_place;
    mark_place = h.mark_place;
    mark_stop = λ j k q is. settled_kept q.stop (h.mark_stop j k q is);
    places_up_to = h.places_up_to;
    stops_up_to = up_to_added f.stops at i f.stop_counter v vacant by_counter h.stops_up_to;
    places = grown.places (place_of s.places) (λ t other. refl)
        (λ t is. h.places t ∙ ap (place_at f) (grown.none t is));
    stops = grown.stops (stop_of routes) others
        (λ t is. own t is ∙ sym (ap (option_map (state_stop f)) grown.found));
    marks = grown.marks (mark_of s.marks) (λ t other. refl)
        (λ t is. h.marks t ∙ ap (mark_at f) (grown.none t is));
    in_order = h.in_order;
    routes = lead;
  }

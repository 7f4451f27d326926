-- What one place more makes of what is held.
use Rattle.std.proofs.Common.{◌≡◌, ◌≢◌, ◌∙◌, sym, ap, subst, refl, Bool, true, false, ◌==◌}
use Rattle.std.proofs.Common.{nat_lt, if◌then◌else◌, ℕ, ◌+◌, inl, List, [], ◌∷◌, ◌++◌, Option, Some}
use Rattle.std.proofs.Common.{None, IsSome}
use Rattle.std.specs.Option.{option_map}
use Rattle.std.proofs.lemmas.Bool.{ne_eqb, eq-eqb}
use Rattle.triple_arena.specs.Entries.{value_if, with_entry}
use Rattle.linked_lists.specs.LinkedLists.{Ends}
use Rattle.ticket_book.specs.declared.entry.Kind.{Kind}
use Rattle.ticket_book.specs.declared.entry.Kind.TheVariants.{Place as OfPlace, Stop as OfStop}
use Rattle.ticket_book.specs.declared.entry.Kind.TheVariants.{Mark as OfMark}
use Rattle.ticket_book.specs.Tickets.{Entry}
use Rattle.route_lines.specs.Calls.{put}
use Rattle.route_lines.specs.State.{State, Place, place_of, stop_of, mark_of}
use Rattle.route_book.specs.Holds.{Found, found_by, state_stop, state_mark, place_at, stop_at}
use Rattle.route_book.specs.Holds.{mark_at, HasItem, entry, IsSettled, IsHeld}
use Rattle.route_book.specs.Item.{StopView}
use Rattle.route_book.proofs.AddedLemmas.{Grows, Kept, grows, shown_still}
use Rattle.route_book.proofs.SettledLemmas.{found_added, settled_added, up_to_added}

-- a place more, in the order of the keys
find_put : (p : Place) (t : ℕ) (ps : List Place) → p.ticket ≢ t
    → place_of (put p ps) t ≡ place_of ps t
find_put p t [] other = rw (ne_eqb p.ticket t other) refl
find_put p t (q ∷ ps) other = by (find_put p t ps other) (nat_lt p.key q.key)
  where
    by_test : place_of (put p ps) t ≡ place_of ps t → (b : Bool)
        → (if b then Some q else place_of (put p ps) t) ≡ (if b then Some q else place_of ps t)
    by_test rest true = refl
    by_test rest false = rest

    by : place_of (put p ps) t ≡ place_of ps t → (b : Bool)
        → place_of (if b then p ∷ q ∷ ps else q ∷ put p ps) t ≡ place_of (q ∷ ps) t
    by rest true = rw (ne_eqb p.ticket t other) refl
    by rest false = by_test rest (q.ticket == t)

find_new : (p : Place) (ps : List Place) → place_of ps p.ticket ≡ None
    → place_of (put p ps) p.ticket ≡ Some p
find_new p [] none = rw (eq-eqb p.ticket p.ticket refl) refl
find_new p (q ∷ ps) none = by (λ is. find_new p ps is) (nat_lt p.key q.key)
  where
    skip : (place_of ps p.ticket ≡ None → place_of (put p ps) p.ticket ≡ Some p) → (b : Bool)
        → (if b then Some q else place_of ps p.ticket) ≡ None
        → (if b then Some q else place_of (put p ps) p.ticket) ≡ Some p
    skip rest true is = absurd (let no : ◌≡◌ {A = Option Place} None (Some q) = sym is in cc)
    skip rest false is = rest is

    by : (place_of ps p.ticket ≡ None → place_of (put p ps) p.ticket ≡ Some p) → (b : Bool)
        → place_of (if b then p ∷ q ∷ ps else q ∷ put p ps) p.ticket ≡ Some p
    by rest true = rw (eq-eqb p.ticket p.ticket refl) refl
    by rest false = skip rest (q.ticket == p.ticket) none

-- a place more, at an index where there was none
module _ (s : State) (f : Found) (order order' : List Place) (ends : ℕ → Option Ends)
    (book : List Entry) (h : IsHeld s f order ends book)
    (p : Place) (i g : ℕ) (at : ℕ → Option (ℕ × Place)) (vacant : f.places i ≡ None)
    (entries : (k : ℕ) → at k ≡ with_entry f.places i (g, p) k) (next : p.ticket ≡ s.last + 1)
    (counted : g ≡ f.place_counter)
    (placed : order' ≡ put p order) where
  abbrev now : Found
  now = record f { places = at }

  abbrev e : Entry
  e = entry p.ticket OfPlace i g

  by_counter : (k : ℕ) → at k ≡ with_entry f.places i (f.place_counter, p) k
  by_counter k = entries k ∙ ap (λ n. with_entry f.places i (n, p) k) counted

  found_kept : (r : Option (ℕ × ℕ)) → IsSettled f.places f.place_counter r
      → found_by at r ≡ found_by f.places r
  found_kept = found_added f.places at i f.place_counter p vacant by_counter

  settled_kept : (r : Option (ℕ × ℕ)) → IsSettled f.places f.place_counter r
      → IsSettled at f.place_counter r
  settled_kept = settled_added f.places at i f.place_counter p vacant by_counter

  stop_kept : (j n : ℕ) → option_map (state_stop now) (value_if n (f.stops j))
      ≡ option_map (state_stop f) (value_if n (f.stops j))
  stop_kept = shown_still f.stops (state_stop f) (state_stop now)
      (λ j n v is. ap (λ (r : Option Place).
      (record { ticket = v.ticket; place = option_map (λ (q : Place). q.ticket) r }))
      (found_kept v.place (h.stop_place j n v is)))

  mark_kept : (j n : ℕ) → option_map (state_mark now) (value_if n (f.marks j))
      ≡ option_map (state_mark f) (value_if n (f.marks j))
  mark_kept = shown_still f.marks (state_mark f) (state_mark now)
      (λ j n v is. ap (λ (r : Option Place).
      (record {
        ticket = v.ticket;
        place = option_map (λ (q : Place). q.ticket) r;
        stop = option_map (λ (q : StopView). q.ticket) (found_by f.stops v.stop);
      }))
      (found_kept v.place (h.mark_place j n v is)))

  kept : (k : Kind) (j h' : ℕ) → HasItem f k j h' → Kept f now k j h'
  kept OfPlace j h' filled =
      let same = found_kept (Some (j, h')) (inl filled) in
      record { place = same; stop = refl; mark = refl; filled = subst IsSome (sym same) filled }
  kept OfStop j h' filled =
      record { place = refl; stop = stop_kept j h'; mark = refl; filled = filled }
  kept OfMark j h' filled =
      record { place = refl; stop = refl; mark = mark_kept j h'; filled = filled }

  abbrev pub after : State
  after = record s { last = s.last + 1; places = put p s.places }

  abbrev more : List Entry
  more = book ++ e ∷ []

  grown : Grows (λ (q : Place). q.ticket) OfPlace s now book more f.places at i g p
  grown = grows Place (λ q. q.ticket) OfPlace s f now order ends book h f.places at i g p entries
      next kept

  unused : (t : ℕ) → t ≡ s.last + 1 → place_of s.places t ≡ None
  unused t is = h.places t ∙ ap (place_at f) (grown.none t is)

  pub place_added : IsHeld after now order' ends more
  place_added = record {
    rise = grown.rise;
    filled = grown.filled (subst IsSome (sym grown.found) refl);
    places_in = grown.items h.places_in;
    stops_in = λ j k v is. grown.still v.ticket _ (h.stops_in j k v is);
    marks_in = λ j k v is. grown.still v.ticket _ (h.marks_in j k v is);
    stop_place = λ j k v is. settled_kept v.place (h.stop_place j k v is);
    mark_place = λ j k v is. settled_kept v.place (h.mark_place j k v is);
    mark_stop = h.mark_stop;
    places_up_to = up_to_added f.places at i f.place_counter p vacant by_counter h.places_up_to;
    stops_up_to = h.stops_up_to;
    places = grown.places (place_of (put p s.places))
        (λ t other. find_put p t s.places (λ is. other (sym is ∙ next)))
        (λ t is. ap (place_of (put p s.places)) (is ∙ sym next)
        ∙ find_new p s.places (unused p.ticket next) ∙ sym grown.found);
    stops = grown.stops (stop_of s.routes) (λ t other. refl)
        (λ t is. h.stops t ∙ ap (stop_at f) (grown.none t is));
    marks = grown.marks (mark_of s.marks) (λ t other. refl)
        (λ t is. h.marks t ∙ ap (mark_at f) (grown.none t is));
    in_order = ap (put p) h.in_order ∙ sym placed;
    routes = h.routes;
  }

-- The numbers of a state stay below 2^64 as lines are carried out.
use Rattle.std.proofs.Common.{◌≡◌, sym, subst, ◌==◌, ℕ}
use Rattle.std.proofs.Common.{List, [], ◌∷◌, ◌++◌, Some}
use Rattle.std.proofs.Common.{IfSome, Ok, not, arith}
use Rattle.std.specs.List.{AllByRecursion}
use Rattle.route_lines.specs.State.{Rooms, State, Place, Stop, Route, Mark, place, stop}
use Rattle.route_lines.specs.State.{stop_list, empty, is_full_of_places}
use Rattle.route_lines.specs.State.{is_full_of_stops, is_full_of_marks}
use Rattle.route_lines.specs.Calls.{place_holder, stop_holder}
use Rattle.route_lines.specs.Calls.{placed, after_place, after_word, started}
use Rattle.route_lines.specs.Calls.{after_start, extended, after_extend, joined, after_join, parted}
use Rattle.route_lines.specs.Calls.{after_cut, swapped, after_swap, marked, after_mark, clear_mark}
use Rattle.route_lines.specs.Calls.{clear_mark_stop}
use Rattle.route_lines.specs.Calls.{after_removed}
use Rattle.route_lines.specs.Changes.{changed}
use Rattle.route_lines.specs.Routes.{linear, put_behind, linked, unlinked}
use Rattle.route_lines.specs.Routes.{exchanged}
use Rattle.route_lines.specs.Text.{Line, after_lines}
use Rattle.route_lines.specs.Number.{IsNumber}
use Rattle.route_lines.specs.Sound.{IsNumbered, IsPossible}
use Rattle.route_lines.specs.declared.change.Change.{Change}
use Rattle.route_lines.specs.declared.change.Change.TheVariants.{Open, Place as PlaceChange}
use Rattle.route_lines.specs.declared.change.Change.TheVariants.{Word as WordChange, Start, Extend}
use Rattle.route_lines.specs.declared.change.Change.TheVariants.{Join, Cut, Swap}
use Rattle.route_lines.specs.declared.change.Change.TheVariants.{Mark as MarkChange, Remove, Move}
use Rattle.route_lines.specs.CutLaws.{all_append, all_filter}
use Rattle.route_lines.specs.CutLaws.{stop_list-more}
use Rattle.route_lines.proofs.NewStopLemmas.{all_put_behind}
use Rattle.route_lines.proofs.RemovedLemmas.{all_map}
use Rattle.route_lines.proofs.RemovedLemmas.{number-unless_is, all_cleared}
use Rattle.route_lines.proofs.RouteLemmas.{all_linked}
use Rattle.route_lines.proofs.RouteLemmas.{all_unlinked}
use Rattle.route_lines.proofs.RouteLemmas.{exchanged_keeps}
use Rattle.route_lines.proofs.TakenOutLemmas.{all_taken_out}
use Rattle.route_lines.specs.CallLaws.{ticket_left, next_ticket-ok, and_then-ok}
use Rattle.route_lines.specs.CallLaws.{keeps_unless_refused, holder-given, place_holder-ok}
use Rattle.route_lines.specs.CallLaws.{stop_holder-ok}
use Rattle.route_lines.proofs.SoundLemmas.{all_put, all_reworded, keeps_removed, kept_by_lines}

IsNumbered-after_place : (s : State) (key : ℕ) (word : List ℕ) → IsNumber key → IsNumbered s
    → IsNumbered (after_place s key word)
IsNumbered-after_place s key word small numbered =
    keeps_unless_refused IsNumbered s (placed s) _ numbered (λ t e.
    let ticket = next_ticket-ok s (is_full_of_places s) t e in
    record {
      last = subst IsNumber (sym ticket.1) (ticket_left s.last _ ticket.0 numbered.last);
      keys = all_put (λ p. IsNumber p.key) (record { ticket = t; key = key; word = word }) s.places
          small numbered.keys;
      stops = numbered.stops;
      marks = numbered.marks;
    })

IsNumbered-after_word : (s : State) (t : ℕ) (word : List ℕ) → IsNumbered s
    → IsNumbered (after_word s t word)
IsNumbered-after_word s t word numbered =
    keeps_unless_refused IsNumbered s (place_holder s t) _ numbered (λ p e. record {
      last = numbered.last;
      keys = all_reworded (λ q. IsNumber q.key) t word s.places (λ q h. h) numbered.keys;
      stops = numbered.stops;
      marks = numbered.marks;
    })

-- a ticket of a place, or of a stop, is below 2^64
place_number : (s : State) (t : ℕ) (p : Place) → IsNumbered s → place_holder s t ≡ Ok p → IsNumber t
place_number s t p numbered e =
    omega (arith, numbered.last, holder-given s t (place p) (place_holder-ok s t p e))

stop_number : (s : State) (t : ℕ) (u : Stop) → IsNumbered s → stop_holder s t ≡ Ok u → IsNumber t
stop_number s t u numbered e =
    omega (arith, numbered.last, holder-given s t (stop u) (stop_holder-ok s t u e))

IsNumbered-more_stops : (s : State) (last : ℕ) (routes : List Route) → IsNumber last → IsNumbered s
    → AllByRecursion (λ t. IfSome t.place IsNumber) (stop_list routes)
    → IsNumbered (record s { last = last; routes = routes })
IsNumbered-more_stops s last routes small numbered stops =
    record { last = small; keys = numbered.keys; stops = stops; marks = numbered.marks }

IsNumbered-after_start : (s : State) (at : ℕ) → IsNumbered s → IsNumbered (after_start s at)
IsNumbered-after_start s at numbered =
    keeps_unless_refused IsNumbered s (started s at) _ numbered (λ t e.
    let passed = and_then-ok (place_holder s at) _ t e in
    let ticket = next_ticket-ok s (is_full_of_stops s) t passed.2 in
    let new : Stop = record { ticket = t; place = Some at } in
    IsNumbered-more_stops s t (s.routes ++ linear (new ∷ []) ∷ [])
    (subst IsNumber (sym ticket.1) (ticket_left s.last _ ticket.0 numbered.last)) numbered
    (subst (AllByRecursion (λ u. IfSome u.place IsNumber)) (sym (stop_list-more s.routes new))
    (all_append (λ u. IfSome u.place IsNumber) (stop_list s.routes) (new ∷ []) numbered.stops
    (place_number s at passed.0 numbered passed.1, tt))))

IsNumbered-after_extend : (s : State) (t at : ℕ) → IsNumbered s → IsNumbered (after_extend s t at)
IsNumbered-after_extend s t at numbered =
    keeps_unless_refused IsNumbered s (extended s t at) _ numbered (λ n e.
    let first = and_then-ok (stop_holder s t) _ n e in
    let second = and_then-ok (place_holder s at) _ n first.2 in
    let ticket = next_ticket-ok s (is_full_of_stops s) n second.2 in
    let new : Stop = record { ticket = n; place = Some at } in
    IsNumbered-more_stops s n (put_behind t new s.routes)
    (subst IsNumber (sym ticket.1) (ticket_left s.last _ ticket.0 numbered.last)) numbered
    (all_put_behind (λ u. IfSome u.place IsNumber) t new s.routes
    (place_number s at second.0 numbered second.1) numbered.stops))

IsNumbered-after_join : (s : State) (t u : ℕ) → IsNumbered s → IsNumbered (after_join s t u)
IsNumbered-after_join s t u numbered =
    keeps_unless_refused IsNumbered s (joined s t u) _ numbered
    (λ ok e. IsNumbered-more_stops s s.last (linked t u s.routes) numbered.last numbered
    (all_linked (λ x. IfSome x.place IsNumber) t u s.routes numbered.stops))

IsNumbered-after_cut : (s : State) (t : ℕ) → IsNumbered s → IsNumbered (after_cut s t)
IsNumbered-after_cut s t numbered =
    keeps_unless_refused IsNumbered s (parted s t) _ numbered
    (λ ok e. IsNumbered-more_stops s s.last (unlinked t s.routes) numbered.last numbered
    (all_unlinked (λ x. IfSome x.place IsNumber) t s.routes numbered.stops))

IsNumbered-after_swap : (s : State) (t u : ℕ) → IsNumbered s → IsNumbered (after_swap s t u)
IsNumbered-after_swap s t u numbered =
    keeps_unless_refused IsNumbered s (swapped s t u) _ numbered
    (λ ok e. IsNumbered-more_stops s s.last (exchanged t u s.routes) numbered.last numbered
    (exchanged_keeps (λ routes. AllByRecursion (λ x. IfSome x.place IsNumber) (stop_list routes)) t
    u s.routes (all_unlinked (λ x. IfSome x.place IsNumber))
    (all_linked (λ x. IfSome x.place IsNumber)) numbered.stops))

IsNumbered-after_mark : (s : State) (at t : ℕ) → IsNumbered s → IsNumbered (after_mark s at t)
IsNumbered-after_mark s at t numbered =
    keeps_unless_refused IsNumbered s (marked s at t) _ numbered (λ n e.
    let first = and_then-ok (place_holder s at) _ n e in
    let second = and_then-ok (stop_holder s t) _ n first.2 in
    let ticket = next_ticket-ok s (is_full_of_marks s) n second.2 in
    let new : Mark = record { ticket = n; place = Some at; stop = Some t } in
    record {
      last = subst IsNumber (sym ticket.1) (ticket_left s.last _ ticket.0 numbered.last);
      keys = numbered.keys;
      stops = numbered.stops;
      marks = all_append (λ m. IfSome m.place IsNumber × IfSome m.stop IsNumber) s.marks (new ∷ [])
          numbered.marks (
            (
              place_number s at first.0 numbered first.1,
              stop_number s t second.0 numbered second.1,
            ),
            tt,
          );
    })

abbrev Numbers : Mark → Type 0
Numbers m = IfSome m.place IsNumber × IfSome m.stop IsNumber

IsNumbered-after_removed : (s : State) (t : ℕ) → IsNumbered s → IsNumbered (after_removed s t)
IsNumbered-after_removed s t numbered =
    keeps_removed IsNumbered s t numbered (record {
      last = numbered.last;
      keys = all_filter (λ p. IsNumber p.key) (λ p. not (p.ticket == t)) s.places numbered.keys;
      stops = all_cleared (λ u. IfSome u.place IsNumber) (λ u. IfSome u.place IsNumber) t s.routes
          (λ u small. number-unless_is t u.place small) numbered.stops;
      marks = all_map Numbers Numbers (clear_mark t) s.marks
          (λ m small. (number-unless_is t m.place small.0, small.1)) numbered.marks;
    }) (record {
      last = numbered.last;
      keys = numbered.keys;
      stops = all_taken_out (λ u. IfSome u.place IsNumber) t s.routes numbered.stops;
      marks = all_map Numbers Numbers (clear_mark_stop t) s.marks
          (λ m small. (small.0, number-unless_is t m.stop small.1)) numbered.marks;
    }) (record {
      last = numbered.last;
      keys = numbered.keys;
      stops = numbered.stops;
      marks = all_filter Numbers (λ m. not (m.ticket == t)) s.marks numbered.marks;
    })

pub IsNumbered-empty : (rooms : Rooms) (last : ℕ) → IsNumber last → IsNumbered (empty rooms last)
IsNumbered-empty rooms last small = record { last = small; keys = tt; stops = tt; marks = tt }

pub IsNumbered-changed : (s : State) (change : Change) → IsPossible s change → IsNumbered s
    → IsNumbered (changed s change)
IsNumbered-changed s (Open places stops marks last) is numbered = IsNumbered-empty _ last is
IsNumbered-changed s (PlaceChange key word) is numbered =
    IsNumbered-after_place s key word.now is.0 numbered
IsNumbered-changed s (WordChange t word) is numbered = IsNumbered-after_word s t word.now numbered
IsNumbered-changed s (Start at) is numbered = IsNumbered-after_start s at numbered
IsNumbered-changed s (Extend t at) is numbered = IsNumbered-after_extend s t at numbered
IsNumbered-changed s (Join t u) is numbered = IsNumbered-after_join s t u numbered
IsNumbered-changed s (Cut t) is numbered = IsNumbered-after_cut s t numbered
IsNumbered-changed s (Swap t u) is numbered = IsNumbered-after_swap s t u numbered
IsNumbered-changed s (MarkChange at t) is numbered = IsNumbered-after_mark s at t numbered
IsNumbered-changed s (Remove t) is numbered = IsNumbered-after_removed s t numbered
IsNumbered-changed s (Move places stops marks) is numbered =
    record {
      last = numbered.last;
      keys = numbered.keys;
      stops = numbered.stops;
      marks = numbered.marks;
    }

pub IsNumbered-from_empty : (rooms : Rooms) (last : ℕ) (lines : List Line) → IsNumber last
    → IsNumbered (after_lines (empty rooms last) lines)
IsNumbered-from_empty rooms last lines small =
    kept_by_lines IsNumbered (λ s change is on numbered. IsNumbered-changed s change is numbered)
    (empty rooms last) lines
    (IsNumbered-empty rooms last small)

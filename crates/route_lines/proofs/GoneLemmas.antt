-- A ticket that is gone stays gone, whatever lines follow.
use Rattle.std.proofs.Common.{◌≡◌, ap, refl, Bool, true, false, ◌||◌, ◌==◌, ℕ, ◌+◌, ◌≤◌, ◌++◌, ◌∷◌}
use Rattle.std.proofs.Common.{List, [], Option, Some, None, Err, cond, nat_lt, option_map, arith}
use Rattle.std.specs.Option.{option_or, ok_or}
use Rattle.std.proofs.lemmas.Bool.{ne_eqb, ltb-false, le-ltb}
use Rattle.route_lines.specs.Calls.{place_holder, stop_holder, clear_mark, clear_mark_stop, started}
use Rattle.route_lines.specs.Calls.{after_start, extended, after_extend, joined, parted, swapped}
use Rattle.route_lines.specs.Calls.{marked, after_mark, placed, after_place, after_word}
use Rattle.route_lines.specs.Calls.{after_removed}
use Rattle.route_lines.specs.Changes.{changed}
use Rattle.route_lines.specs.Routes.{has_ticket, linear, put_behind, linked, unlinked, exchanged}
use Rattle.route_lines.specs.Sound.{holders, IsSound}
use Rattle.route_lines.specs.State.{State, Place, Stop, Route, Mark, place, stop, mark, stop_list}
use Rattle.route_lines.specs.State.{place_of, stop_of, mark_of, holder, is_full_of_places}
use Rattle.route_lines.specs.State.{is_full_of_stops, is_full_of_marks}
use Rattle.route_lines.specs.Text.{Line, after_lines}
use Rattle.route_lines.specs.declared.change.Change.{Change}
use Rattle.route_lines.specs.declared.change.Change.TheVariants.{Open, Place as PlaceChange}
use Rattle.route_lines.specs.declared.change.Change.TheVariants.{Word as WordChange, Start, Extend}
use Rattle.route_lines.specs.declared.change.Change.TheVariants.{Join, Cut, Swap}
use Rattle.route_lines.specs.declared.change.Change.TheVariants.{Mark as MarkChange, Remove, Move}
use Rattle.route_lines.specs.declared.refusal.Refusal.TheVariants.{Unknown, Gone}
use Rattle.route_lines.specs.CutLaws.{total-append, none_found, not_found}
use Rattle.route_lines.proofs.EndedLemmas.{gone_if_none}
use Rattle.route_lines.proofs.RemovedLemmas.{total-filter, total-map, total-cleared}
use Rattle.route_lines.specs.CallLaws.{and_then-ok, next_ticket-ok, keeps_unless_refused}
use Rattle.route_lines.proofs.SoundLemmas.{keeps_removed, kept_by_lines, GoesOn, count-put}
use Rattle.route_lines.proofs.SoundLemmas.{count-reworded, IsMore, more_by_start, more_by_extend}
use Rattle.route_lines.proofs.SoundLemmas.{IsSame, same_by_nothing, same_by_cut, same_by_join}
use Rattle.route_lines.proofs.SoundLemmas.{same_by_swap, IsSound-changed}
use Rattle.route_lines.proofs.TakenOutLemmas.{total-taken_out}

-- no ticket that was given has more holders than before, and the last one is no smaller
record GivesOn (s later : State) : Type 0 where
  last : s.last ≤ later.last
  none_more : (k : ℕ) → k ≤ s.last → holders later k ≤ holders s k

given_before : (s : State) → GivesOn s s
given_before s = record { last = omega arith; none_more = λ k less. omega arith }

abbrev one_if : Bool → ℕ
one_if b = cond b 1 0

-- the next ticket is none of those
new_apart : (last k : ℕ) → k ≤ last → one_if (last + 1 == k) ≡ 0
new_apart last k less = ap one_if (ne_eqb (last + 1) k (λ e. omega (arith, e, less)))

GivesOn-place : (s : State) (key : ℕ) (word : List ℕ) → GivesOn s (after_place s key word)
GivesOn-place s key word = keeps_unless_refused (GivesOn s) s (placed s) _ (given_before s) (λ t e.
    let ticket = next_ticket-ok s (is_full_of_places s) t e in
    record {
      last = omega (arith, ticket.1);
      none_more = λ k less. omega (
        arith,
        count-put (λ p. p.ticket == k) (record { ticket = t; key = key; word = word }) s.places,
        ap {B = ℕ} (λ i. cond (i == k) 1 0) ticket.1,
        new_apart s.last k less,
      );
    })

GivesOn-word : (s : State) (t : ℕ) (word : List ℕ) → GivesOn s (after_word s t word)
GivesOn-word s t word =
    keeps_unless_refused (GivesOn s) s (place_holder s t) _ (given_before s)
    (λ p e. record {
      last = omega arith;
      none_more = λ k less. omega (arith, count-reworded t word k s.places);
    })

GivesOn-more_stops : (s : State) (new : Stop) (routes : List Route) → new.ticket ≡ s.last + 1
    → IsMore s new routes → GivesOn s (record s { last = new.ticket; routes = routes })
GivesOn-more_stops s new routes is more = record {
  last = omega (arith, is);
  none_more = λ k less. omega (
    arith,
    more.total (λ u. cond (has_ticket k u) 1 0),
    ap {B = ℕ} (λ n. cond (n == k) 1 0) is,
    new_apart s.last k less,
  );
}

GivesOn-same_stops : (s : State) (routes : List Route) → IsSame s routes
    → GivesOn s (record s { routes = routes })
GivesOn-same_stops s routes same =
    record {
      last = omega arith;
      none_more = λ k less. omega (arith, same.total (λ u. cond (has_ticket k u) 1 0));
    }

GivesOn-start : (s : State) (at : ℕ) → IsSound s → GivesOn s (after_start s at)
GivesOn-start s at sound =
    keeps_unless_refused (GivesOn s) s (started s at) _ (given_before s) (λ t e.
    let passed = and_then-ok (place_holder s at) _ t e in
    let ticket = next_ticket-ok s (is_full_of_stops s) t passed.2 in
    let new : Stop = record { ticket = t; place = Some at } in
    GivesOn-more_stops s new (s.routes ++ linear (new ∷ []) ∷ []) ticket.1
    (more_by_start s new ticket.1 sound))

GivesOn-extend : (s : State) (t at : ℕ) → IsSound s → GivesOn s (after_extend s t at)
GivesOn-extend s t at sound =
    keeps_unless_refused (GivesOn s) s (extended s t at) _ (given_before s) (λ n e.
    let first = and_then-ok (stop_holder s t) _ n e in
    let second = and_then-ok (place_holder s at) _ n first.2 in
    let ticket = next_ticket-ok s (is_full_of_stops s) n second.2 in
    let new : Stop = record { ticket = n; place = Some at } in
    GivesOn-more_stops s new (put_behind t new s.routes) ticket.1
    (more_by_extend s t new ticket.1 sound))

GivesOn-mark : (s : State) (at t : ℕ) → GivesOn s (after_mark s at t)
GivesOn-mark s at t = keeps_unless_refused (GivesOn s) s (marked s at t) _ (given_before s) (λ n e.
    let first = and_then-ok (place_holder s at) _ n e in
    let second = and_then-ok (stop_holder s t) _ n first.2 in
    let ticket = next_ticket-ok s (is_full_of_marks s) n second.2 in
    let new : Mark = record { ticket = n; place = Some at; stop = Some t } in
    record {
      last = omega (arith, ticket.1);
      none_more = λ k less. omega (
        arith,
        total-append (λ (m : Mark). cond (m.ticket == k) 1 0) s.marks (new ∷ []),
        ap {B = ℕ} (λ i. cond (i == k) 1 0) ticket.1,
        new_apart s.last k less,
      );
    })

GivesOn-remove : (s : State) (t : ℕ) → IsSound s → GivesOn s (after_removed s t)
GivesOn-remove s t sound =
    keeps_removed (GivesOn s) s t (given_before s) (record {
      last = omega arith;
      none_more = λ k less. omega (
        arith,
        total-filter (λ (p : Place). cond (p.ticket == k) 1 0) (λ p. p.ticket == t) s.places,
        total-cleared (λ u. cond (has_ticket k u) 1 0) t s.routes,
        total-map (λ (m : Mark). cond (m.ticket == k) 1 0) (clear_mark t) s.marks,
      );
    }) (record {
      last = omega arith;
      none_more = λ k less. omega (
        arith,
        total-taken_out (λ u. cond (has_ticket k u) 1 0) t s.routes sound.routes,
        total-map (λ (m : Mark). cond (m.ticket == k) 1 0) (clear_mark_stop t) s.marks,
      );
    }) (record {
      last = omega arith;
      none_more = λ k less. omega (
        arith,
        total-filter (λ (m : Mark). cond (m.ticket == k) 1 0) (λ m. m.ticket == t) s.marks,
      );
    })

GivesOn-changed : (s : State) (change : Change) → GoesOn change → IsSound s
    → GivesOn s (changed s change)
GivesOn-changed s (Open places stops marks last) on sound = absurd on
GivesOn-changed s (PlaceChange key word) on sound = GivesOn-place s key word.now
GivesOn-changed s (WordChange t word) on sound = GivesOn-word s t word.now
GivesOn-changed s (Start at) on sound = GivesOn-start s at sound
GivesOn-changed s (Extend t at) on sound = GivesOn-extend s t at sound
GivesOn-changed s (Join t u) on sound =
    keeps_unless_refused (GivesOn s) s (joined s t u) _ (given_before s)
    (λ ok e. GivesOn-same_stops s (linked t u s.routes)
    (same_by_join s t u s.routes (same_by_nothing s sound)))
GivesOn-changed s (Cut t) on sound =
    keeps_unless_refused (GivesOn s) s (parted s t) _ (given_before s)
    (λ ok e. GivesOn-same_stops s (unlinked t s.routes)
    (same_by_cut s t s.routes (same_by_nothing s sound)))
GivesOn-changed s (Swap t u) on sound =
    keeps_unless_refused (GivesOn s) s (swapped s t u) _ (given_before s)
    (λ ok e. GivesOn-same_stops s (exchanged t u s.routes) (same_by_swap s t u sound))
GivesOn-changed s (MarkChange at t) on sound = GivesOn-mark s at t
GivesOn-changed s (Remove t) on sound = GivesOn-remove s t sound
GivesOn-changed s (Move places stops marks) on sound = absurd on

-- a ticket that is gone was given, and no item has it
record IsEnded (s : State) (t : ℕ) : Type 0 where
  is_ticket : (t == 0) ≡ false
  given : t ≤ s.last
  none : holders s t ≡ 0

IsEnded-gone : (s : State) (t : ℕ) → holder s t ≡ Err Gone → IsEnded s t
IsEnded-gone s t e = at (t == 0) (nat_lt s.last t) (place_of s.places t) (stop_of s.routes t)
    (mark_of s.marks t) refl refl refl refl refl e
  where
    at : (a b : Bool) (p : Option Place) (u : Option Stop) (m : Option Mark) → (t == 0) ≡ a
        → nat_lt s.last t ≡ b → place_of s.places t ≡ p → stop_of s.routes t ≡ u
        → mark_of s.marks t ≡ m
        → cond (a || b) (Err Unknown)
        (ok_or (option_or (option_map place p)
        (option_or (option_map stop u) (option_map mark m))) Gone) ≡ Err Gone → IsEnded s t
    at true b p u m fa fb fp fu fm h = cc
    at false true p u m fa fb fp fu fm h = cc
    at false false (Some q) u m fa fb fp fu fm h = cc
    at false false None (Some v) m fa fb fp fu fm h = cc
    at false false None None (Some n) fa fb fp fu fm h = cc
    at false false None None None fa fb fp fu fm h = record {
      is_ticket = fa;
      given = ltb-false s.last t fb;
      none = omega (
        arith,
        not_found (λ p. p.ticket == t) s.places fp,
        not_found (has_ticket t) (stop_list s.routes) fu,
        not_found (λ m. m.ticket == t) s.marks fm,
      );
    }

gone-IsEnded : (s : State) (t : ℕ) → IsEnded s t → holder s t ≡ Err Gone
gone-IsEnded s t ended =
    gone_if_none s t (rw (ended.is_ticket, le-ltb s.last t ended.given) refl)
    (none_found (λ p. p.ticket == t) s.places (omega (arith, ended.none)))
    (none_found (has_ticket t) (stop_list s.routes) (omega (arith, ended.none)))
    (none_found (λ m. m.ticket == t) s.marks (omega (arith, ended.none)))

pub gone_after_lines : (s : State) (t : ℕ) (lines : List Line) → IsSound s → holder s t ≡ Err Gone
    → holder (after_lines s lines) t ≡ Err Gone
gone_after_lines s t lines sound gone =
    gone-IsEnded (after_lines s lines) t
    (kept_by_lines (λ x. IsSound x × IsEnded x t)
    (λ x change is on kept. (
      IsSound-changed x change is kept.0,
      later x change on kept.0 kept.1,
    )) s lines
    (sound, IsEnded-gone s t gone)).1
  where
    later : (x : State) (change : Change) → GoesOn change → IsSound x → IsEnded x t
        → IsEnded (changed x change) t
    later x change on whole ended =
        let gives = GivesOn-changed x change on whole in
        record {
          is_ticket = ended.is_ticket;
          given = omega (arith, ended.given, gives.last);
          none = omega (arith, ended.none, gives.none_more t ended.given);
        }

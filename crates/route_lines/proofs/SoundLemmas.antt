-- What a store keeps as lines are carried out.
use Rattle.std.proofs.Common.{◌≡◌, ◌∙◌, sym, ap, subst, refl, Bool, true, false, ◌==◌, ℕ}
use Rattle.std.proofs.Common.{suc, ◌+◌, ◌<◌, ◌≤◌, List, [], ◌∷◌, ◌++◌, length, Option, Some, None}
use Rattle.std.proofs.Common.{Result, Ok, Err, cond, not, nat_lt, length-append, arith}
use Rattle.std.specs.List.{AllByRecursion}
use Rattle.std.proofs.lemmas.Bool.{eqb-true, ltb-true, ltb-false, leb-false}
use Rattle.std.proofs.lemmas.List.{length-map}
use Rattle.route_lines.specs.State.{Rooms, State, Place, Stop, Route, Mark, Item, place, stop, mark}
use Rattle.route_lines.specs.State.{stop_list, holder, empty, is_full_of_places}
use Rattle.route_lines.specs.State.{is_full_of_stops, is_full_of_marks}
use Rattle.route_lines.specs.Calls.{put, reworded, place_holder, stop_holder}
use Rattle.route_lines.specs.Calls.{placed, after_place, after_word, started}
use Rattle.route_lines.specs.Calls.{after_start, extended, after_extend, joined, after_join, parted}
use Rattle.route_lines.specs.Calls.{after_cut, swapped, after_swap, marked, after_mark, clear_mark}
use Rattle.route_lines.specs.Calls.{clear_mark_stop, without_place, without_stop, without_mark}
use Rattle.route_lines.specs.Calls.{after_removed}
use Rattle.route_lines.specs.Changes.{changed, borrowed}
use Rattle.route_lines.specs.Grammar.{command_of}
use Rattle.route_lines.specs.Reply.{next}
use Rattle.route_lines.specs.Routes.{has_ticket, linear, put_behind, linked, unlinked, taken_out}
use Rattle.route_lines.specs.Routes.{exchanged}
use Rattle.route_lines.specs.Text.{Line, whole, unended, command_in, after_lines}
use Rattle.route_lines.specs.Word.{IsWord}
use Rattle.route_lines.specs.Sound.{IsBefore, PlacesRise, MarksRise, total, count_of, holders}
use Rattle.route_lines.specs.Sound.{AreWritten, IsSound, IsPossible}
use Rattle.route_lines.specs.declared.change.Change.{Change}
use Rattle.route_lines.specs.declared.change.Change.TheVariants.{Open, Place as PlaceChange}
use Rattle.route_lines.specs.declared.change.Change.TheVariants.{Word as WordChange, Start, Extend}
use Rattle.route_lines.specs.declared.change.Change.TheVariants.{Join, Cut, Swap}
use Rattle.route_lines.specs.declared.change.Change.TheVariants.{Mark as MarkChange, Remove, Move}
use Rattle.route_lines.specs.declared.command.Command.{Command}
use Rattle.route_lines.specs.declared.command.Command.TheVariants.{Place as PlaceLine}
use Rattle.route_lines.specs.declared.command.Command.TheVariants.{Word as WordLine, Show, Find}
use Rattle.route_lines.specs.declared.command.Command.TheVariants.{Floor, After, Before, All}
use Rattle.route_lines.specs.declared.command.Command.TheVariants.{Remove as RemoveLine}
use Rattle.route_lines.specs.declared.command.Command.TheVariants.{Start as StartLine}
use Rattle.route_lines.specs.declared.command.Command.TheVariants.{Extend as ExtendLine}
use Rattle.route_lines.specs.declared.command.Command.TheVariants.{Join as JoinLine, Cut as CutLine}
use Rattle.route_lines.specs.declared.command.Command.TheVariants.{Swap as SwapLine, Walk}
use Rattle.route_lines.specs.declared.command.Command.TheVariants.{Mark as MarkLine, Pack}
use Rattle.route_lines.specs.declared.refusal.Refusal.{Refusal}
use Rattle.route_lines.specs.CutLaws.{all_weaker, all_append, all_filter, total-append}
use Rattle.route_lines.specs.CutLaws.{length-total}
use Rattle.route_lines.proofs.GrammarLemmas.{command_of-found}
use Rattle.route_lines.specs.CutLaws.{none_above, stop_list-more}
use Rattle.route_lines.proofs.NewStopLemmas.{AreWritten-more}
use Rattle.route_lines.proofs.NewStopLemmas.{total-put_behind, all_put_behind}
use Rattle.route_lines.proofs.NewStopLemmas.{AreWritten-put_behind}
use Rattle.route_lines.proofs.RemovedLemmas.{total-filter, length-filter, PlacesRise-filter}
use Rattle.route_lines.proofs.RemovedLemmas.{MarksRise-filter, all_map, total-map, MarksRise-map}
use Rattle.route_lines.proofs.RemovedLemmas.{all_cleared, total-cleared}
use Rattle.route_lines.proofs.RemovedLemmas.{length-cleared, AreWritten-cleared}
use Rattle.route_lines.proofs.RouteLemmas.{AreWritten-linked, total-linked, all_linked}
use Rattle.route_lines.proofs.RouteLemmas.{AreWritten-unlinked, total-unlinked, all_unlinked}
use Rattle.route_lines.proofs.RouteLemmas.{exchanged_keeps}
use Rattle.route_lines.proofs.TakenOutLemmas.{AreWritten-taken_out, total-taken_out, all_taken_out}
use Rattle.route_lines.specs.CallLaws.{left_false, next_ticket-ok, and_then-ok}
use Rattle.route_lines.specs.CallLaws.{keeps_unless_refused}

-- ---- a place more

pub all_put : (P : Place → Type 0) (new : Place) (ps : List Place) → P new → AllByRecursion P ps
    → AllByRecursion P (put new ps)
all_put P new [] p h = (p, tt)
all_put P new (q ∷ ps) p h = at (nat_lt new.key q.key) (all_put P new ps p h.1)
  where
    at : (b : Bool) → AllByRecursion P (put new ps)
        → AllByRecursion P (cond b (new ∷ q ∷ ps) (q ∷ put new ps))
    at true behind = (p, h)
    at false behind = (h.0, behind)

length-put : (new : Place) (ps : List Place) → length (put new ps) ≡ length ps + 1
length-put new [] = omega arith
length-put new (q ∷ ps) = at (nat_lt new.key q.key) (length-put new ps)
  where
    at : (b : Bool) → length (put new ps) ≡ length ps + 1
        → length (cond b (new ∷ q ∷ ps) (q ∷ put new ps)) ≡ length (q ∷ ps) + 1
    at true behind = omega arith
    at false behind = omega (arith, behind)

-- what stands behind a place that stands behind another
pub IsBefore-trans : (p q r : Place) → IsBefore p q → IsBefore q r → IsBefore p r
IsBefore-trans p q r a b = record {
  key = omega (arith, a.key, b.key);
  ticket = λ same.
      let first : p.key ≡ q.key = omega (arith, same, a.key, b.key) in
      let second : q.key ≡ r.key = omega (arith, same, a.key, b.key) in
      omega (arith, a.ticket first, b.ticket second);
}

-- a place whose ticket is above all others goes behind all that have its key
pub PlacesRise-put : (new : Place) (ps : List Place)
    → AllByRecursion (λ q. q.ticket < new.ticket) ps → PlacesRise ps → PlacesRise (put new ps)
PlacesRise-put new [] less h = (tt, tt)
PlacesRise-put new (q ∷ ps) less h =
    at (nat_lt new.key q.key) refl (PlacesRise-put new ps less.1 h.1)
  where
    at : (b : Bool) → nat_lt new.key q.key ≡ b → PlacesRise (put new ps)
        → PlacesRise (cond b (new ∷ q ∷ ps) (q ∷ put new ps))
    at true e behind =
        let below = ltb-true new.key q.key e in
        let first : IsBefore new q =
        record { key = omega (arith, below); ticket = λ same. omega (arith, below, same) } in (
          (
            first,
            all_weaker (IsBefore q) (IsBefore new) ps
                (λ p later. IsBefore-trans new q p first later) h.0,
          ),
          h,
        )
    at false e behind =
        let above = ltb-false new.key q.key e in (
          all_put (IsBefore q) new ps
              (record { key = omega (arith, above); ticket = λ same. less.0 }) h.0,
          behind,
        )

pub count-put : (test : Place → Bool) (new : Place) (ps : List Place)
    → count_of test (put new ps) ≡ cond (test new) 1 0 + count_of test ps
count-put test new [] = omega arith
count-put test new (q ∷ ps) = at (nat_lt new.key q.key) (count-put test new ps)
  where
    at : (b : Bool) → count_of test (put new ps) ≡ cond (test new) 1 0 + count_of test ps
        → count_of test (cond b (new ∷ q ∷ ps) (q ∷ put new ps))
        ≡ cond (test new) 1 0 + count_of test (q ∷ ps)
    at true behind = refl
    at false behind = omega (arith, behind)

-- ---- another word

pub all_reworded : (P : Place → Type 0) (t : ℕ) (word : List ℕ) (ps : List Place)
    → ((p : Place) → P p → P (record p { word = word })) → AllByRecursion P ps
    → AllByRecursion P (reworded t word ps)
all_reworded P t word [] f h = tt
all_reworded P t word (p ∷ ps) f h = (at (p.ticket == t), all_reworded P t word ps f h.1)
  where
    at : (b : Bool) → P (cond b (record p { word = word }) p)
    at true = f p h.0
    at false = h.0

pub PlacesRise-reworded : (t : ℕ) (word : List ℕ) (ps : List Place) → PlacesRise ps
    → PlacesRise (reworded t word ps)
PlacesRise-reworded t word [] h = tt
PlacesRise-reworded t word (p ∷ ps) h = (at (p.ticket == t), PlacesRise-reworded t word ps h.1)
  where
    behind : AllByRecursion (IsBefore p) (reworded t word ps)
    behind = all_reworded (IsBefore p) t word ps
        (λ q before. record { key = before.key; ticket = before.ticket }) h.0

    at : (b : Bool) → AllByRecursion (IsBefore (cond b (record p { word = word }) p))
        (reworded t word ps)
    at true = all_weaker (IsBefore p) (IsBefore (record p { word = word })) (reworded t word ps)
        (λ q before. record { key = before.key; ticket = before.ticket }) behind
    at false = behind

pub count-reworded : (t : ℕ) (word : List ℕ) (k : ℕ) (ps : List Place)
    → count_of (λ p. p.ticket == k) (reworded t word ps) ≡ count_of (λ p. p.ticket == k) ps
count-reworded t word k [] = refl
count-reworded t word k (p ∷ ps) = at (p.ticket == t) (count-reworded t word k ps)
  where
    at : (b : Bool) → count_of (λ p. p.ticket == k) (reworded t word ps)
        ≡ count_of (λ p. p.ticket == k) ps
        → count_of (λ p. p.ticket == k) (cond b (record p { word = word }) p ∷ reworded t word ps)
        ≡ count_of (λ p. p.ticket == k) (p ∷ ps)
    at true h = omega (arith, h)
    at false h = omega (arith, h)

pub length-reworded : (t : ℕ) (word : List ℕ) (ps : List Place)
    → length (reworded t word ps) ≡ length ps
length-reworded t word [] = refl
length-reworded t word (p ∷ ps) = ap suc (length-reworded t word ps)

-- ---- a new ticket

given_more : {X : Type 0} (ticket : X → ℕ) (last : ℕ) (xs : List X)
    → AllByRecursion (λ x. (0 < ticket x) × (ticket x ≤ last)) xs
    → AllByRecursion (λ x. (0 < ticket x) × (ticket x ≤ last + 1)) xs
given_more ticket last xs h =
    all_weaker (λ x. (0 < ticket x) × (ticket x ≤ last))
    (λ x. (0 < ticket x) × (ticket x ≤ last + 1)) xs (λ x k. (k.0, omega (arith, k.1))) h

-- no item has it yet
pub once_more : (s : State) → IsSound s → (t : ℕ) → cond (s.last + 1 == t) 1 0 + holders s t ≤ 1
once_more s sound t = at (s.last + 1 == t) refl
  where
    at : (b : Bool) → (s.last + 1 == t) ≡ b → cond b 1 0 + holders s t ≤ 1
    at true e =
        let above : s.last < t = omega (arith, eqb-true (s.last + 1) t e) in
        omega (
          arith,
          none_above (λ (p : Place). p.ticket) s.last t s.places sound.given above,
          none_above (λ (u : Stop). u.ticket) s.last t (stop_list s.routes) sound.given_stops above,
          none_above (λ (m : Mark). m.ticket) s.last t s.marks sound.given_marks above,
        )
    at false e = omega (arith, sound.once t)

-- ---- each call keeps a state sound

IsSound-after_place : (s : State) (key : ℕ) (word : List ℕ) → IsWord word → IsSound s
    → IsSound (after_place s key word)
IsSound-after_place s key word is_word sound =
    keeps_unless_refused IsSound s (placed s) _ sound (λ t e.
    let ticket = next_ticket-ok s (is_full_of_places s) t e in
    subst (λ n. IsSound (record s
    { last = n; places = put (record { ticket = n; key = key; word = word }) s.places }))
    (sym ticket.1) (more ticket.0))
  where
    new : Place
    new = record { ticket = s.last + 1; key = key; word = word }

    more : is_full_of_places s ≡ false
        → IsSound (record s { last = s.last + 1; places = put new s.places })
    more e =
        let less = leb-false s.rooms.places (length s.places) (left_false _ _ e) in
        record {
          given = all_put (λ p. (0 < p.ticket) × (p.ticket ≤ s.last + 1)) new s.places
              (omega arith, omega arith)
              (given_more (λ (p : Place). p.ticket) s.last s.places sound.given);
          given_stops = given_more (λ (t : Stop). t.ticket) s.last (stop_list s.routes)
              sound.given_stops;
          given_marks = given_more (λ (m : Mark). m.ticket) s.last s.marks sound.given_marks;
          once = λ t. omega (
            arith,
            once_more s sound t,
            count-put (λ p. p.ticket == t) new s.places,
          );
          order = PlacesRise-put new s.places
              (all_weaker (λ p. (0 < p.ticket) × (p.ticket ≤ s.last)) (λ p. p.ticket < s.last + 1)
              s.places (λ p given. omega (arith, given.1)) sound.given) sound.order;
          words = all_put (λ p. IsWord p.word) new s.places is_word sound.words;
          routes = sound.routes;
          marks = sound.marks;
          fits = omega (arith, length-put new s.places, less);
          stops_fit = sound.stops_fit;
          marks_fit = sound.marks_fit;
        }

IsSound-after_word : (s : State) (t : ℕ) (word : List ℕ) → IsWord word → IsSound s
    → IsSound (after_word s t word)
IsSound-after_word s t word is_word sound =
    keeps_unless_refused IsSound s (place_holder s t) _ sound (λ p e. record {
      given = all_reworded (λ q. (0 < q.ticket) × (q.ticket ≤ s.last)) t word s.places (λ q h. h)
          sound.given;
      given_stops = sound.given_stops;
      given_marks = sound.given_marks;
      once = λ k. omega (arith, sound.once k, count-reworded t word k s.places);
      order = PlacesRise-reworded t word s.places sound.order;
      words = all_reworded (λ q. IsWord q.word) t word s.places (λ q h. is_word) sound.words;
      routes = sound.routes;
      marks = sound.marks;
      fits = rw (length-reworded t word s.places) sound.fits;
      stops_fit = sound.stops_fit;
      marks_fit = sound.marks_fit;
    })

-- a stop more, under the next ticket
pub record IsMore (s : State) (new : Stop) (routes : List Route) : Type 1 where
  pub written : AreWritten routes
  pub total : (weight : Stop → ℕ)
      → total weight (stop_list routes) ≤ weight new + total weight (stop_list s.routes)
  pub all : (P : Stop → Type 0) → P new → AllByRecursion P (stop_list s.routes)
      → AllByRecursion P (stop_list routes)

IsSound-more_stops : (s : State) (new : Stop) (routes : List Route) → new.ticket ≡ s.last + 1
    → is_full_of_stops s ≡ false → IsMore s new routes → IsSound s
    → IsSound (record s { last = s.last + 1; routes = routes })
IsSound-more_stops s new routes is room more sound =
    let less = leb-false s.rooms.stops (length (stop_list s.routes)) (left_false _ _ room) in
    record {
      given = given_more (λ (p : Place). p.ticket) s.last s.places sound.given;
      given_stops = more.all (λ t. (0 < t.ticket) × (t.ticket ≤ s.last + 1))
          (omega (arith, is), omega (arith, is))
          (given_more (λ (t : Stop). t.ticket) s.last (stop_list s.routes) sound.given_stops);
      given_marks = given_more (λ (m : Mark). m.ticket) s.last s.marks sound.given_marks;
      once = λ t. omega (
        arith,
        once_more s sound t,
        more.total (λ u. cond (has_ticket t u) 1 0),
        ap {B = ℕ} (λ n. cond (n == t) 1 0) is,
      );
      order = sound.order;
      words = sound.words;
      routes = more.written;
      marks = sound.marks;
      fits = sound.fits;
      stops_fit = omega (
        arith,
        less,
        more.total (λ u. 1),
        length-total (stop_list routes),
        length-total (stop_list s.routes),
      );
      marks_fit = sound.marks_fit;
    }

pub more_by_start : (s : State) (new : Stop) → new.ticket ≡ s.last + 1 → IsSound s
    → IsMore s new (s.routes ++ linear (new ∷ []) ∷ [])
more_by_start s new is sound = record {
  written = AreWritten-more s.last s.routes new sound.given_stops (omega (arith, is)) sound.routes;
  total = λ weight. omega (
    arith,
    ap (total weight) (stop_list-more s.routes new),
    total-append weight (stop_list s.routes) (new ∷ []),
  );
  all = λ P p h. subst (AllByRecursion P) (sym (stop_list-more s.routes new))
      (all_append P (stop_list s.routes) (new ∷ []) h (p, tt));
}

pub more_by_extend : (s : State) (t : ℕ) (new : Stop) → new.ticket ≡ s.last + 1 → IsSound s
    → IsMore s new (put_behind t new s.routes)
more_by_extend s t new is sound = record {
  written = AreWritten-put_behind s.last t new s.routes sound.given_stops (omega (arith, is))
      sound.routes;
  total = λ weight. total-put_behind weight t new s.routes (sound.routes.once t);
  all = λ P p h. all_put_behind P t new s.routes p h;
}

-- the same stops on other routes
pub record IsSame (s : State) (routes : List Route) : Type 1 where
  pub written : AreWritten routes
  pub total : (weight : Stop → ℕ)
      → total weight (stop_list routes) ≡ total weight (stop_list s.routes)
  pub all : (P : Stop → Type 0) → AllByRecursion P (stop_list s.routes)
      → AllByRecursion P (stop_list routes)

IsSound-same_stops : (s : State) (routes : List Route) → IsSame s routes → IsSound s
    → IsSound (record s { routes = routes })
IsSound-same_stops s routes same sound = record {
  given = sound.given;
  given_stops = same.all (λ t. (0 < t.ticket) × (t.ticket ≤ s.last)) sound.given_stops;
  given_marks = sound.given_marks;
  once = λ t. omega (arith, sound.once t, same.total (λ u. cond (has_ticket t u) 1 0));
  order = sound.order;
  words = sound.words;
  routes = same.written;
  marks = sound.marks;
  fits = sound.fits;
  stops_fit = omega (
    arith,
    sound.stops_fit,
    same.total (λ u. 1),
    length-total (stop_list routes),
    length-total (stop_list s.routes),
  );
  marks_fit = sound.marks_fit;
}

pub same_by_nothing : (s : State) → IsSound s → IsSame s s.routes
same_by_nothing s sound = record { written = sound.routes; total = λ weight. refl; all = λ P h. h }

pub same_by_cut : (s : State) (t : ℕ) (routes : List Route) → IsSame s routes
    → IsSame s (unlinked t routes)
same_by_cut s t routes same = record {
  written = AreWritten-unlinked t routes same.written;
  total = λ weight. total-unlinked weight t routes same.written ∙ same.total weight;
  all = λ P h. all_unlinked P t routes (same.all P h);
}

pub same_by_join : (s : State) (t u : ℕ) (routes : List Route) → IsSame s routes
    → IsSame s (linked t u routes)
same_by_join s t u routes same = record {
  written = AreWritten-linked t u routes same.written;
  total = λ weight. total-linked weight t u routes same.written ∙ same.total weight;
  all = λ P h. all_linked P t u routes (same.all P h);
}

pub same_by_swap : (s : State) (t u : ℕ) → IsSound s → IsSame s (exchanged t u s.routes)
same_by_swap s t u sound =
    exchanged_keeps (IsSame s) t u s.routes (same_by_cut s) (same_by_join s)
    (same_by_nothing s sound)

MarksRise-more : (last : ℕ) (new : Mark) (marks : List Mark)
    → AllByRecursion (λ m. (0 < m.ticket) × (m.ticket ≤ last)) marks → last < new.ticket
    → MarksRise marks → MarksRise (marks ++ new ∷ [])
MarksRise-more last new [] given above h = (tt, tt)
MarksRise-more last new (m ∷ marks) given above h = (
  all_append (λ n. m.ticket < n.ticket) marks (new ∷ []) h.0 (omega (arith, given.0.1, above), tt),
  MarksRise-more last new marks given.1 above h.1,
)

IsSound-after_start : (s : State) (at : ℕ) → IsSound s → IsSound (after_start s at)
IsSound-after_start s at sound = keeps_unless_refused IsSound s (started s at) _ sound (λ t e.
    let passed = and_then-ok (place_holder s at) _ t e in
    let ticket = next_ticket-ok s (is_full_of_stops s) t passed.2 in
    let new : Stop = record { ticket = t; place = Some at } in
    subst (λ n. IsSound (record s { last = n; routes = s.routes ++ linear (new ∷ []) ∷ [] }))
    (sym ticket.1)
    (IsSound-more_stops s new (s.routes ++ linear (new ∷ []) ∷ []) ticket.1 ticket.0
    (more_by_start s new ticket.1 sound) sound))

IsSound-after_extend : (s : State) (t at : ℕ) → IsSound s → IsSound (after_extend s t at)
IsSound-after_extend s t at sound = keeps_unless_refused IsSound s (extended s t at) _ sound (λ n e.
    let first = and_then-ok (stop_holder s t) _ n e in
    let second = and_then-ok (place_holder s at) _ n first.2 in
    let ticket = next_ticket-ok s (is_full_of_stops s) n second.2 in
    let new : Stop = record { ticket = n; place = Some at } in
    subst (λ m. IsSound (record s { last = m; routes = put_behind t new s.routes })) (sym ticket.1)
    (IsSound-more_stops s new (put_behind t new s.routes) ticket.1 ticket.0
    (more_by_extend s t new ticket.1 sound) sound))

IsSound-after_join : (s : State) (t u : ℕ) → IsSound s → IsSound (after_join s t u)
IsSound-after_join s t u sound =
    keeps_unless_refused IsSound s (joined s t u) _ sound
    (λ ok e. IsSound-same_stops s (linked t u s.routes)
    (same_by_join s t u s.routes (same_by_nothing s sound)) sound)

IsSound-after_cut : (s : State) (t : ℕ) → IsSound s → IsSound (after_cut s t)
IsSound-after_cut s t sound =
    keeps_unless_refused IsSound s (parted s t) _ sound
    (λ ok e. IsSound-same_stops s (unlinked t s.routes)
    (same_by_cut s t s.routes (same_by_nothing s sound)) sound)

IsSound-after_swap : (s : State) (t u : ℕ) → IsSound s → IsSound (after_swap s t u)
IsSound-after_swap s t u sound =
    keeps_unless_refused IsSound s (swapped s t u) _ sound
    (λ ok e. IsSound-same_stops s (exchanged t u s.routes) (same_by_swap s t u sound) sound)

IsSound-after_mark : (s : State) (at t : ℕ) → IsSound s → IsSound (after_mark s at t)
IsSound-after_mark s at t sound = keeps_unless_refused IsSound s (marked s at t) _ sound (λ n e.
    let first = and_then-ok (place_holder s at) _ n e in
    let second = and_then-ok (stop_holder s t) _ n first.2 in
    let ticket = next_ticket-ok s (is_full_of_marks s) n second.2 in
    let new : Mark = record { ticket = n; place = Some at; stop = Some t } in
    subst (λ m. IsSound (record s { last = m; marks = s.marks ++ new ∷ [] })) (sym ticket.1)
    (more new ticket.0 ticket.1))
  where
    more : (new : Mark) → is_full_of_marks s ≡ false → new.ticket ≡ s.last + 1
        → IsSound (record s { last = s.last + 1; marks = s.marks ++ new ∷ [] })
    more new room is =
        let less = leb-false s.rooms.marks (length s.marks) (left_false _ _ room) in
        record {
          given = given_more (λ (p : Place). p.ticket) s.last s.places sound.given;
          given_stops = given_more (λ (u : Stop). u.ticket) s.last (stop_list s.routes)
              sound.given_stops;
          given_marks = all_append (λ m. (0 < m.ticket) × (m.ticket ≤ s.last + 1)) s.marks
              (new ∷ []) (given_more (λ (m : Mark). m.ticket) s.last s.marks sound.given_marks)
              ((omega (arith, is), omega (arith, is)), tt);
          once = λ u. omega (
            arith,
            once_more s sound u,
            total-append (λ (m : Mark). cond (m.ticket == u) 1 0) s.marks (new ∷ []),
            ap {B = ℕ} (λ k. cond (k == u) 1 0) is,
          );
          order = sound.order;
          words = sound.words;
          routes = sound.routes;
          marks = MarksRise-more s.last new s.marks sound.given_marks (omega (arith, is))
              sound.marks;
          fits = sound.fits;
          stops_fit = sound.stops_fit;
          marks_fit = omega (arith, less, length-append s.marks (new ∷ []));
        }

-- ---- removals

IsSound-without_place : (s : State) (t : ℕ) → IsSound s → IsSound (without_place s t)
IsSound-without_place s t sound = record {
  given = all_filter (λ p. (0 < p.ticket) × (p.ticket ≤ s.last)) (λ p. not (p.ticket == t)) s.places
      sound.given;
  given_stops = all_cleared (λ u. (0 < u.ticket) × (u.ticket ≤ s.last))
      (λ u. (0 < u.ticket) × (u.ticket ≤ s.last)) t s.routes (λ u h. h) sound.given_stops;
  given_marks = all_map (λ m. (0 < m.ticket) × (m.ticket ≤ s.last))
      (λ m. (0 < m.ticket) × (m.ticket ≤ s.last)) (clear_mark t) s.marks (λ m h. h)
      sound.given_marks;
  once = λ k. omega (
    arith,
    sound.once k,
    total-filter (λ (p : Place). cond (p.ticket == k) 1 0) (λ p. p.ticket == t) s.places,
    total-cleared (λ u. cond (has_ticket k u) 1 0) t s.routes,
    total-map (λ (m : Mark). cond (m.ticket == k) 1 0) (clear_mark t) s.marks,
  );
  order = PlacesRise-filter (λ p. not (p.ticket == t)) s.places sound.order;
  words = all_filter (λ p. IsWord p.word) (λ p. not (p.ticket == t)) s.places sound.words;
  routes = AreWritten-cleared t s.routes sound.routes;
  marks = MarksRise-map (clear_mark t) s.marks (λ m. refl) sound.marks;
  fits = omega (arith, sound.fits, length-filter (λ (p : Place). p.ticket == t) s.places);
  stops_fit = omega (arith, sound.stops_fit, length-cleared t s.routes);
  marks_fit = omega (arith, sound.marks_fit, length-map s.marks (clear_mark t));
}

IsSound-without_stop : (s : State) (t : ℕ) → IsSound s → IsSound (without_stop s t)
IsSound-without_stop s t sound = record {
  given = sound.given;
  given_stops = all_taken_out (λ u. (0 < u.ticket) × (u.ticket ≤ s.last)) t s.routes
      sound.given_stops;
  given_marks = all_map (λ m. (0 < m.ticket) × (m.ticket ≤ s.last))
      (λ m. (0 < m.ticket) × (m.ticket ≤ s.last)) (clear_mark_stop t) s.marks (λ m h. h)
      sound.given_marks;
  once = λ k. omega (
    arith,
    sound.once k,
    total-taken_out (λ u. cond (has_ticket k u) 1 0) t s.routes sound.routes,
    total-map (λ (m : Mark). cond (m.ticket == k) 1 0) (clear_mark_stop t) s.marks,
  );
  order = sound.order;
  words = sound.words;
  routes = AreWritten-taken_out t s.routes sound.routes;
  marks = MarksRise-map (clear_mark_stop t) s.marks (λ m. refl) sound.marks;
  fits = sound.fits;
  stops_fit = omega (
    arith,
    sound.stops_fit,
    total-taken_out (λ u. 1) t s.routes sound.routes,
    length-total (stop_list (taken_out t s.routes)),
    length-total (stop_list s.routes),
  );
  marks_fit = omega (arith, sound.marks_fit, length-map s.marks (clear_mark_stop t));
}

IsSound-without_mark : (s : State) (t : ℕ) → IsSound s → IsSound (without_mark s t)
IsSound-without_mark s t sound = record {
  given = sound.given;
  given_stops = sound.given_stops;
  given_marks = all_filter (λ m. (0 < m.ticket) × (m.ticket ≤ s.last)) (λ m. not (m.ticket == t))
      s.marks sound.given_marks;
  once = λ k. omega (
    arith,
    sound.once k,
    total-filter (λ (m : Mark). cond (m.ticket == k) 1 0) (λ m. m.ticket == t) s.marks,
  );
  order = sound.order;
  words = sound.words;
  routes = sound.routes;
  marks = MarksRise-filter (λ m. not (m.ticket == t)) s.marks sound.marks;
  fits = sound.fits;
  stops_fit = sound.stops_fit;
  marks_fit = omega (arith, sound.marks_fit, length-filter (λ (m : Mark). m.ticket == t) s.marks);
}

-- what each removal keeps
pub keeps_removed : (Keeps : State → Type 0) (s : State) (t : ℕ) → Keeps s
    → Keeps (without_place s t) → Keeps (without_stop s t) → Keeps (without_mark s t)
    → Keeps (after_removed s t)
keeps_removed Keeps s t old no_place no_stop no_mark = at (holder s t) refl
  where
    at : (r : Result Item Refusal) → holder s t ≡ r → Keeps (after_removed s t)
    at (Ok (place p)) e = rw e no_place
    at (Ok (stop u)) e = rw e no_stop
    at (Ok (mark m)) e = rw e no_mark
    at (Err refusal) e = rw e old

IsSound-after_removed : (s : State) (t : ℕ) → IsSound s → IsSound (after_removed s t)
IsSound-after_removed s t sound =
    keeps_removed IsSound s t sound (IsSound-without_place s t sound)
    (IsSound-without_stop s t sound) (IsSound-without_mark s t sound)

IsSound-empty : (rooms : Rooms) (last : ℕ) → IsSound (empty rooms last)
IsSound-empty rooms last = record {
  given = tt;
  given_stops = tt;
  given_marks = tt;
  once = λ t. omega arith;
  order = tt;
  words = tt;
  routes = record { once = λ t. omega arith; each = tt; rise = tt };
  marks = tt;
  fits = omega arith;
  stops_fit = omega arith;
  marks_fit = omega arith;
}

pub IsSound-changed : (s : State) (change : Change) → IsPossible s change → IsSound s
    → IsSound (changed s change)
IsSound-changed s (Open places stops marks last) is sound = IsSound-empty _ last
IsSound-changed s (PlaceChange key word) is sound =
    IsSound-after_place s key word.now is.1 sound
IsSound-changed s (WordChange t word) is sound = IsSound-after_word s t word.now is sound
IsSound-changed s (Start at) is sound = IsSound-after_start s at sound
IsSound-changed s (Extend t at) is sound = IsSound-after_extend s t at sound
IsSound-changed s (Join t u) is sound = IsSound-after_join s t u sound
IsSound-changed s (Cut t) is sound = IsSound-after_cut s t sound
IsSound-changed s (Swap t u) is sound = IsSound-after_swap s t u sound
IsSound-changed s (MarkChange at t) is sound = IsSound-after_mark s at t sound
IsSound-changed s (Remove t) is sound = IsSound-after_removed s t sound
IsSound-changed s (Move places stops marks) is sound = record {
  given = sound.given;
  given_stops = sound.given_stops;
  given_marks = sound.given_marks;
  once = sound.once;
  order = sound.order;
  words = sound.words;
  routes = sound.routes;
  marks = sound.marks;
  fits = is.0;
  stops_fit = is.1.0;
  marks_fit = is.1.1;
}

-- ---- lines

-- a change that a line makes
abbrev pub GoesOn : Change → Type 0
GoesOn (Open places stops marks last) = ⊥
GoesOn (PlaceChange key word) = Unit {0}
GoesOn (WordChange t word) = Unit {0}
GoesOn (Start at) = Unit {0}
GoesOn (Extend t at) = Unit {0}
GoesOn (Join t u) = Unit {0}
GoesOn (Cut t) = Unit {0}
GoesOn (Swap t u) = Unit {0}
GoesOn (MarkChange at t) = Unit {0}
GoesOn (Remove t) = Unit {0}
GoesOn (Move places stops marks) = ⊥

-- what each possible change keeps that goes on, every line keeps
pub kept_by_lines : (Keeps : State → Type 0)
    → ((s : State) (change : Change) → IsPossible s change → GoesOn change → Keeps s
    → Keeps (changed s change))
    → (s : State) (lines : List Line) → Keeps s → Keeps (after_lines s lines)
kept_by_lines Keeps kept s [] keeps = keeps
kept_by_lines Keeps kept s (line ∷ lines) keeps =
    kept_by_lines Keeps kept (next s (command_in line)) lines (by_line line)
  where
    by_line : (line : Line) → Keeps (next s (command_in line))
    by_line (unended bytes) = keeps
    by_line (whole bytes) = at (command_of bytes) refl
      where
        at : (o : Option Command) → command_of bytes ≡ o → Keeps (next s o)
        at None e = keeps
        at (Some (PlaceLine key word None)) e = let spelled =
            command_of-found bytes (PlaceLine key word None) e in
            kept s (PlaceChange key (borrowed word)) (spelled.0, spelled.1) tt keeps
        at (Some (PlaceLine key word (Some near))) e =
            let spelled = command_of-found bytes (PlaceLine key word (Some near)) e in
            keeps_unless_refused Keeps s (place_holder s near) _ keeps
            (λ p passed. kept s (PlaceChange key (borrowed word)) (spelled.0, spelled.1) tt keeps)
        at (Some (WordLine t word)) e = let spelled = command_of-found bytes (WordLine t word) e in
            kept s (WordChange t (borrowed word)) spelled.1 tt keeps
        at (Some (Show ticket)) e = keeps
        at (Some (Find key)) e = keeps
        at (Some (Floor key)) e = keeps
        at (Some (After ticket)) e = keeps
        at (Some (Before ticket)) e = keeps
        at (Some All) e = keeps
        at (Some (RemoveLine t)) e = kept s (Remove t) tt tt keeps
        at (Some (StartLine at_place)) e = kept s (Start at_place) tt tt keeps
        at (Some (ExtendLine t at_place)) e = kept s (Extend t at_place) tt tt keeps
        at (Some (JoinLine t u)) e = kept s (Join t u) tt tt keeps
        at (Some (CutLine t)) e = kept s (Cut t) tt tt keeps
        at (Some (SwapLine t u)) e = kept s (Swap t u) tt tt keeps
        at (Some (Walk t)) e = keeps
        at (Some (MarkLine at_place t)) e = kept s (MarkChange at_place t) tt tt keeps
        at (Some Pack) e = keeps

pub IsSound-from_empty : (rooms : Rooms) (last : ℕ) (lines : List Line)
    → IsSound (after_lines (empty rooms last) lines)
IsSound-from_empty rooms last lines =
    kept_by_lines IsSound (λ s change is on sound. IsSound-changed s change is sound)
    (empty rooms last) lines (IsSound-empty rooms last)

-- A start and an extension at a living place are refused where there is no room, and for no other
-- reason.
use Rattle.std.proofs.Common.{◌≡◌, ◌∙◌, sym, ap, subst, refl, Bool, true, false, ◌||◌, ◌==◌, ℕ, ◌+◌}
use Rattle.std.proofs.Common.{◌≤◌, [], ◌∷◌, Some, None, IfErr, Result, Ok, Err, nat_lt, find, arith}
use Rattle.std.specs.Option.{option_or}
use Rattle.std.specs.Result.{IsErrAnd}
use Rattle.std.proofs.lemmas.Bool.{eq-eqb, le-ltb, ltb-false}
use Rattle.std.proofs.lemmas.List.Folds.{find-append}
use Rattle.route_lines.specs.Calls.{place_holder, stop_holder, and_then, next_ticket, started}
use Rattle.route_lines.specs.Calls.{after_start, extended, after_extend}
use Rattle.route_lines.specs.Routes.{has_ticket}
use Rattle.route_lines.specs.Sound.{IsSound}
use Rattle.route_lines.specs.State.{State, Place, Stop, place, place_of, stop_of, stop_list}
use Rattle.route_lines.specs.State.{is_full_of_stops}
use Rattle.route_lines.specs.declared.refusal.Refusal.{Refusal}
use Rattle.route_lines.specs.declared.refusal.Refusal.TheVariants.{Full}
use Rattle.route_lines.specs.CutLaws.{none_found}
use Rattle.route_lines.specs.NamedLaws.{names}
use Rattle.route_lines.specs.CutLaws.{none_above, stop_list-more}
use Rattle.route_lines.specs.CallLaws.{and_then-ok, next_ticket-ok, place_holder-ok}
use Rattle.promise_route_book_users.proofs.DispatchLemmas.{start-is, given-new, holder-place}
use Rattle.promise_route_book_users.proofs.DispatchLemmas.{holder-stop}

-- ---- a start and an extension

next-refused : (s : State) (full : Bool) (e : Refusal) → next_ticket s full ≡ Err e
    → (full ≡ true) × (e ≡ Full)
next-refused s true e h = (refl, cc)
next-refused s false e h = cc

pub start-refused : (s : State) (at : ℕ) (p : Place) (e : Refusal) → place_holder s at ≡ Ok p
    → started s at ≡ Err e
    → (e ≡ Full) × (is_full_of_stops (after_start s at) ≡ true)
start-refused s at p e is refused =
    let next : next_ticket s (is_full_of_stops s) ≡ Err e =
    ap (λ r. and_then r (λ (q : Place). next_ticket s (is_full_of_stops s))) (sym is)
    ∙ refused in
    let full = next-refused s (is_full_of_stops s) e next in
    (full.1, rw refused full.0)

pub extend-refused : (s : State) (t at : ℕ) (u : Stop) (p : Place) (e : Refusal)
    → stop_holder s t ≡ Ok u → place_holder s at ≡ Ok p → extended s t at ≡ Err e
    → (e ≡ Full) × (is_full_of_stops (after_extend s t at) ≡ true)
extend-refused s t at u p e holds is refused =
    let place : and_then (place_holder s at) (λ (q : Place). next_ticket s (is_full_of_stops s))
    ≡ Err e =
    ap (λ r. and_then r (λ (v : Stop). and_then (place_holder s at)
    (λ (q : Place). next_ticket s (is_full_of_stops s)))) (sym holds) ∙ refused in
    let next : next_ticket s (is_full_of_stops s) ≡ Err e =
    ap (λ r. and_then r (λ (q : Place). next_ticket s (is_full_of_stops s))) (sym is) ∙ place in
    let full = next-refused s (is_full_of_stops s) e next in
    (full.1, rw refused full.0)

-- a stop that was just put in is there
pub holds_start : (s later : State) (at n : ℕ) → IsSound s → started s at ≡ Ok n
    → later ≡ after_start s at → n ≡ s.last + 1
    → stop_holder later n ≡ Ok (record { ticket = n; place = Some at })
holds_start s later at n sound start is first =
    let new : Stop = record { ticket = n; place = Some at } in
    let made = is ∙ start-is s at n start in
    let given : (n == 0) || nat_lt later.last n ≡ false =
    given-new n later.last (omega (arith, first))
    (omega (arith, ap (λ (s : State). s.last) made)) in
    let no_place : place_of later.places n ≡ None =
    ap (λ (s : State). place_of s.places n) made
    ∙ none_found (λ p. p.ticket == n) s.places
    (none_above (λ (p : Place). p.ticket) s.last n s.places sound.given (omega (arith, first)))
    in
    let own : find (has_ticket n) (new ∷ []) ≡ Some new = rw (eq-eqb n n refl) refl in
    let none : find (has_ticket n) (stop_list s.routes) ≡ None =
    none_found (has_ticket n) (stop_list s.routes)
    (none_above (λ (u : Stop). u.ticket) s.last n (stop_list s.routes) sound.given_stops
    (omega (arith, first))) in
    let has : stop_of later.routes n ≡ Some new =
    ap (λ (s : State). stop_of s.routes n) made
    ∙ ap (find (has_ticket n)) (stop_list-more s.routes new)
    ∙ find-append (has_ticket n) (stop_list s.routes) (new ∷ [])
    ∙ ap (λ o. option_or o (find (has_ticket n) (new ∷ []))) none ∙ own in
    holder-stop later n new given no_place has

-- a place that a ticket names is there after a start
given-later : (t last more : ℕ) → (t == 0) || nat_lt last t ≡ false → last ≤ more
    → (t == 0) || nat_lt more t ≡ false
given-later t last more given up = by (t == 0) (nat_lt last t) refl refl given
  where
    by : (a b : Bool) → (t == 0) ≡ a → nat_lt last t ≡ b → a || b ≡ false
        → (t == 0) || nat_lt more t ≡ false
    by true b f g h = cc
    by false true f g h = cc
    by false false f g h = rw (f, le-ltb more t (omega (arith, ltb-false last t g, up))) refl

pub holds_later : (s later : State) (at n : ℕ) (p : Place) → place_holder s at ≡ Ok p
    → started s at ≡ Ok n → later ≡ after_start s at → place_holder later at ≡ Ok p
holds_later s later at n p holds start is =
    let made = is ∙ start-is s at n start in
    let has = names s at (place p) (place_holder-ok s at p holds) in
    let passed = and_then-ok (place_holder s at) _ n start in
    let next = next_ticket-ok s (is_full_of_stops s) n passed.2 in
    let last : later.last ≡ n = ap (λ (x : State). x.last) made in
    holder-place later at p
    (given-later at s.last later.last has.given (omega (arith, last, next.1)))
    (ap (λ (x : State). place_of x.places at) made ∙ has.has)

-- ---- what is handed on

pub handed_on : {T : Type 0} (r : Result T Refusal) (e : Refusal) (Q : Refusal → Type 0)
    → IsErrAnd r (λ x. x ≡ e) → Q e → IfErr r Q
handed_on (Ok t) e Q is q = tt
handed_on (Err x) e Q is q = subst Q (sym is) q

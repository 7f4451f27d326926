-- A place, and a route that a start and an extension made.
use Rattle.std.proofs.Common.{◌≡◌, ◌≢◌, ◌∙◌, ap, refl, Bool, true, false, ◌||◌, ◌==◌, ℕ, ◌+◌, ◌<◌}
use Rattle.std.proofs.Common.{◌≤◌, List, [], ◌∷◌, ◌++◌, Option, Some, None, Result, Ok, Err, cond}
use Rattle.std.proofs.Common.{nat_lt, arith}
use Rattle.std.specs.List.{AllByRecursion}
use Rattle.std.specs.Option.{option_map_or}
use Rattle.std.proofs.lemmas.Bool.{eq-eqb, ne_eqb, le-ltb}
use Rattle.route_lines.specs.Calls.{put, place_holder, stop_holder, placed, after_place, started}
use Rattle.route_lines.specs.Calls.{after_start, extended, after_extend, walked}
use Rattle.route_lines.specs.Routes.{has_ticket, linear, has_stop, route_of, put_behind, walk_in}
use Rattle.route_lines.specs.Routes.{walk_from}
use Rattle.route_lines.specs.Sound.{count_of, IsSound}
use Rattle.route_lines.specs.State.{State, Place, Stop, Route, stop, stop_list, place_of, stop_of}
use Rattle.route_lines.specs.State.{is_full_of_places}
use Rattle.route_lines.specs.declared.refusal.Refusal.{Refusal}
use Rattle.route_lines.specs.CutLaws.{total-append, none-count, none_found}
use Rattle.route_lines.specs.NamedLaws.{names, one_stop}
use Rattle.route_lines.specs.CutLaws.{none_above}
use Rattle.route_lines.specs.CallLaws.{and_then-ok, next_ticket-ok, stop_holder-ok}

-- ---- tickets

pub given-new : (n last : ℕ) → 0 < n → n ≤ last → (n == 0) || nat_lt last n ≡ false
given-new n last some below =
    rw (ne_eqb n 0 (λ e. omega (arith, e, some)), le-ltb last n below) refl

pub holder-place : (s : State) (t : ℕ) (p : Place) → (t == 0) || nat_lt s.last t ≡ false
    → place_of s.places t ≡ Some p → place_holder s t ≡ Ok p
holder-place s t p given has = rw (given, has) refl

-- ---- a new place

place_of-put : (new : Place) (ps : List Place) → AllByRecursion (λ q. q.ticket < new.ticket) ps
    → place_of (put new ps) new.ticket ≡ Some new
place_of-put new [] less = rw (eq-eqb new.ticket new.ticket refl) refl
place_of-put new (q ∷ ps) less = at (nat_lt new.key q.key) (place_of-put new ps less.1)
  where
    other : (q.ticket == new.ticket) ≡ false
    other = let below = less.0 in ne_eqb q.ticket new.ticket (λ same. omega (arith, below, same))

    at : (b : Bool) → place_of (put new ps) new.ticket ≡ Some new
        → place_of (cond b (new ∷ q ∷ ps) (q ∷ put new ps)) new.ticket ≡ Some new
    at true behind = rw (eq-eqb new.ticket new.ticket refl) refl
    at false behind = rw other behind

given_below : (last t : ℕ) (ps : List Place) → t ≡ last + 1
    → AllByRecursion (λ p. (0 < p.ticket) × (p.ticket ≤ last)) ps
    → AllByRecursion (λ q. q.ticket < t) ps
given_below last t [] is given = tt
given_below last t (p ∷ ps) is given =
    ((let up = given.0.1 in omega (arith, is, up)), given_below last t ps is given.1)

-- the same of a state that is the one after it
module _ (s later : State) (key : ℕ) (word : List ℕ) (t : ℕ) (sound : IsSound s)
    (placed_is : placed s ≡ Ok t) (after : later ≡ after_place s key word) where
  abbrev new : Place
  new = record { ticket = t; key = key; word = word }

  next : t ≡ s.last + 1
  next = (next_ticket-ok s (is_full_of_places s) t placed_is).1

  later_is : later ≡ record s { last = t; places = put new s.places }
  later_is = after ∙ rw placed_is refl

  pub place_there : place_of later.places t ≡ Some new
  place_there = ap (λ (x : State). place_of x.places t) later_is
      ∙ place_of-put new s.places (given_below s.last t s.places next sound.given)

  pub place_holds : place_holder later t ≡ Ok new
  place_holds =
      let last : later.last ≡ t = ap (λ (x : State). x.last) later_is in
      holder-place later t new (given-new t later.last (omega (arith, next)) (omega (arith, last)))
      place_there

-- a place changes no route
pub routes-placed : (s : State) (key : ℕ) (word : List ℕ)
    → (after_place s key word).routes ≡ s.routes
routes-placed s key word = at (placed s) refl
  where
    at : (r : Result ℕ Refusal) → placed s ≡ r → (after_place s key word).routes ≡ s.routes
    at (Ok t) e = rw e refl
    at (Err refusal) e = rw e refl

-- ---- the new route

module _ (n : ℕ) (o : Option ℕ) (new : Stop) where
  abbrev first : Stop
  first = record { ticket = n; place = o }

  route_of-new : (routes : List Route) → count_of (has_ticket n) (stop_list routes) ≡ 0
      → route_of (put_behind n new (routes ++ linear (first ∷ []) ∷ [])) n
      ≡ Some (linear (first ∷ new ∷ []))
  route_of-new [] fresh = rw (eq-eqb n n refl) (rw (eq-eqb n n refl) refl)
  route_of-new (r ∷ routes) fresh =
      let parts : count_of (has_ticket n) (stop_list (r ∷ routes))
      ≡ count_of (has_ticket n) r.stops + count_of (has_ticket n) (stop_list routes) =
      total-append (λ t. cond (has_ticket n t) 1 0) r.stops (stop_list routes) in
      let other : has_stop n r ≡ false =
      none-count (has_ticket n) r.stops (omega (arith, parts, fresh)) in
      rw other (rw other (route_of-new routes (omega (arith, parts, fresh))))

  walk_in-new : walk_in n (linear (first ∷ new ∷ [])) ≡ first ∷ new ∷ []
  walk_in-new = rw (eq-eqb n n refl) refl

  walk_from-new : (routes : List Route) → count_of (has_ticket n) (stop_list routes) ≡ 0
      → walk_from n (put_behind n new (routes ++ linear (first ∷ []) ∷ [])) ≡ first ∷ new ∷ []
  walk_from-new routes fresh = ap (λ r. option_map_or (walk_in n) r []) (route_of-new routes fresh)
      ∙ walk_in-new

-- ---- the states on the way

pub start-is : (s : State) (at n : ℕ) → started s at ≡ Ok n
    → after_start s at ≡ record s
    { last = n; routes = s.routes ++ linear (record { ticket = n; place = Some at } ∷ []) ∷ [] }
start-is s at n e = rw e refl

extend-is : (s : State) (t at n : ℕ) → extended s t at ≡ Ok n
    → after_extend s t at
    ≡ record s { last = n; routes = put_behind t (record { ticket = n; place = Some at }) s.routes }
extend-is s t at n e = rw e refl

-- a stop is what a ticket names that names no place
pub holder-stop : (s : State) (t : ℕ) (u : Stop) → (t == 0) || nat_lt s.last t ≡ false
    → place_of s.places t ≡ None → stop_of s.routes t ≡ Some u → stop_holder s t ≡ Ok u
holder-stop s t u given no_place has = rw (given, no_place, has) refl

module _ (s1 s2 s3 : State) (at n m : ℕ) (sound : IsSound s1) (later : IsSound s2)
    (start : started s1 at ≡ Ok n) (extend : extended s2 n at ≡ Ok m) where
  -- what the walk of the new route gives
  pub walked-new : s2 ≡ after_start s1 at → s3 ≡ after_extend s2 n at → n ≡ s1.last + 1
      → m ≡ s2.last + 1
      → ((k : ℕ) → k ≢ m → stop_of (after_extend s2 n at).routes k ≡ stop_of s2.routes k)
      → walked s3 n ≡ Ok (record { ticket = n; place = Some at } ∷ record
      { ticket = m; place = Some at } ∷ [])
  walked-new e2 e3 first_is second_is kept =
      let new : Stop = record { ticket = m; place = Some at } in
      let s2_is = e2 ∙ start-is s1 at n start in
      let s3_is = e3 ∙ extend-is s2 n at m extend in
      let routes : s3.routes
      ≡ put_behind n new (s1.routes ++ linear
      (record { ticket = n; place = Some at } ∷ []) ∷ []) =
      ap (λ (s : State). s.routes) s3_is ∙ ap (λ (s : State). put_behind n new s.routes) s2_is in
      let fresh : count_of (has_ticket n) (stop_list s1.routes) ≡ 0 =
      none_above (λ (t : Stop). t.ticket) s1.last n (stop_list s1.routes) sound.given_stops
      (omega (arith, first_is)) in
      let walk : walk_from n s3.routes ≡ record { ticket = n; place = Some at } ∷ new ∷ [] =
      ap (walk_from n) routes ∙ walk_from-new n (Some at) new s1.routes fresh in
      let passed = and_then-ok (stop_holder s2 n) _ m extend in
      let one = one_stop s2 n passed.0 later (stop_holder-ok s2 n passed.0 passed.1) in
      let has = names s2 n (stop passed.0) (stop_holder-ok s2 n passed.0 passed.1) in
      let no_place : place_of s3.places n ≡ None =
      ap (λ (s : State). place_of s.places n) s3_is
      ∙ none_found (λ p. p.ticket == n) s2.places one.places in
      let given : (n == 0) || nat_lt s3.last n ≡ false =
      given-new n s3.last (omega (arith, first_is))
      (omega (
        arith,
        ap (λ (s : State). s.last) s3_is,
        ap (λ (s : State). s.last) s2_is,
        second_is,
      )) in
      let apart : n ≢ m = λ e. omega (arith, e, second_is, ap (λ (s : State). s.last) s2_is) in
      let holds : stop_holder s3 n ≡ Ok passed.0 =
      holder-stop s3 n passed.0 given no_place
      (ap (λ (s : State). stop_of s.routes n) e3 ∙ kept n apart ∙ has.has) in
      rw (holds, walk) refl

  -- neither call changes a place
  pub places-kept : s2 ≡ after_start s1 at → s3 ≡ after_extend s2 n at → s3.places ≡ s1.places
  places-kept e2 e3 = ap (λ (s : State). s.places) (e3 ∙ extend-is s2 n at m extend)
      ∙ ap (λ (s : State). s.places) (e2 ∙ start-is s1 at n start)

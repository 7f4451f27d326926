-- What a ticket names.
use Rattle.std.proofs.Common.{◌≡◌, subst, refl, Bool, true, false, ◌||◌, ◌==◌, ℕ}
use Rattle.std.proofs.Common.{Option, Some, None, Ok, Err, cond, nat_lt}
use Rattle.std.proofs.Common.{option_map, arith}
use Rattle.std.specs.Option.{option_or, ok_or}
use Rattle.route_lines.specs.Routes.{has_ticket}
use Rattle.route_lines.specs.Sound.{count_of, IsSound}
use Rattle.route_lines.specs.State.{State, Place, Stop, Mark, Item, place, stop, mark}
use Rattle.route_lines.specs.State.{stop_list, place_of, stop_of, mark_of, holder}
use Rattle.route_lines.specs.declared.refusal.Refusal.TheVariants.{Unknown, Gone}
use Rattle.route_lines.specs.CutLaws.{found_counted}

-- the list of its kind has the item
abbrev pub Has : State → ℕ → Item → Type 0
Has s t (place p) = place_of s.places t ≡ Some p
Has s t (stop u) = stop_of s.routes t ≡ Some u
Has s t (mark m) = mark_of s.marks t ≡ Some m

pub record Names (s : State) (t : ℕ) (item : Item) : Type 0 where
  pub given : (t == 0) || nat_lt s.last t ≡ false
  pub has : Has s t item

pub names : (s : State) (t : ℕ) (item : Item) → holder s t ≡ Ok item → Names s t item
names s t item e = at ((t == 0) || nat_lt s.last t) (place_of s.places t) (stop_of s.routes t)
    (mark_of s.marks t) refl refl refl refl e
  where
    at : (b : Bool) (p : Option Place) (u : Option Stop) (m : Option Mark)
        → (t == 0) || nat_lt s.last t ≡ b → place_of s.places t ≡ p → stop_of s.routes t ≡ u
        → mark_of s.marks t ≡ m
        → cond b (Err Unknown)
        (ok_or (option_or (option_map place p)
        (option_or (option_map stop u) (option_map mark m))) Gone) ≡ Ok item → Names s t item
    at true p u m fb fp fu fm h = cc
    at false (Some q) u m fb fp fu fm h = let is : place q ≡ item = cc in
        subst (Names s t) is (record { given = fb; has = fp })
    at false None (Some v) m fb fp fu fm h = let is : stop v ≡ item = cc in
        subst (Names s t) is (record { given = fb; has = fu })
    at false None None (Some n) fb fp fu fm h = let is : mark n ≡ item = cc in
        subst (Names s t) is (record { given = fb; has = fm })
    at false None None None fb fp fu fm h = cc

-- how many items of each kind the ticket names
pub record IsOne (s : State) (t place_count stop_count mark_count : ℕ) : Type 0 where
  pub given : (t == 0) || nat_lt s.last t ≡ false
  pub places : count_of (λ p. p.ticket == t) s.places ≡ place_count
  pub stops : count_of (has_ticket t) (stop_list s.routes) ≡ stop_count
  pub marks : count_of (λ m. m.ticket == t) s.marks ≡ mark_count

pub one_place : (s : State) (t : ℕ) (p : Place) → IsSound s → holder s t ≡ Ok (place p)
    → IsOne s t 1 0 0
one_place s t p sound e =
    let is = names s t (place p) e in
    let some = found_counted (λ p. p.ticket == t) s.places p is.has in
    let once = sound.once t in
    record {
      given = is.given;
      places = omega (arith, some, once);
      stops = omega (arith, some, once);
      marks = omega (arith, some, once);
    }

pub one_stop : (s : State) (t : ℕ) (u : Stop) → IsSound s → holder s t ≡ Ok (stop u)
    → IsOne s t 0 1 0
one_stop s t u sound e =
    let is = names s t (stop u) e in
    let some = found_counted (has_ticket t) (stop_list s.routes) u is.has in
    let once = sound.once t in
    record {
      given = is.given;
      places = omega (arith, some, once);
      stops = omega (arith, some, once);
      marks = omega (arith, some, once);
    }

pub one_mark : (s : State) (t : ℕ) (m : Mark) → IsSound s → holder s t ≡ Ok (mark m)
    → IsOne s t 0 0 1
one_mark s t m sound e =
    let is = names s t (mark m) e in
    let some = found_counted (λ m. m.ticket == t) s.marks m is.has in
    let once = sound.once t in
    record {
      given = is.given;
      places = omega (arith, some, once);
      stops = omega (arith, some, once);
      marks = omega (arith, some, once);
    }

-- The first place that has a key.
use Rattle.std.proofs.Common.{◌≡◌, ◌≢◌, subst, sym, refl, Bool, true, false, ◌==◌, ℕ, ◌≤◌, List, []}
use Rattle.std.proofs.Common.{◌∷◌, Option, Some, None, cond, option_map, arith}
use Rattle.std.specs.List.{AllByRecursion}
use Rattle.std.proofs.lemmas.Bool.{eqb-true, eqb-false}
use Rattle.route_lines.specs.Calls.{found}
use Rattle.route_lines.specs.Sound.{IsBefore, PlacesRise, IsSound}
use Rattle.route_lines.specs.State.{State, Place, with_key}
use Rattle.route_lines.specs.CutLaws.{all_weaker}

first_smallest : (key : ℕ) (ps : List Place) (p : Place) → PlacesRise ps → with_key key ps ≡ Some p
    → AllByRecursion (λ q. q.key ≡ key → p.ticket ≤ q.ticket) ps
first_smallest key [] p rise e = tt
first_smallest key (x ∷ ps) p rise e = at (x.key == key) refl e (first_smallest key ps p rise.1)
  where
    at : (b : Bool) → (x.key == key) ≡ b → cond b (Some x) (with_key key ps) ≡ Some p
        → (with_key key ps ≡ Some p → AllByRecursion (λ q. q.key ≡ key → p.ticket ≤ q.ticket) ps)
        → AllByRecursion (λ q. q.key ≡ key → p.ticket ≤ q.ticket) (x ∷ ps)
    at true is h behind =
        let first : x ≡ p = cc in
        let same = eqb-true x.key key is in
        subst (λ (y : Place). AllByRecursion (λ q. q.key ≡ key → y.ticket ≤ q.ticket) (x ∷ ps))
        first (
          (λ own. omega arith),
          all_weaker (IsBefore x)
              (λ q. q.key ≡ key → x.ticket ≤ q.ticket) ps
              (λ q later own. (let same_key : x.key ≡ q.key = omega (arith, same, own) in
              omega (arith, later.ticket same_key))) rise.0,
        )
    at false is h behind = ((λ own. absurd (eqb-false x.key key is own)), behind h)

none_has : (key : ℕ) (ps : List Place) → with_key key ps ≡ None
    → AllByRecursion (λ q. q.key ≢ key) ps
none_has key [] e = tt
none_has key (x ∷ ps) e = at (x.key == key) refl e (none_has key ps)
  where
    at : (b : Bool) → (x.key == key) ≡ b → cond b (Some x) (with_key key ps) ≡ None
        → (with_key key ps ≡ None → AllByRecursion (λ q. q.key ≢ key) ps)
        → AllByRecursion (λ q. q.key ≢ key) (x ∷ ps)
    at true is h behind = cc
    at false is h behind = (eqb-false x.key key is, behind h)

pub found_smallest : (s : State) (key t : ℕ) → IsSound s → found s key ≡ Some t
    → AllByRecursion (λ q. q.key ≡ key → t ≤ q.ticket) s.places
found_smallest s key t sound e = at (with_key key s.places) refl e
  where
    at : (o : Option Place) → with_key key s.places ≡ o → option_map (λ p. p.ticket) o ≡ Some t
        → AllByRecursion (λ q. q.key ≡ key → t ≤ q.ticket) s.places
    at None f h = cc
    at (Some p) f h = let is : p.ticket ≡ t = cc in
        rw (sym is) (first_smallest key s.places p sound.order f)

pub found_none : (s : State) (key : ℕ) → found s key ≡ None
    → AllByRecursion (λ q. q.key ≢ key) s.places
found_none s key e = at (with_key key s.places) refl e
  where
    at : (o : Option Place) → with_key key s.places ≡ o → option_map (λ p. p.ticket) o ≡ None
        → AllByRecursion (λ q. q.key ≢ key) s.places
    at None f h = none_has key s.places f
    at (Some p) f h = cc

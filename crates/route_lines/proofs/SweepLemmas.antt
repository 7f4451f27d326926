-- How many looks a list of calls makes: the removals so far pay for those that swept.
use Rattle.std.proofs.Common.{ap, ℕ, ◌+◌, ◌-◌, ◌*◌, ◌/◌, ◌≤◌, List, [], ◌∷◌, arith}
use Rattle.std.proofs.lemmas.Nat.{le-div}
use Rattle.route_lines.specs.Sweeps.{Tally, Step, EndPlace, EndStop, EndPlaceAfterPack}
use Rattle.route_lines.specs.Sweeps.{EndStopAfterPack, Pack, Other, AreFew, AreSteps, IsStep}
use Rattle.route_lines.specs.Sweeps.{is_pack, is_removal, packs, removals}

-- how many of the steps are removals that sweep
abbrev swept : Step → ℕ
swept EndPlace = 0
swept EndStop = 0
swept EndPlaceAfterPack = 1
swept EndStopAfterPack = 1
swept Pack = 0
swept Other = 0

abbrev all_swept : List Step → ℕ
all_swept [] = 0
all_swept (step ∷ steps) = swept step + all_swept steps

-- what the sweeps took of the removals so far, and what either counter has above 3, are at most
-- those removals
record IsPaid (top paid done : ℕ) (a : Tally) : Type 0 where
  places : paid + (a.places - 3) ≤ done
  stops : paid + (a.stops - 3) ≤ done
  places_up : a.places ≤ top
  stops_up : a.stops ≤ top

module _ (top most : ℕ) (three : 3 ≤ top) where
  -- how many removals a sweep takes
  abbrev d : ℕ
  d = top - 2

  -- one step pays on
  paid_on : (step : Step) (a b : Tally) (paid done : ℕ) → IsPaid top paid done a
      → IsStep top most step a b → IsPaid top (paid + swept step * d) (done + is_removal step) b
  paid_on EndPlace a b paid done p is = omega (arith, p, is, three)
  paid_on EndStop a b paid done p is = omega (arith, p, is, three)
  paid_on EndPlaceAfterPack a b paid done p is = omega (arith, p, is, three)
  paid_on EndStopAfterPack a b paid done p is = omega (arith, p, is, three)
  paid_on Pack a b paid done p is = omega (arith, p, is, three)
  paid_on Other a b paid done p is = omega (arith, p, is, three)

  -- and makes so many looks
  looks_on : (step : Step) (a b : Tally) → IsStep top most step a b
      → b.looks ≤ a.looks + (is_pack step + swept step) * most
  looks_on EndPlace a b is = omega (arith, is.1.1.1)
  looks_on EndStop a b is = omega (arith, is.1.1.1)
  looks_on EndPlaceAfterPack a b is = omega (arith, is.1.1.1)
  looks_on EndStopAfterPack a b is = omega (arith, is.1.1.1)
  looks_on Pack a b is = omega (arith, is.1.1)
  looks_on Other a b is = omega (arith, is.1.1)

  record Rest (steps : List Step) (a b : Tally) (paid done : ℕ) : Type 0 where
    paid_all : paid + all_swept steps * d ≤ done + removals steps
    looks_all : b.looks ≤ a.looks + (packs steps + all_swept steps) * most

  rest : (steps : List Step) (a b : Tally) (paid done : ℕ) → IsPaid top paid done a
      → AreSteps top most steps a b → Rest steps a b paid done
  rest [] a b paid done p run = omega (arith, p, ap (λ (x : Tally). x.looks) run)
  rest (step ∷ steps) a b paid done p run =
      let r = rest steps run.0 b _ _ (paid_on step a run.0 paid done p run.1.0) run.1.1 in
      let looks = looks_on step a run.0 run.1.0 in
      let pa = r.paid_all in let la = r.looks_all in
      record { paid_all = grind (arith, pa); looks_all = grind (arith, la, looks) }

pub are_few : AreFew
are_few top most steps a b three p q run =
    let r = rest top most three steps a b 0 0 (omega (arith, p, q, three)) run in
    let paid = r.paid_all in
    let few = le-div (all_swept steps) (removals steps) (top - 2) (omega (arith, three))
    (omega (arith, paid)) in
    let looks = r.looks_all in
    let more = times (packs steps + all_swept steps) (packs steps + removals steps / (top - 2)) most
    (omega (arith, few)) in
    omega (arith, looks, more)
  where
    times : (m n k : ℕ) → m ≤ n → m * k ≤ n * k
    times m n k h = grind (arith, h)

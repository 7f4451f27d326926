-- What it says of a state that a call is not refused.
use Rattle.std.proofs.Common.{◌≡◌, ◌≢◌, ◌∙◌, sym, ap, refl, Bool, true, false, ◌||◌, ◌==◌, ℕ}
use Rattle.std.proofs.Common.{◌+◌, ◌≤◌}
use Rattle.std.proofs.Common.{Result, Ok, Err, cond, nat_lt, arith}
use Rattle.std.specs.Option.{ok_or}
use Rattle.std.proofs.lemmas.Bool.{false≢true, eq-eqb, ltb-false}
use Rattle.route_lines.specs.State.{State, Place, Stop, Item, place, stop, mark}
use Rattle.route_lines.specs.State.{living, holder}
use Rattle.route_lines.specs.State.{last_ticket}
use Rattle.route_lines.specs.Calls.{place_holder, stop_holder, and_then, next_ticket}
use Rattle.route_lines.specs.Calls.{unless_refused}
use Rattle.route_lines.specs.Number.{IsNumber}
use Rattle.route_lines.specs.declared.refusal.Refusal.{Refusal}
use Rattle.route_lines.specs.declared.refusal.Refusal.TheVariants.{Unknown, Gone, Kind}

right_false : (a b : Bool) → (a || b) ≡ false → b ≡ false
right_false true b h = cc
right_false false b h = h

pub left_false : (a b : Bool) → (a || b) ≡ false → a ≡ false
left_false true b h = h
left_false false b h = refl

-- where there is room, there is a ticket
pub ticket_left : (last : ℕ) (is_full : Bool) → (is_full || (last == last_ticket)) ≡ false
    → IsNumber last → IsNumber (last + 1)
ticket_left last is_full room small =
    let left : last ≢ last_ticket =
    λ same. false≢true (sym (right_false is_full (last == last_ticket) room)
    ∙ eq-eqb last last_ticket same) in
    omega (arith, small, left)

pub next_ticket-ok : (s : State) (is_full : Bool) (t : ℕ) → next_ticket s is_full ≡ Ok t
    → (is_full ≡ false) × (t ≡ s.last + 1)
next_ticket-ok s true t e = cc
next_ticket-ok s false t e = (refl, cc)

pub and_then-ok : {X Y : Type 0} (r : Result X Refusal) (test : X → Result Y Refusal) (y : Y)
    → and_then r test ≡ Ok y → (x : X) × (r ≡ Ok x) × (test x ≡ Ok y)
and_then-ok (Ok x) test y e = (x, refl, e)
and_then-ok (Err refusal) test y e = cc

pub keeps_unless_refused : {X : Type 0} (Keeps : State → Type 0) (s : State) (r : Result X Refusal)
    (after : X → State) → Keeps s → ((x : X) → r ≡ Ok x → Keeps (after x))
    → Keeps (unless_refused s r after)
keeps_unless_refused Keeps s (Ok x) after old new = new x refl
keeps_unless_refused Keeps s (Err refusal) after old new = old

-- a ticket that has a holder was given
pub holder-given : (s : State) (t : ℕ) (x : Item) → holder s t ≡ Ok x → t ≤ s.last
holder-given s t x e = at (t == 0) (nat_lt s.last t) refl e
  where
    at : (a b : Bool) → nat_lt s.last t ≡ b
        → cond (a || b) (Err Unknown) (ok_or (living s t) Gone) ≡ Ok x → t ≤ s.last
    at true b is h = cc
    at false true is h = cc
    at false false is h = ltb-false s.last t is

pub place_holder-ok : (s : State) (t : ℕ) (p : Place) → place_holder s t ≡ Ok p
    → holder s t ≡ Ok (place p)
place_holder-ok s t p e = at (holder s t) refl
  where
    at : (r : Result Item Refusal) → holder s t ≡ r → holder s t ≡ Ok (place p)
    at (Ok (place q)) is = let kind : place_holder s t ≡ Ok q = rw is refl in let same : q ≡ p =
        cc in is ∙ ap (λ x. Ok (place x)) same
    at (Ok (stop q)) is = let kind : place_holder s t ≡ Err Kind = rw is refl in cc
    at (Ok (mark q)) is = let kind : place_holder s t ≡ Err Kind = rw is refl in cc
    at (Err refusal) is = let kind : place_holder s t ≡ Err refusal = rw is refl in cc

pub stop_holder-ok : (s : State) (t : ℕ) (u : Stop) → stop_holder s t ≡ Ok u
    → holder s t ≡ Ok (stop u)
stop_holder-ok s t u e = at (holder s t) refl
  where
    at : (r : Result Item Refusal) → holder s t ≡ r → holder s t ≡ Ok (stop u)
    at (Ok (place q)) is = let kind : stop_holder s t ≡ Err Kind = rw is refl in cc
    at (Ok (stop q)) is = let kind : stop_holder s t ≡ Ok q = rw is refl in let same : q ≡ u = cc in
        is ∙ ap (λ x. Ok (stop x)) same
    at (Ok (mark q)) is = let kind : stop_holder s t ≡ Err Kind = rw is refl in cc
    at (Err refusal) is = let kind : stop_holder s t ≡ Err refusal = rw is refl in cc

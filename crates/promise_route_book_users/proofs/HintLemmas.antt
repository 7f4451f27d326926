-- The last place as a hint for a greater key.
use Rattle.std.proofs.Common.{◌≡◌, ◌∙◌, sym, ap, subst, refl, true, ◌==◌, ℕ, suc, ◌+◌, ◌-◌}
use Rattle.std.proofs.Common.{◌≤◌, List, [], ◌∷◌, ◌++◌, length, nat_lt, Result, Ok, Err}
use Rattle.std.proofs.Common.{inl, inr, arith}
use Rattle.std.specs.List.{AllByRecursion}
use Rattle.std.proofs.lemmas.Bool.{and_from, or_left, or_right, eq-eqb, le-ltb, lt-ltb}
use Rattle.std.proofs.lemmas.Bool.Decides.{eqb_tells}
use Rattle.route_lines.specs.Calls.{placed_near}
use Rattle.route_lines.specs.Searches.{places_before, is_near, is_at_hand, most_from, most_near}
use Rattle.route_lines.specs.Sound.{IsBefore, IsSound, PlacesRise, count_of}
use Rattle.route_lines.specs.State.{State, Place}
use Rattle.route_lines.specs.declared.refusal.Refusal.{Refusal}
use Rattle.promise_route_book_users.specs.Placing.{IsLastUpTo}

-- all keys are up to one that the last is up to
keys_below : (front : List Place) (p : Place) (key : ℕ) → p.key ≤ key → PlacesRise (front ++ p ∷ [])
    → AllByRecursion (λ (q : Place). q.key ≤ key) (front ++ p ∷ [])
keys_below [] p key less rise = (less, tt)
keys_below (x ∷ front) p key less rise = (
  (let first = at front rise.0 in omega (arith, first, less)),
  keys_below front p key less rise.1,
)
  where
    at : (qs : List Place) → AllByRecursion (IsBefore x) (qs ++ p ∷ []) → x.key ≤ p.key
    at [] all = all.0.key
    at (q ∷ qs) all = at qs all.1

none_above : (ps : List Place) (key : ℕ) → AllByRecursion (λ (q : Place). q.key ≤ key) ps
    → places_before (λ q. nat_lt key q.key) ps ≡ length ps
none_above [] key all = refl
none_above (p ∷ ps) key all = let less = all.0 in
    rw (le-ltb key p.key (omega (arith, less))) (ap suc (none_above ps key all.1))

-- a ticket that one place has stands at its position
some_has : (front : List Place) (p : Place) (t : ℕ) → p.ticket ≡ t
    → 1 ≤ count_of (λ q. q.ticket == t) (front ++ p ∷ [])
some_has [] p t has = rw (eq-eqb p.ticket t has) (omega arith)
some_has (x ∷ front) p t has = let rest = some_has front p t has in omega (arith, rest)

stands_last : (front : List Place) (p : Place) (t : ℕ) → p.ticket ≡ t
    → count_of (λ q. q.ticket == t) (front ++ p ∷ []) ≤ 1
    → places_before (λ q. q.ticket == t) (front ++ p ∷ []) ≡ length front
stands_last [] p t has once = rw (eq-eqb p.ticket t has) refl
stands_last (x ∷ front) p t has once = elim (eqb_tells x.ticket t) [
  | inl same ↦
      let rest = some_has front p t has in
      let two : 1 + count_of (λ q. q.ticket == t) (front ++ p ∷ []) ≤ 1 = rw same.0 at once in
      absurd (omega (arith, rest, two))
  | inr other ↦
      let rest : 0 + count_of (λ q. q.ticket == t) (front ++ p ∷ []) ≤ 1 = rw other.0 at once in
      rw other.0 (ap suc (stands_last front p t has (omega (arith, rest))))
]

length_last : (front : List Place) (p : Place) → length (front ++ p ∷ []) ≡ suc (length front)
length_last [] p = refl
length_last (x ∷ front) p = ap suc (length_last front p)

near_self : (n : ℕ) → is_near n n ≡ true
near_self n = and_from (nat_lt n (n + 7)) (nat_lt n (n + 7)) (lt-ltb n (n + 7) (omega arith))
    (lt-ltb n (n + 7) (omega arith))

last_at_hand : (s : State) (t key : ℕ) → IsSound s → IsLastUpTo s t key
    → most_from s.places key t ≡ 7
last_at_hand s t key sound last =
    let ps = last.front ++ last.last ∷ [] in
    let below = keys_below last.front last.last key last.up_to
    (subst PlacesRise last.is sound.order) in
    let once = sound.once t in
    let own : count_of (λ (q : Place). q.ticket == t) ps ≤ 1 =
    subst (λ l. count_of (λ (q : Place). q.ticket == t) l ≤ 1) last.is (omega (arith, once)) in
    let from = stands_last last.front last.last t last.has own in
    let up_to : places_before (λ q. nat_lt key q.key) ps ≡ suc (length last.front) =
    none_above ps key below ∙ length_last last.front last.last in
    let n = length last.front in
    let near : is_near n (suc n - 1) ≡ true =
    subst (λ m. is_near n m ≡ true) (let same : n ≡ suc n - 1 = omega arith in same)
    (near_self n) in
    let hand : is_at_hand key ps (places_before (λ q. q.ticket == t) ps) ≡ true = and_from _ _
    (or_right _ _ (subst (λ m. is_near m (places_before (λ q. nat_lt key q.key) ps - 1) ≡ true)
    (sym from) (subst (λ m. is_near n (m - 1) ≡ true) (sym up_to) near)))
    (or_left _ _ (eq-eqb (places_before (λ q. nat_lt key q.key) ps) (length ps)
    (none_above ps key below))) in
    ap (λ l. most_from l key t) last.is ∙ (let is : most_from ps key t ≡ 7 = rw hand refl in is)

pub last_is_near : (s : State) (t key : ℕ) → IsSound s → IsLastUpTo s t key → most_near s key t ≤ 7
last_is_near s t key sound last = by (placed_near s t) refl
  where
    by : (r : Result ℕ Refusal) → placed_near s t ≡ r → most_near s key t ≤ 7
    by (Ok n) is = rw is (let seven = last_at_hand s t key sound last in omega (arith, seven))
    by (Err refusal) is = rw is (omega arith)

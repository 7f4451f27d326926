-- What a refused call leaves, and which ticket a call gives.
use Rattle.std.proofs.Common.{◌≡◌, refl, ℕ, ◌+◌, List, Result, Ok, Err}
use Rattle.route_lines.specs.Calls.{place_holder, stop_holder, placed, after_place, worded}
use Rattle.route_lines.specs.Calls.{after_word, started, after_start, extended, after_extend}
use Rattle.route_lines.specs.Calls.{marked, after_mark, removed, after_removed}
use Rattle.route_lines.specs.State.{State, Place, Item, holder, is_full_of_places, is_full_of_stops}
use Rattle.route_lines.specs.State.{is_full_of_marks}
use Rattle.route_lines.specs.declared.refusal.Refusal.{Refusal}
use Rattle.route_lines.specs.CallLaws.{and_then-ok, next_ticket-ok}

pub word-refused : (s : State) (t : ℕ) (word : List ℕ) (refusal : Refusal)
    → worded s t ≡ Err refusal → after_word s t word ≡ s
word-refused s t word refusal e = by (place_holder s t) refl
  where
    by : (r : Result Place Refusal) → place_holder s t ≡ r → after_word s t word ≡ s
    by (Ok p) f = let done : worded s t ≡ Ok p.word = rw f refl in cc
    by (Err other) f = rw f refl

pub remove-refused : (s : State) (t : ℕ) (refusal : Refusal) → removed s t ≡ Err refusal
    → after_removed s t ≡ s
remove-refused s t refusal e = by (holder s t) refl
  where
    by : (r : Result Item Refusal) → holder s t ≡ r → after_removed s t ≡ s
    by (Ok item) f = let done : removed s t ≡ Ok tt = rw f refl in cc
    by (Err other) f = rw f refl

pub place-new : (s : State) (key ticket : ℕ) (word : List ℕ) → placed s ≡ Ok ticket
    → (ticket ≡ s.last + 1) × ((after_place s key word).last ≡ ticket)
place-new s key ticket word e = ((next_ticket-ok s (is_full_of_places s) ticket e).1, rw e refl)

pub start-new : (s : State) (at ticket : ℕ) → started s at ≡ Ok ticket
    → (ticket ≡ s.last + 1) × ((after_start s at).last ≡ ticket)
start-new s at ticket e =
    let first = and_then-ok (place_holder s at) _ ticket e in
    ((next_ticket-ok s (is_full_of_stops s) ticket first.2).1, rw e refl)

pub extend-new : (s : State) (t at ticket : ℕ) → extended s t at ≡ Ok ticket
    → (ticket ≡ s.last + 1) × ((after_extend s t at).last ≡ ticket)
extend-new s t at ticket e =
    let first = and_then-ok (stop_holder s t) _ ticket e in
    let second = and_then-ok (place_holder s at) _ ticket first.2 in
    ((next_ticket-ok s (is_full_of_stops s) ticket second.2).1, rw e refl)

pub mark-new : (s : State) (at t ticket : ℕ) → marked s at t ≡ Ok ticket
    → (ticket ≡ s.last + 1) × ((after_mark s at t).last ≡ ticket)
mark-new s at t ticket e =
    let first = and_then-ok (place_holder s at) _ ticket e in
    let second = and_then-ok (stop_holder s t) _ ticket first.2 in
    ((next_ticket-ok s (is_full_of_marks s) ticket second.2).1, rw e refl)

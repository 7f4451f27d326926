-- What one item less, of any of the three kinds, makes of what is held. References are left alone:
-- those to the item find nothing from then on.
use Rattle.std.proofs.Common.{◌≡◌, ◌≢◌, ◌∙◌, sym, ap, subst, refl, Bool, true, false, ◌==◌}
use Rattle.std.proofs.Common.{if◌then◌else◌, ℕ, ◌+◌, ◌≤◌, List, [], ◌∷◌, length, Option, Some, None}
use Rattle.std.proofs.Common.{IsSome, arith, inl, inr}
use Rattle.std.specs.Option.{option_map}
use Rattle.std.proofs.lemmas.Bool.{ne_eqb, eq-eqb}
use Rattle.std.proofs.lemmas.Bool.Decides.{eqb_tells}
use Rattle.triple_arena.specs.Entries.{value_if, without}
use Rattle.linked_lists.specs.LinkedLists.{Ends}
use Rattle.ticket_book.specs.declared.entry.Kind.{Kind}
use Rattle.ticket_book.specs.Tickets.{Entry, lookup, without_ticket}
use Rattle.route_lines.specs.Calls.{unless_is}
use Rattle.route_lines.specs.State.{State, Place, Stop, Mark, place_of, stop_of, mark_of}
use Rattle.route_book.specs.Holds.{Found, found_by, place_under, stop_under, mark_under, place_at}
use Rattle.route_book.specs.Holds.{stop_at, mark_at, HasItem, Rise, IsHeld, entry}
use Rattle.route_book.proofs.HoldLemmas.{booked_once}
use Rattle.route_book.proofs.OptionLemmas.{some_same, stands_under}

-- ---- the book without a ticket

pub lookup_without : (t u : ℕ) (book : List Entry)
    → lookup (without_ticket t book) u ≡ (if u == t then None else lookup book u)
lookup_without t u [] = by (u == t)
  where
    by : (b : Bool) → ◌≡◌ {A = Option Entry} None (if b then None else None)
    by true = refl
    by false = refl
lookup_without t u (e ∷ book) = elim (eqb_tells e.ticket t) [
  | inl same ↦ rw same.0 (lookup_without t u book ∙ gone same.1)
  | inr other ↦ rw other.0 (kept other.1 (lookup_without t u book))
]
  where
    gone : e.ticket ≡ t → (if u == t then None else lookup book u)
        ≡ (if u == t then None else lookup (e ∷ book) u)
    gone same = elim (eqb_tells u t) [
      | inl at ↦ rw at.0 refl
      | inr apart ↦ rw (apart.0, ne_eqb e.ticket u (λ is. apart.1 (sym is ∙ same))) refl
    ]

    kept : e.ticket ≢ t → lookup (without_ticket t book) u
        ≡ (if u == t then None else lookup book u)
        → lookup (e ∷ without_ticket t book) u ≡ (if u == t then None else lookup (e ∷ book) u)
    kept other rest = elim (eqb_tells e.ticket u) [
      | inl at ↦ rw (at.0, ne_eqb u t (λ is. other (at.1 ∙ is))) refl
      | inr apart ↦ rw apart.0 rest
    ]

lower : (book : List Entry) (low low' last : ℕ) → low' ≤ low → Rise low book last
    → Rise low' book last
lower [] low low' last h rise = omega (arith, h, rise)
lower (e ∷ book) low low' last h rise = (let r = rise.0 in omega (arith, h, r), rise.1)

pub rise_without : (t : ℕ) (book : List Entry) (low last : ℕ) → Rise low book last
    → Rise low (without_ticket t book) last
rise_without t [] low last rise = rise
rise_without t (e ∷ book) low last rise = elim (eqb_tells e.ticket t) [
  | inl same ↦ rw same.0
      (let r = rise.0 in lower (without_ticket t book) e.ticket low last (omega (arith, r))
      (rise_without t book e.ticket last rise.1))
  | inr other ↦ rw other.0 (rise.0, rise_without t book e.ticket last rise.1)
]

length_all : (t : ℕ) (book : List Entry) (low last : ℕ) → t ≤ low → Rise low book last
    → length (without_ticket t book) ≡ length book
length_all t [] low last below rise = refl
length_all t (e ∷ book) low last below rise =
    let r = rise.0 in
    let rest = length_all t book e.ticket last (omega (arith, r, below)) rise.1 in
    rw (ne_eqb e.ticket t (λ same. omega (arith, same, r, below))) (omega (arith, rest))

pub length_without : (t : ℕ) (book : List Entry) (low last : ℕ) (e : Entry) → Rise low book last
    → lookup book t ≡ Some e → length (without_ticket t book) + 1 ≡ length book
length_without t [] low last e rise is =
    absurd (let no : ◌≡◌ {A = Option Entry} None (Some e) = is in cc)
length_without t (x ∷ book) low last e rise is = elim (eqb_tells x.ticket t) [
  | inl same ↦
      let at = same.1 in
      let rest = length_all t book x.ticket last (omega (arith, at)) rise.1 in
      rw same.0 (omega (arith, rest))
  | inr other ↦
      let skip : lookup (x ∷ book) t ≡ lookup book t = rw other.0 refl in
      let rest = length_without t book x.ticket last e rise.1 (sym skip ∙ is) in
      rw other.0 (omega (arith, rest))
]

-- ---- what a reference names

-- an item less among those at the indexes, each of which the book has under its ticket: a reference
-- names what it named, unless it was that one
module _ {T : Type 0} (ticket : T → ℕ) (kind : Kind) (at at' : ℕ → Option (ℕ × T)) (i g : ℕ) (x : T)
    (stood : at i ≡ Some (g, x)) (entries : (k : ℕ) → at' k ≡ without at i k) (book : List Entry)
    (known : (j n : ℕ) (y : T) → at j ≡ Some (n, y)
    → lookup book (ticket y) ≡ Some (entry (ticket y) kind j n)) where
  pub own : (j n : ℕ) (y : T) → at j ≡ Some (n, y) → ticket y ≡ ticket x → j ≡ i
  own j n y is = booked_once ticket kind at book known j i n g y x is stood

  pub there : (k : ℕ) → k ≢ i → at' k ≡ at k
  there k other = entries k ∙ rw (ne_eqb k i other) refl

  pub gone : at' i ≡ None
  gone = entries i ∙ rw (eq-eqb i i refl) refl

  pub unnamed : (r : Option (ℕ × ℕ))
      → option_map ticket (found_by at' r)
      ≡ unless_is (ticket x) (option_map ticket (found_by at r))
  unnamed None = refl
  unnamed (Some q) = elim (eqb_tells q.0 i) [
    | inl same ↦
        let here : at q.0 ≡ Some (g, x) = ap at same.1 ∙ stood in
        let none : at' q.0 ≡ None = ap at' same.1 ∙ gone in
        ap (λ o. option_map ticket (value_if q.1 o)) none
        ∙ by_own (g == q.1)
        ∙ sym (ap (λ o. unless_is (ticket x) (option_map ticket (value_if q.1 o))) here)
    | inr other ↦ ap (λ o. option_map ticket (value_if q.1 o)) (there q.0 other.1)
        ∙ by_other other.1 (at q.0) refl
  ]
    where
      by_own : (b : Bool) → ◌≡◌ {A = Option ℕ} None
          (unless_is (ticket x) (option_map ticket (if b then Some x else None)))
      by_own false = refl
      by_own true = rw (eq-eqb (ticket x) (ticket x) refl) refl

      by_other : q.0 ≢ i → (o : Option (ℕ × T)) → at q.0 ≡ o
          → option_map ticket (value_if q.1 o)
          ≡ unless_is (ticket x) (option_map ticket (value_if q.1 o))
      by_other other None is = refl
      by_other other (Some y) is = by_test (y.0 == q.1)
        where
          by_test : (b : Bool) → option_map ticket (if b then Some y.1 else None)
              ≡ unless_is (ticket x) (option_map ticket (if b then Some y.1 else None))
          by_test false = refl
          by_test true = rw (ne_eqb (ticket y.1) (ticket x)
              (λ same. other (own q.0 y.0 y.1 is same))) refl

  -- an item that is left stood there, and its ticket is another one
  pub was_other : (j k : ℕ) (y : T) → at' j ≡ Some (k, y)
      → (at j ≡ Some (k, y)) × (ticket y ≢ ticket x)
  was_other j k y is = elim (eqb_tells j i) [
    | inl same ↦ absurd (let no : ◌≡◌ {A = Option (ℕ × T)} None (Some (k, y)) = sym gone
        ∙ ap at' (sym same.1) ∙ is in cc)
    | inr other ↦
        let was : at j ≡ Some (k, y) = sym (there j other.1) ∙ is in
        (was, λ same. other.1 (own j k y was same))
  ]

  -- the items but this one are as they were
  pub others_stay : (k h : ℕ) (y : T) → at k ≡ Some (h, y) → ticket y ≢ ticket x
      → at' k ≡ Some (h, y)
  others_stay k h y is other =
      there k (λ same. other
      (ap ticket (ap (λ (z : ℕ × T). z.1) (some_same (sym is ∙ ap at same ∙ stood))))) ∙ is

pub each_mapped : {V S : Type 0} (c : S → S) (a b : V → S) → ((v : V) → a v ≡ c (b v))
    → (o : Option V) → option_map a o ≡ option_map c (option_map b o)
each_mapped c a b same None = refl
each_mapped c a b same (Some v) = ap Some (same v)

-- a fact for each ticket, where the one that ends has none
none_there : {X : Type 0} (t : ℕ) (a b : ℕ → Option X) → ((u : ℕ) → a u ≡ b u) → b t ≡ None
    → (u : ℕ) → a u ≡ (if u == t then None else b u)
none_there t a b same none u = elim (eqb_tells u t) [
  | inl at ↦ same u ∙ ap b at.1 ∙ none ∙ rw at.0 refl
  | inr other ↦ same u ∙ rw other.0 refl
]

-- ---- what is held, but for one item

-- what an entry of the book finds is what it found, cleared of references to the item that ends
pub record IsKept (f now : Found) (on_stop : Option Stop → Option Stop)
    (on_mark : Option Mark → Option Mark) (k : Kind) (j n : ℕ) : Type 0 where
  pub place : place_under now k j n ≡ place_under f k j n
  pub stop : stop_under now k j n ≡ on_stop (stop_under f k j n)
  pub mark : mark_under now k j n ≡ on_mark (mark_under f k j n)
  pub filled : HasItem now k j n

-- the shorter book, `left`: it lacks the ticket of the item that ends
pub record Shrinks {V : Type 0} (τ : V → ℕ) (kind : Kind) (s : State) (f now : Found)
    (book left : List Entry) (was at : ℕ → Option (ℕ × V)) (i g t : ℕ)
    (on_stop : Option Stop → Option Stop) (on_mark : Option Mark → Option Mark) : Type 0 where
  pub rise : (last : ℕ) → last ≡ s.last → Rise 0 left last
  pub filled : (u : ℕ) (e : Entry) → lookup left u ≡ Some e
      → HasItem now e.kind e.index e.generation
  -- an item that is left stood there
  pub stood : (j n : ℕ) (w : V) → at j ≡ Some (n, w) → was j ≡ Some (n, w)
  pub items : (j n : ℕ) (w : V) → at j ≡ Some (n, w)
      → lookup left (τ w) ≡ Some (entry (τ w) kind j n)
  pub others : (k : Kind) → (k ≡ kind → ⊥) → (u j n : ℕ) → lookup book u ≡ Some (entry u k j n)
      → lookup left u ≡ Some (entry u k j n)
  -- what a state has by ticket, with nothing under the one that ends
  pub places : (value : ℕ → Option Place)
      → ((u : ℕ) → value u ≡ (if u == t then None else place_of s.places u))
      → (u : ℕ) → value u ≡ place_at now (lookup left u)
  pub stops : (value : ℕ → Option Stop)
      → ((u : ℕ) → value u ≡ (if u == t then None else on_stop (stop_of s.routes u)))
      → (u : ℕ) → value u ≡ stop_at now (lookup left u)
  pub marks : (value : ℕ → Option Mark)
      → ((u : ℕ) → value u ≡ (if u == t then None else on_mark (mark_of s.marks u)))
      → (u : ℕ) → value u ≡ mark_at now (lookup left u)
  -- and of the other kinds, which had nothing there
  pub places_kept : place_under f kind i g ≡ None → (value : ℕ → Option Place)
      → ((u : ℕ) → value u ≡ place_of s.places u) → (u : ℕ)
      → value u ≡ place_at now (lookup left u)
  pub stops_kept : stop_under f kind i g ≡ None → (value : ℕ → Option Stop)
      → ((u : ℕ) → value u ≡ on_stop (stop_of s.routes u)) → (u : ℕ)
      → value u ≡ stop_at now (lookup left u)
  pub marks_kept : mark_under f kind i g ≡ None → (value : ℕ → Option Mark)
      → ((u : ℕ) → value u ≡ on_mark (mark_of s.marks u)) → (u : ℕ)
      → value u ≡ mark_at now (lookup left u)

module _ (V : Type 0) (τ : V → ℕ) (kind : Kind) (s : State) (f now : Found) (order : List Place)
    (ends : ℕ → Option Ends) (book : List Entry) (h : IsHeld s f order ends book)
    (was at : ℕ → Option (ℕ × V)) (i g : ℕ) (v : V) (stood : was i ≡ Some (g, v))
    (entries : (k : ℕ) → at k ≡ without was i k)
    (known : (j n : ℕ) (w : V) → was j ≡ Some (n, w)
    → lookup book (τ w) ≡ Some (entry (τ w) kind j n))
    (filled_is : (j n : ℕ) → HasItem f kind j n → IsSome (value_if n (was j)))
    (ticket_is : (u : ℕ) (e : Entry) (w : V) → lookup book u ≡ Some e → e.kind ≡ kind
    → value_if e.generation (was e.index) ≡ Some w → τ w ≡ u)
    (on_stop : Option Stop → Option Stop) (on_mark : Option Mark → Option Mark)
    (no_stop : on_stop None ≡ None) (no_mark : on_mark None ≡ None)
    (kept : (k : Kind) (j n : ℕ) → HasItem f k j n → (k ≡ kind → at j ≡ was j)
    → IsKept f now on_stop on_mark k j n) where
  abbrev t : ℕ
  t = τ v

  abbrev left : List Entry
  left = without_ticket t book

  booked : lookup book t ≡ Some (entry t kind i g)
  booked = known i g v stood

  other_ticket : (u : ℕ) (e : Entry) → lookup book u ≡ Some e → u ≢ t → lookup left u ≡ Some e
  other_ticket u e is other = lookup_without t u book ∙ rw (ne_eqb u t other) is

  -- what an entry under another ticket finds
  still : (u : ℕ) (e : Entry) → lookup book u ≡ Some e → u ≢ t
      → IsKept f now on_stop on_mark e.kind e.index e.generation
  still u e is other = kept e.kind e.index e.generation (h.filled u e is) beside
    where
      beside : e.kind ≡ kind → at e.index ≡ was e.index
      beside own =
          let w = stands_under was e.index e.generation (filled_is e.index e.generation
          (subst (λ k. HasItem f k e.index e.generation) own (h.filled u e is))) in
          others_stay τ kind was at i g v stood entries book known e.index e.generation w.0 w.1.1
          (λ same. other (sym (ticket_is u e w.0 is own w.1.0) ∙ same)) ∙ sym w.1.1

  data Look (u : ℕ) : Type 0 where
    ended : u ≡ t → lookup left u ≡ None → Look u
    stays : u ≢ t → lookup left u ≡ lookup book u → Look u

  look : (u : ℕ) → Look u
  look u = elim (eqb_tells u t) [
    | inl same ↦ ended same.1 (lookup_without t u book ∙ rw same.0 refl)
    | inr other ↦ stays other.1 (lookup_without t u book ∙ rw other.0 refl)
  ]

  still_filled : (u : ℕ) (e : Entry) → lookup left u ≡ Some e
      → HasItem now e.kind e.index e.generation
  still_filled u e is = by (look u)
    where
      by : Look u → HasItem now e.kind e.index e.generation
      by (ended same none) =
          absurd (let no : ◌≡◌ {A = Option Entry} None (Some e) = sym none ∙ is in cc)
      by (stays other same) = (still u e (sym same ∙ is) other).filled

  record AtKept (o : Option Entry) : Type 0 where
    place : place_at f o ≡ place_at now o
    stop : on_stop (stop_at f o) ≡ stop_at now o
    mark : on_mark (mark_at f o) ≡ mark_at now o

  at_kept : (u : ℕ) (o : Option Entry) → u ≢ t → lookup book u ≡ o → AtKept o
  at_kept u None other is = record { place = refl; stop = no_stop; mark = no_mark }
  at_kept u (Some e) other is = let k = still u e is other in
      record { place = sym k.place; stop = sym k.stop; mark = sym k.mark }

  -- what a ticket finds: what it found, but for the one that ends
  finds : (X : Type 0) (old : ℕ → Option X) (in_f in_now : Option Entry → Option X)
      → in_now None ≡ None → ((u : ℕ) → old u ≡ in_f (lookup book u))
      → ((u : ℕ) → u ≢ t → in_f (lookup book u) ≡ in_now (lookup book u))
      → (value : ℕ → Option X) → ((u : ℕ) → value u ≡ (if u == t then None else old u))
      → (u : ℕ) → value u ≡ in_now (lookup left u)
  finds X old in_f in_now nothing held same value is u = by (look u)
    where
      by : Look u → value u ≡ in_now (lookup left u)
      by (ended at none) = is u ∙ rw (eq-eqb u t at) (sym nothing) ∙ ap in_now (sym none)
      by (stays other at) = is u ∙ rw (ne_eqb u t other) (held u) ∙ same u other
          ∙ ap in_now (sym at)

  places : (value : ℕ → Option Place)
      → ((u : ℕ) → value u ≡ (if u == t then None else place_of s.places u))
      → (u : ℕ) → value u ≡ place_at now (lookup left u)
  places = finds Place (place_of s.places) (place_at f) (place_at now) refl h.places
      (λ u other. (at_kept u (lookup book u) other refl).place)

  stops : (value : ℕ → Option Stop)
      → ((u : ℕ) → value u ≡ (if u == t then None else on_stop (stop_of s.routes u)))
      → (u : ℕ) → value u ≡ stop_at now (lookup left u)
  stops = finds Stop (λ u. on_stop (stop_of s.routes u)) (λ o. on_stop (stop_at f o)) (stop_at now)
      refl (λ u. ap on_stop (h.stops u)) (λ u other. (at_kept u (lookup book u) other refl).stop)

  marks : (value : ℕ → Option Mark)
      → ((u : ℕ) → value u ≡ (if u == t then None else on_mark (mark_of s.marks u)))
      → (u : ℕ) → value u ≡ mark_at now (lookup left u)
  marks = finds Mark (λ u. on_mark (mark_of s.marks u)) (λ o. on_mark (mark_at f o)) (mark_at now)
      refl (λ u. ap on_mark (h.marks u)) (λ u other. (at_kept u (lookup book u) other refl).mark)

  pub shrinks : Shrinks τ kind s f now book left was at i g t on_stop on_mark
  shrinks = record {
    rise = λ last is. subst (Rise 0 left) (sym is) (rise_without t book 0 s.last h.rise);
    filled = still_filled;
    stood = λ j n w is. (was_other τ kind was at i g v stood entries book known j n w is).0;
    items = λ j n w is. (let old =
        was_other τ kind was at i g v stood entries book known j n w is in
        other_ticket (τ w) _ (known j n w old.0) old.1);
    others = λ k apart u j n is. other_ticket u (entry u k j n) is
        (λ same. apart (ap (λ (x : Entry). x.kind)
        (some_same (sym is ∙ ap (lookup book) same ∙ booked))));
    places = places;
    stops = stops;
    marks = marks;
    places_kept = λ none value same. places value (none_there t value (place_of s.places) same
        (h.places t ∙ ap (place_at f) booked ∙ none));
    stops_kept = λ none value same. stops value
        (none_there t value (λ u. on_stop (stop_of s.routes u)) same
        (ap on_stop (h.stops t ∙ ap (stop_at f) booked ∙ none) ∙ no_stop));
    marks_kept = λ none value same. marks value
        (none_there t value (λ u. on_mark (mark_of s.marks u)) same
        (ap on_mark (h.marks t ∙ ap (mark_at f) booked ∙ none) ∙ no_mark));
  }

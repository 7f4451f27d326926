-- What one item more, of any of the three kinds, makes of what is held: each other ticket finds
-- what it found.
use Rattle.std.proofs.Common.{◌≡◌, ◌≢◌, ◌∙◌, sym, ap, subst, refl, ℕ, ◌+◌, inl, inr, List, [], ◌∷◌}
use Rattle.std.proofs.Common.{◌++◌, Option, Some, None, Bool, true, false, ◌==◌, if◌then◌else◌}
use Rattle.std.specs.Option.{option_map}
use Rattle.std.proofs.lemmas.Bool.{ne_eqb, eq-eqb}
use Rattle.std.proofs.lemmas.Bool.Decides.{eqb_tells}
use Rattle.triple_arena.specs.Entries.{value_if, with_entry}
use Rattle.linked_lists.specs.LinkedLists.{Ends}
use Rattle.ticket_book.specs.declared.entry.Kind.{Kind}
use Rattle.ticket_book.specs.Tickets.{Entry, lookup}
use Rattle.route_lines.specs.State.{State, Place, Stop, Mark, place_of, stop_of, mark_of}
use Rattle.route_book.specs.Holds.{Found, place_under, stop_under, mark_under, place_at, stop_at}
use Rattle.route_book.specs.Holds.{mark_at, HasItem, entry, Rise, IsHeld}
use Rattle.route_book.proofs.HoldLemmas.{Rise-add, lookup_none, lookup_added, lookup_other}
use Rattle.route_book.proofs.HoldLemmas.{lookup_kept}
use Rattle.route_book.proofs.OptionLemmas.{some_same}

-- items that are shown as they were are so under each pointer
pub shown_still : {V S : Type 0} (at : ℕ → Option (ℕ × V)) (was now : V → S)
    → ((j n : ℕ) (v : V) → at j ≡ Some (n, v) → now v ≡ was v) → (j n : ℕ)
    → option_map now (value_if n (at j)) ≡ option_map was (value_if n (at j))
shown_still {V} at was now same j n = by (at j) refl
  where
    by : (o : Option (ℕ × V)) → at j ≡ o
        → option_map now (value_if n o) ≡ option_map was (value_if n o)
    by None is = refl
    by (Some x) is = by_test (x.0 == n)
      where
        by_test : (b : Bool) → option_map now (if b then Some x.1 else None)
            ≡ option_map was (if b then Some x.1 else None)
        by_test true = ap Some (same j x.0 x.1 is)
        by_test false = refl

-- what an entry of the book finds is what it found
pub record Kept (f now : Found) (k : Kind) (j n : ℕ) : Type 0 where
  pub place : place_under now k j n ≡ place_under f k j n
  pub stop : stop_under now k j n ≡ stop_under f k j n
  pub mark : mark_under now k j n ≡ mark_under f k j n
  pub filled : HasItem now k j n

-- the longer book: its last entry is that of the new item
pub record Grows {V : Type 0} (τ : V → ℕ) (kind : Kind) (s : State) (now : Found)
    (book more : List Entry) (was at : ℕ → Option (ℕ × V)) (i g : ℕ) (v : V) : Type 1 where
  pub rise : Rise 0 more (s.last + 1)
  pub none : (t : ℕ) → t ≡ s.last + 1 → lookup book t ≡ None
  pub still : (t : ℕ) (x : Entry) → lookup book t ≡ Some x → lookup more t ≡ Some x
  pub found : value_if g (at i) ≡ Some v
  pub each : (P : ℕ → ℕ → V → Type 0) → P i g v
      → ((j n : ℕ) (q : V) → was j ≡ Some (n, q) → P j n q)
      → (j n : ℕ) (q : V) → at j ≡ Some (n, q) → P j n q
  pub items : ((j n : ℕ) (q : V) → was j ≡ Some (n, q)
      → lookup book (τ q) ≡ Some (entry (τ q) kind j n))
      → (j n : ℕ) (q : V) → at j ≡ Some (n, q) → lookup more (τ q) ≡ Some (entry (τ q) kind j n)
  pub filled : HasItem now kind i g → (t : ℕ) (x : Entry) → lookup more t ≡ Some x
      → HasItem now x.kind x.index x.generation
  pub places : (value : ℕ → Option Place)
      → ((t : ℕ) → t ≢ s.last + 1 → value t ≡ place_of s.places t)
      → ((t : ℕ) → t ≡ s.last + 1 → value t ≡ place_under now kind i g)
      → (t : ℕ) → value t ≡ place_at now (lookup more t)
  pub stops : (value : ℕ → Option Stop)
      → ((t : ℕ) → t ≢ s.last + 1 → value t ≡ stop_of s.routes t)
      → ((t : ℕ) → t ≡ s.last + 1 → value t ≡ stop_under now kind i g)
      → (t : ℕ) → value t ≡ stop_at now (lookup more t)
  pub marks : (value : ℕ → Option Mark)
      → ((t : ℕ) → t ≢ s.last + 1 → value t ≡ mark_of s.marks t)
      → ((t : ℕ) → t ≡ s.last + 1 → value t ≡ mark_under now kind i g)
      → (t : ℕ) → value t ≡ mark_at now (lookup more t)

module _ (V : Type 0) (τ : V → ℕ) (kind : Kind) (s : State) (f now : Found) (order : List Place)
    (ends : ℕ → Option Ends) (book : List Entry) (h : IsHeld s f order ends book)
    (was at : ℕ → Option (ℕ × V)) (i g : ℕ) (v : V)
    (entries : (k : ℕ) → at k ≡ with_entry was i (g, v) k) (next : τ v ≡ s.last + 1)
    (kept : (k : Kind) (j n : ℕ) → HasItem f k j n → Kept f now k j n) where
  abbrev e : Entry
  e = entry (τ v) kind i g

  abbrev more : List Entry
  more = book ++ e ∷ []

  here : at i ≡ Some (g, v)
  here = entries i ∙ rw (eq-eqb i i refl) refl

  there : (k : ℕ) → k ≢ i → at k ≡ was k
  there k other = entries k ∙ rw (ne_eqb k i other) refl

  each : (P : ℕ → ℕ → V → Type 0) → P i g v → ((j n : ℕ) (q : V) → was j ≡ Some (n, q) → P j n q)
      → (j n : ℕ) (q : V) → at j ≡ Some (n, q) → P j n q
  each P mine others j n q is = elim (eqb_tells j i) [
    | inl same ↦
        let both : Some (g, v) ≡ Some (n, q) = sym here ∙ sym (ap at same.1) ∙ is in
        subst (λ (x : ℕ × V). P j x.0 x.1) (some_same both)
        (subst (λ k. P k g v) (sym same.1) mine)
    | inr other ↦ others j n q (sym (there j other.1) ∙ is)
  ]

  none : (t : ℕ) → t ≡ s.last + 1 → lookup book t ≡ None
  none t is = ap (lookup book) is ∙ lookup_none book s.last e h.rise next

  newest : (t : ℕ) → t ≡ s.last + 1 → lookup more t ≡ Some e
  newest t is = ap (lookup more) is ∙ lookup_added book s.last e h.rise next

  -- a look-up in the longer book, for the new ticket and for another
  by_ticket : (t : ℕ) (Q : Type 0) → (t ≡ s.last + 1 → Q) → (t ≢ s.last + 1 → Q) → Q
  by_ticket t Q new old = elim (eqb_tells t (s.last + 1)) [
    | inl same ↦ new same.1
    | inr other ↦ old other.1
  ]

  record AtKept (o : Option Entry) : Type 0 where
    place : place_at f o ≡ place_at now o
    stop : stop_at f o ≡ stop_at now o
    mark : mark_at f o ≡ mark_at now o

  at_kept : (t : ℕ) (o : Option Entry) → lookup book t ≡ o → AtKept o
  at_kept t None is = record { place = refl; stop = refl; mark = refl }
  at_kept t (Some x) is =
      let k = kept x.kind x.index x.generation (h.filled t x is) in
      record { place = sym k.place; stop = sym k.stop; mark = sym k.mark }

  filled : HasItem now kind i g → (t : ℕ) (x : Entry) → lookup more t ≡ Some x
      → HasItem now x.kind x.index x.generation
  filled own t x is = by_ticket t (HasItem now x.kind x.index x.generation)
      (λ new. subst (λ (y : Entry). HasItem now y.kind y.index y.generation)
      (some_same (sym (newest t new) ∙ is)) own)
      (λ old. (kept x.kind x.index x.generation (h.filled t x
      (sym (lookup_other book s.last e h.rise next t old) ∙ is))).filled)

  -- what a ticket finds: what it found, or the new item
  finds : (X : Type 0) (old value : ℕ → X) (in_f in_now : Option Entry → X)
      → ((t : ℕ) → old t ≡ in_f (lookup book t))
      → ((t : ℕ) → in_f (lookup book t) ≡ in_now (lookup book t))
      → ((t : ℕ) → t ≢ s.last + 1 → value t ≡ old t)
      → ((t : ℕ) → t ≡ s.last + 1 → value t ≡ in_now (Some e))
      → (t : ℕ) → value t ≡ in_now (lookup more t)
  finds X old value in_f in_now held same others own t =
      by_ticket t (value t ≡ in_now (lookup more t))
      (λ new. own t new ∙ ap in_now (sym (newest t new)))
      (λ other. others t other ∙ held t ∙ same t
      ∙ ap in_now (sym (lookup_other book s.last e h.rise next t other)))

  pub grows : Grows τ kind s now book more was at i g v
  grows = record {
    rise = Rise-add book 0 s.last e h.rise next;
    none = none;
    still = lookup_kept book s.last e h.rise next;
    found = ap (value_if g) here ∙ rw (eq-eqb g g refl) refl;
    each = each;
    items = λ known. each (λ j n q. lookup more (τ q) ≡ Some (entry (τ q) kind j n))
        (newest (τ v) next)
        (λ j n q is. lookup_kept book s.last e h.rise next (τ q) _ (known j n q is));
    filled = filled;
    places = λ value. finds (Option Place) (place_of s.places) value (place_at f) (place_at now)
        h.places (λ t. (at_kept t (lookup book t) refl).place);
    stops = λ value. finds (Option Stop) (stop_of s.routes) value (stop_at f) (stop_at now)
        h.stops (λ t. (at_kept t (lookup book t) refl).stop);
    marks = λ value. finds (Option Mark) (mark_of s.marks) value (mark_at f) (mark_at now)
        h.marks (λ t. (at_kept t (lookup book t) refl).mark);
  }

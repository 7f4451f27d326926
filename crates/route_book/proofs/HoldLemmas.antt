-- What a look at the ticket book means for the state, and what one item more or less makes of what
-- is held.
use Rattle.std.proofs.Common.{◌≡◌, ◌≢◌, ◌∙◌, sym, ap, subst, refl, false, ◌==◌, ◌||◌}
use Rattle.std.proofs.Common.{nat_lt, ℕ, ◌+◌, ◌<◌, ◌≤◌, inl, inr, List, [], ◌∷◌}
use Rattle.std.proofs.Common.{◌++◌, Option, Some, None, IsSome, true≢false, Ok, arith}
use Rattle.std.specs.Option.{option_map, option_or}
use Rattle.std.proofs.lemmas.Bool.{ne_eqb, eq-eqb, le-ltb}
use Rattle.std.proofs.lemmas.Bool.Decides.{eqb_tells}
use Rattle.std.proofs.lemmas.List.Folds.{find-append}
use Rattle.triple_arena.specs.Entries.{value_if}
use Rattle.linked_lists.specs.LinkedLists.{Ends}
use Rattle.ticket_book.specs.declared.entry.Kind.{Kind}
use Rattle.ticket_book.specs.declared.entry.Kind.TheVariants.{Place as OfPlace, Stop as OfStop}
use Rattle.ticket_book.specs.declared.entry.Kind.TheVariants.{Mark as OfMark}
use Rattle.ticket_book.specs.Tickets.{Entry, AreBelow, lookup}
use Rattle.route_book.specs.Item.{StopView, MarkView}
use Rattle.route_lines.specs.State.{State, Place, Item, place, stop, mark, living, holder, place_of}
use Rattle.route_lines.specs.State.{stop_of, mark_of}
use Rattle.route_book.specs.Holds.{Found, state_stop, state_mark, place_under, stop_under}
use Rattle.route_book.specs.Holds.{mark_under, item_under, place_at, stop_at, mark_at, HasItem}
use Rattle.route_book.specs.Holds.{IsItem, entry, Rise, IsHeld}
use Rattle.route_book.proofs.OptionLemmas.{none_behind, some_same}

no_some : {X : Type 0} {x : X} → ◌≡◌ {A = Option X} None (Some x) → ⊥
no_some e = absurd (cc)

-- what is under a ticket
module _ (s : State) (f : Found) (order : List Place) (ends : ℕ → Option Ends) (book : List Entry)
    (h : IsHeld s f order ends book) (t : ℕ) where
  living_missing : lookup book t ≡ None → living s t ≡ None
  living_missing none =
      let p = h.places t ∙ ap (place_at f) none in
      let u = h.stops t ∙ ap (stop_at f) none in
      let m = h.marks t ∙ ap (mark_at f) none in
      rw (p, u, m) refl

  living_under : (k : Kind) (i g : ℕ) → place_of s.places t ≡ place_under f k i g
      → stop_of s.routes t ≡ stop_under f k i g → mark_of s.marks t ≡ mark_under f k i g
      → living s t ≡ item_under f k i g
  living_under OfPlace i g p u m = rw (p, u, m) (by (value_if g (f.places i)))
    where
      by : (o : Option Place)
          → option_or (option_map place o) (option_or (option_map stop None) (option_map mark None))
          ≡ option_map place o
      by None = refl
      by (Some x) = refl
  living_under OfStop i g p u m = rw (p, u, m) (by (value_if g (f.stops i)))
    where
      by : (o : Option StopView)
          → option_or (option_map place None)
          (option_or (option_map stop (option_map (state_stop f) o)) (option_map mark None))
          ≡ option_map (λ v. stop (state_stop f v)) o
      by None = refl
      by (Some x) = refl
  living_under OfMark i g p u m = rw (p, u, m) (by (value_if g (f.marks i)))
    where
      by : (o : Option MarkView)
          → option_or (option_map place None)
          (option_or (option_map stop None) (option_map mark (option_map (state_mark f) o)))
          ≡ option_map (λ v. mark (state_mark f v)) o
      by None = refl
      by (Some x) = refl

  some_under : (k : Kind) (i g : ℕ) → HasItem f k i g
      → (item : Item) × (item_under f k i g ≡ Some item)
  some_under OfPlace i g filled = by (value_if g (f.places i)) filled
    where
      by : (o : Option Place) → IsSome o → (item : Item) × (option_map place o ≡ Some item)
      by None is = absurd (true≢false (sym is))
      by (Some x) is = (place x, refl)
  some_under OfStop i g filled = by (value_if g (f.stops i)) filled
    where
      by : (o : Option StopView) → IsSome o
          → (item : Item) × (option_map (λ v. stop (state_stop f v)) o ≡ Some item)
      by None is = absurd (true≢false (sym is))
      by (Some x) is = (stop (state_stop f x), refl)
  some_under OfMark i g filled = by (value_if g (f.marks i)) filled
    where
      by : (o : Option MarkView) → IsSome o
          → (item : Item) × (option_map (λ v. mark (state_mark f v)) o ≡ Some item)
      by None is = absurd (true≢false (sym is))
      by (Some x) is = (mark (state_mark f x), refl)

  module _ (positive : t ≢ 0) (given : t ≤ s.last) where
    known : ((t == 0) || nat_lt s.last t) ≡ false
    known = rw (ne_eqb t 0 positive) (le-ltb s.last t given)

    pub holder_found : (e : Entry) → lookup book t ≡ Some e
        → (item : Item) × ((holder s t ≡ Ok item)
        × (item_under f e.kind e.index e.generation ≡ Some item))
    holder_found e found =
        let some = some_under e.kind e.index e.generation (h.filled t e found) in
        let l = living_under e.kind e.index e.generation (h.places t ∙ ap (place_at f) found)
        (h.stops t ∙ ap (stop_at f) found) (h.marks t ∙ ap (mark_at f) found) ∙ some.1 in
        (some.0, (rw (known, l) refl, some.1))

    pub is_item : (e : Entry) (kind : Kind) (i g : ℕ) → lookup book t ≡ Some e → kind ≡ e.kind
        → i ≡ e.index → g ≡ e.generation → IsItem s f t kind i g
    is_item e kind i g found one two three =
        let there = holder_found e found in
        record {
          item = there.0;
          living = there.1.0;
          under = ap (λ k. item_under f k i g) one
              ∙ ap (λ n. item_under f e.kind n g) two
              ∙ ap (λ n. item_under f e.kind e.index n) three
              ∙ there.1.1;
        }

-- the book has one entry for a ticket, so one item has it
pub booked_once : {T : Type 0} (ticket : T → ℕ) (kind : Kind) (at : ℕ → Option (ℕ × T))
    (book : List Entry)
    → ((i g : ℕ) (x : T) → at i ≡ Some (g, x)
    → lookup book (ticket x) ≡ Some (entry (ticket x) kind i g)) → (i j g h : ℕ) (x y : T)
    → at i ≡ Some (g, x) → at j ≡ Some (h, y) → ticket x ≡ ticket y → i ≡ j
booked_once ticket kind at book in_book i j g h x y is other same =
    let one = in_book i g x is in
    let two = subst (λ n. lookup book n ≡ Some (entry n kind j h)) (sym same) (in_book j h y other)
    in
    ap (λ (e : Entry). e.index) (some_same (sym one ∙ two))

-- the items of the arenas, as the state has them
module _ (s : State) (f : Found) (order : List Place) (ends : ℕ → Option Ends) (book : List Entry)
    (h : IsHeld s f order ends book) where
  pub stop_listed : (i g : ℕ) (v : StopView) → f.stops i ≡ Some (g, v)
      → stop_of s.routes v.ticket ≡ Some (state_stop f v)
  stop_listed i g v is = h.stops v.ticket ∙ ap (stop_at f) (h.stops_in i g v is)
      ∙ ap (λ o. option_map (state_stop f) (value_if g o)) is ∙ rw (eq-eqb g g refl) refl

-- the book
pub lookup_given : (book : List Entry) (low last t : ℕ) (e : Entry) → Rise low book last
    → lookup book t ≡ Some e → (e.ticket ≡ t) × (low < t) × (t ≤ last)
lookup_given [] low last t e rise is = absurd (no_some is)
lookup_given (x ∷ book) low last t e rise is = elim (eqb_tells x.ticket t) [
  | inl same ↦
      let found : lookup (x ∷ book) t ≡ Some x = rw same.0 refl in
      let here : x ≡ e = some_same (sym found ∙ is) in
      let at = same.1 in
      let top = last_above book x.ticket last rise.1 in (
        ap (λ (y : Entry). y.ticket) (sym here) ∙ at,
        (let r = rise.0 in omega (arith, at, r)),
        omega (arith, at, top),
      )
  | inr other ↦
      let skip : lookup (x ∷ book) t ≡ lookup book t = rw other.0 refl in
      let rest = lookup_given book x.ticket last t e rise.1 (sym skip ∙ is) in
      (rest.0, (let r = rise.0 in let q = rest.1 in omega (arith, r, q)), rest.2)
]
  where
    last_above : (book : List Entry) (low last : ℕ) → Rise low book last → low ≤ last
    last_above [] low last rise = rise
    last_above (e ∷ book) low last rise = let i = last_above book e.ticket last rise.1 in let r =
        rise.0 in omega (arith, i, r)

pub Rise-add : (book : List Entry) (low last : ℕ) (e : Entry) → Rise low book last
    → e.ticket ≡ last + 1 → Rise low (book ++ e ∷ []) (last + 1)
Rise-add [] low last e rise is = (omega (arith, rise, is), omega (arith, is))
Rise-add (x ∷ book) low last e rise is = (rise.0, Rise-add book x.ticket last e rise.1 is)

-- one entry more, under the next ticket
module _ (book : List Entry) (last : ℕ) (e : Entry) (rise : Rise 0 book last)
    (next : e.ticket ≡ last + 1) where
  pub lookup_none : lookup book (last + 1) ≡ None
  lookup_none = by (lookup book (last + 1)) refl
    where
      by : (o : Option Entry) → lookup book (last + 1) ≡ o → lookup book (last + 1) ≡ None
      by None is = is
      by (Some x) is = let b = (lookup_given book 0 last (last + 1) x rise is).2 in
          absurd (omega (arith, b))

  pub lookup_added : lookup (book ++ e ∷ []) (last + 1) ≡ Some e
  lookup_added =
      let one : lookup (e ∷ []) (last + 1) ≡ Some e = rw (eq-eqb e.ticket (last + 1) next) refl in
      find-append (λ (x : Entry). x.ticket == last + 1) book (e ∷ [])
      ∙ ap (λ o. option_or o (lookup (e ∷ []) (last + 1))) lookup_none ∙ one

  pub lookup_other : (t : ℕ) → t ≢ last + 1 → lookup (book ++ e ∷ []) t ≡ lookup book t
  lookup_other t other =
      let one : lookup (e ∷ []) t ≡ None =
      rw (ne_eqb e.ticket t (λ is. other (sym is ∙ next))) refl in
      find-append (λ (x : Entry). x.ticket == t) book (e ∷ []) ∙ ap (option_or (lookup book t)) one
      ∙ none_behind (lookup book t)

  pub lookup_kept : (t : ℕ) (x : Entry) → lookup book t ≡ Some x
      → lookup (book ++ e ∷ []) t ≡ Some x
  lookup_kept t x is = lookup_other t
      (λ same. let b = (lookup_given book 0 last t x rise is).2 in omega (arith, b, same)) ∙ is

-- the next ticket is above those of the book
pub below_next : (book : List Entry) (low last : ℕ) → Rise low book last → AreBelow book (last + 1)
below_next [] low last rise = tt
below_next (e ∷ book) low last rise = (
  (let r = above book e.ticket last rise.1 in omega (arith, r)),
  below_next book e.ticket last rise.1,
)
  where
    above : (book : List Entry) (low last : ℕ) → Rise low book last → low ≤ last
    above [] low last rise = rise
    above (x ∷ book) low last rise = let i = above book x.ticket last rise.1 in let r = rise.0 in
        omega (arith, i, r)

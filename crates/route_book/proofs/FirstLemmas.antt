-- What a search notes by key: the ticket of the first place that has it, or of the last one whose
-- key is not above it.
use Rattle.std.proofs.Common.{◌≡◌, ◌≢◌, ◌∙◌, sym, ap, subst, refl, ℕ, ◌<◌, ◌≤◌, List, [], ◌∷◌, ◌++◌}
use Rattle.std.proofs.Common.{◌==◌, map, nat_le, reverse, Option, Some, None, option_map, find}
use Rattle.std.proofs.Common.{arith, ◌⊎◌, inl, inr}
use Rattle.std.specs.Borrow.{Bor}
use Rattle.std.specs.List.{AllByRecursion, FoldsTo}
use Rattle.std.specs.Option.{option_or}
use Rattle.std.proofs.lemmas.Bool.{ne_eqb, lt-ltb, le-ltb}
use Rattle.std.proofs.lemmas.Bool.Decides.{eqb_tells, leb_tells}
use Rattle.std.proofs.lemmas.List.{reverse-append}
use Rattle.std.proofs.lemmas.List.Folds.{find-append}
use Rattle.std.specs.declared.cmp.Ordering.{Ordering}
use Rattle.std.specs.declared.cmp.Ordering.TheVariants.{Less, Greater}
use Rattle.linked_lists.specs.LinkedLists.{On}
use Rattle.triple_arena_ord.specs.Asked.{IsWay, Question, left_by}
use Rattle.ticket_book.specs.AlongLaws.{along, along-append, along_some}
use Rattle.route_lines.specs.Sound.{IsBefore, PlacesRise}
use Rattle.route_lines.specs.State.{Place, with_key}
use Rattle.route_book.specs.Keys.{noted_by, noted_past, way_past, way_to}
use Rattle.route_book.proofs.KeyLemmas.{above_behind}
use Rattle.route_book.proofs.NeighborLemmas.{none_up_to}

-- ---- a list of places

rise_front : (xs ys : List Place) → PlacesRise (xs ++ ys) → PlacesRise xs
rise_front [] ys rise = tt
rise_front (x ∷ xs) ys rise = (front xs rise.0, rise_front xs ys rise.1)
  where
    front : (qs : List Place) → AllByRecursion (IsBefore x) (qs ++ ys)
        → AllByRecursion (IsBefore x) qs
    front [] all = tt
    front (q ∷ qs) all = (all.0, front qs all.1)

rise_behind : (xs : List Place) (x : Place) (ys : List Place) → PlacesRise (xs ++ x ∷ ys)
    → PlacesRise ys
rise_behind [] x ys rise = rise.1
rise_behind (z ∷ xs) x ys rise = rise_behind xs x ys rise.1

-- before a place below a key no place has the key
none_before : (xs zs : List Place) (y : Place) (key : ℕ) → PlacesRise (xs ++ y ∷ zs) → y.key < key
    → with_key key xs ≡ None
none_before [] zs y key rise less = refl
none_before (x ∷ xs) zs y key rise less =
    let up = at xs rise.0 in
    rw (ne_eqb x.key key (λ same. omega (arith, up, less, same)))
    (none_before xs zs y key rise.1 less)
  where
    at : (qs : List Place) → AllByRecursion (IsBefore x) (qs ++ y ∷ zs) → x.key ≤ y.key
    at [] all = all.0.key
    at (q ∷ qs) all = at qs all.1

-- among places above a key none has it
none_above : (key : ℕ) (qs : List Place) → AllByRecursion (λ (q : Place). key < q.key) qs
    → with_key key qs ≡ None
none_above key [] all = refl
none_above key (q ∷ qs) all = let less = all.0 in
    rw (ne_eqb q.key key (λ same. omega (arith, less, same))) (none_above key qs all.1)

-- ---- tickets

abbrev pub ticket_in : Option Place → Option ℕ
ticket_in o = option_map (λ (p : Place). p.ticket) o

or_over : (o q : Option Place) (old : Option ℕ)
    → option_or (ticket_in (option_or o q)) old
    ≡ option_or (ticket_in o) (option_or (ticket_in q) old)
or_over None q old = refl
or_over (Some p) q old = refl

or_some : (o : Option Place) (p : Place) (q : Option Place) (old : Option ℕ)
    → option_or (ticket_in (option_or (option_or o (Some p)) q)) old
    ≡ option_or (ticket_in o) (Some p.ticket)
or_some None p q old = refl
or_some (Some r) p q old = refl

-- the last place whose key is not above a number
abbrev pub last_up_to : ℕ → List Place → Option Place
last_up_to key places = find (λ (p : Place). nat_le p.key key) (reverse places)

-- ---- one question

-- what each place that is asked decides: which part of the list is left, and that its places and
-- what is noted there give what was sought among all
abbrev Steers : (ℕ → Place → Ordering) → (ℕ → Option ℕ → Place → Option ℕ)
    → (ℕ → List Place → Option Place) → Type 0
Steers way note sought = (key : ℕ) (front : List Place) (x : Place) (back : List Place)
    (n : Option ℕ) → PlacesRise (front ++ x ∷ back)
    → ((way key x ≡ Greater) × (option_or (ticket_in (sought key back)) (note key n x)
    ≡ option_or (ticket_in (sought key (front ++ x ∷ back))) n))
    ⊎ ((way key x ≡ Less) × (option_or (ticket_in (sought key front)) (note key n x)
    ≡ option_or (ticket_in (sought key (front ++ x ∷ back))) n))

-- a search that goes before all places of a key, and notes those that have it
steers_first : Steers way_to noted_by with_key
steers_first key front x back n rises = elim (leb_tells key x.key) [
  | inl from ↦ inr (
    rw (le-ltb x.key key from.1) refl,
    ap (option_or (ticket_in (with_key key front))) (kept from.1) ∙ sym parts,
  )
  | inr below ↦
      let other : x.key ≢ key = λ same. omega (arith, same, below.1) in
      let old : noted_by key n x ≡ n = rw (ne_eqb x.key key other) refl in
      let skip : with_key key (x ∷ back) ≡ with_key key back =
      rw (ne_eqb x.key key other) refl in inl (
        rw (lt-ltb x.key key below.1) refl,
        ap (option_or (ticket_in (with_key key back))) old
            ∙ sym (parts ∙ ap (λ o. option_or (ticket_in o)
            (option_or (ticket_in (with_key key (x ∷ back))) n))
            (none_before front back x key rises below.1)
            ∙ ap (λ o. option_or (ticket_in o) n) skip),
      )
]
  where
    -- what is found in both parts
    parts : option_or (ticket_in (with_key key (front ++ x ∷ back))) n
        ≡ option_or (ticket_in (with_key key front))
        (option_or (ticket_in (with_key key (x ∷ back))) n)
    parts = ap (λ o. option_or (ticket_in o) n)
        (find-append (λ (p : Place). p.key == key) front (x ∷ back))
        ∙ or_over (with_key key front) (with_key key (x ∷ back)) n

    -- what is noted at the place, and behind it
    kept : key ≤ x.key → noted_by key n x ≡ option_or (ticket_in (with_key key (x ∷ back))) n
    kept from = elim (eqb_tells x.key key) [
      | inl same ↦
          let own : with_key key (x ∷ back) ≡ Some x = rw same.0 refl in
          let now : noted_by key n x ≡ Some x.ticket = rw same.0 refl in
          now ∙ sym (ap (λ o. option_or (ticket_in o) n) own)
      | inr other ↦
          let above : key < x.key = omega (arith, from, other.1) in
          let none : with_key key (x ∷ back) ≡ None =
          none_above key (x ∷ back) (above_behind front back x key rises above) in
          let old : noted_by key n x ≡ n = rw other.0 refl in
          old ∙ sym (ap (λ o. option_or (ticket_in o) n) none)
    ]

-- a search that goes past all places whose keys are not above a number, and notes them
steers_last : Steers way_past noted_past last_up_to
steers_last key front x back n rises = elim (leb_tells x.key key) [
  | inl from ↦
      let now : noted_past key n x ≡ Some x.ticket = rw from.0 refl in
      let one : find (λ (p : Place). nat_le p.key key) (x ∷ []) ≡ Some x = rw from.0 refl in
      let here : last_up_to key (front ++ x ∷ back)
      ≡ option_or (option_or (last_up_to key back) (Some x)) (last_up_to key front) =
      found ∙ ap (λ o. option_or o (last_up_to key front))
      (behind ∙ ap (option_or (last_up_to key back)) one) in inl (
        rw from.0 refl,
        ap (option_or (ticket_in (last_up_to key back))) now
            ∙ sym (ap (λ o. option_or (ticket_in o) n) here
            ∙ or_some (last_up_to key back) x (last_up_to key front) n),
      )
  | inr above ↦
      let old : noted_past key n x ≡ n = rw above.0 refl in
      let none : last_up_to key (x ∷ back) ≡ None =
      none_up_to key (x ∷ back) (above_behind front back x key rises above.1) in
      let here : last_up_to key (front ++ x ∷ back) ≡ last_up_to key front = found
      ∙ ap (λ o. option_or o (last_up_to key front)) none in inr (
        rw above.0 refl,
        ap (option_or (ticket_in (last_up_to key front))) old
            ∙ sym (ap (λ o. option_or (ticket_in o) n) here),
      )
]
  where
    found : last_up_to key (front ++ x ∷ back)
        ≡ option_or (last_up_to key (x ∷ back)) (last_up_to key front)
    found = ap (find (λ (p : Place). nat_le p.key key)) (reverse-append front (x ∷ back))
        ∙ find-append (λ (p : Place). nat_le p.key key) (reverse (x ∷ back)) (reverse front)

    behind : last_up_to key (x ∷ back)
        ≡ option_or (last_up_to key back) (find (λ (p : Place). nat_le p.key key) (x ∷ []))
    behind = ap (find (λ (p : Place). nat_le p.key key)) (reverse-append (x ∷ []) back)
        ∙ find-append (λ (p : Place). nat_le p.key key) (reverse back) (x ∷ [])

-- ---- the questions

-- what each question keeps of what asks
pub keeps_name : {F X : Type 0} (name : F → ℕ) (R : F → X → F → Type 0)
    → ((f : F) (x : X) (h : F) → R f x h → name h ≡ name f) → (xs : List X) (f h : F)
    → FoldsTo R f xs h → name f ≡ name h
keeps_name name R keeps [] f h made = ap name made
keeps_name name R keeps (x ∷ xs) f h made = sym (keeps f x made.0 made.1)
    ∙ keeps_name name R keeps xs made.0 h made.2

pub or_none : (o : Option ℕ) → option_or o None ≡ o
or_none None = refl
or_none (Some t) = refl

-- what a question does to what asks: it keeps the key that it asks for, answers this way, and notes
-- this
pub record Tells (way_by : ℕ → Place → Ordering) (note_by : ℕ → Option ℕ → Place → Option ℕ)
    {F : Type 0} (asks : F → ℕ) (noted : F → Option ℕ) (f : F) (p : Place) (d : Ordering)
    (h : F) : Type 0 where
  pub same : asks h ≡ asks f
  pub way : d ≡ way_by (asks f) p
  pub note : noted h ≡ note_by (asks f) (noted f) p

module _ {P F : Type 0} (index generation : P → ℕ)
    (step : F → P → Bor Place → Ordering → F → Type 0) (asks : F → ℕ) (noted : F → Option ℕ)
    (at : ℕ → Option (ℕ × Place)) where
  abbrev pub Made : F → List (Question P Place) → F → Type 0
  Made f questions last = FoldsTo (λ g q h. step g q.pointer q.lent q.answer h) f questions last

  abbrev pub AreEntries : List (Question P Place) → Type 0
  AreEntries questions =
      AllByRecursion (λ (q : Question P Place). at (index q.pointer)
      ≡ Some (generation q.pointer, q.lent.now)) questions

  abbrev pub way_of : List (Question P Place) → List (ℕ × Ordering)
  way_of questions = map (λ (q : Question P Place). (index q.pointer, q.answer)) questions

  abbrev pub AllTell : (ℕ → Place → Ordering) → (ℕ → Option ℕ → Place → Option ℕ) → Type 0
  AllTell way note = (f : F) (p : P) (t : Bor Place) (d : Ordering) (h : F) → step f p t d h
      → Tells way note asks noted f t.now d h

  -- the places around the one that is asked
  record Parts (q : Question P Place) (left : List ℕ) (on : On left (index q.pointer)) : Type 0
    where
      whole : along at left ≡ along at on.front ++ q.lent.now ∷ along at on.back

  parts_at : (q : Question P Place) (left : List ℕ) (on : On left (index q.pointer))
      → at (index q.pointer) ≡ Some (generation q.pointer, q.lent.now) → Parts q left on
  parts_at q left on is = record {
    whole = ap (along at) on.is ∙ along-append at on.front (index q.pointer ∷ on.back)
        ∙ ap (λ l. along at on.front ++ l)
        (along_some at (index q.pointer) on.back (generation q.pointer, q.lent.now) is);
  }

  -- what is noted in the end is the ticket of the place that was sought
  module _ (way_by : ℕ → Place → Ordering) (note_by : ℕ → Option ℕ → Place → Option ℕ)
      (sought : ℕ → List Place → Option Place) (tell : AllTell way_by note_by)
      (steers : Steers way_by note_by sought) (empty : (key : ℕ) → sought key [] ≡ None) where
    abbrev Notes : F → F → List ℕ → Type 0
    Notes f last left =
        noted last ≡ option_or (ticket_in (sought (asks f) (along at left))) (noted f)

    all_noted : (questions : List (Question P Place)) (f last : F) (left : List ℕ)
        → Made f questions last → AreEntries questions → IsWay (way_of questions) left
        → PlacesRise (along at left) → Notes f last left
    all_noted [] f last left made entries way rise = ap noted (sym made)
        ∙ sym (ap (λ w. option_or (ticket_in (sought (asks f) (along at w))) (noted f)) way
        ∙ ap (λ o. option_or (ticket_in o) (noted f)) (empty (asks f)))
    all_noted (q ∷ questions) f last left made entries way rise =
        by (all_noted questions made.0 last way.0.front made.2 entries.1)
        (all_noted questions made.0 last way.0.back made.2 entries.1)
      where
        x : Place
        x = q.lent.now

        key : ℕ
        key = asks f

        front : List Place
        front = along at way.0.front

        back : List Place
        back = along at way.0.back

        whole : along at left ≡ front ++ x ∷ back
        whole = (parts_at q left way.0 entries.0).whole

        rises : PlacesRise (front ++ x ∷ back)
        rises = subst PlacesRise whole rise

        told : Tells way_by note_by asks noted f x q.answer made.0
        told = tell f q.pointer q.lent q.answer made.0 made.1

        -- what the part that is left notes, is noted of all
        so : (part : List Place) → noted last
            ≡ option_or (ticket_in (sought (asks made.0) part)) (noted made.0)
            → option_or (ticket_in (sought key part)) (note_by key (noted f) x)
            ≡ option_or (ticket_in (sought key (front ++ x ∷ back))) (noted f)
            → Notes f last left
        so part rest same = rest
            ∙ ap (λ k. option_or (ticket_in (sought k part)) (noted made.0)) told.same
            ∙ ap (option_or (ticket_in (sought key part))) told.note ∙ same
            ∙ sym (ap (λ l. option_or (ticket_in (sought key l)) (noted f)) whole)

        by : (IsWay (way_of questions) way.0.front → PlacesRise front
            → Notes made.0 last way.0.front)
            → (IsWay (way_of questions) way.0.back → PlacesRise back
            → Notes made.0 last way.0.back)
            → Notes f last left
        by in_front in_back = elim (steers key front x back (noted f) rises) [
          | inl past ↦ so back (in_back (subst
              (λ d. IsWay (way_of questions) (left_by d way.0.front way.0.back))
              (told.way ∙ past.0) way.1) (rise_behind front x back rises)) past.1
          | inr before ↦ so front (in_front (subst
              (λ d. IsWay (way_of questions) (left_by d way.0.front way.0.back))
              (told.way ∙ before.0) way.1) (rise_front front (x ∷ back) rises)) before.1
        ]

  pub first_noted : AllTell way_to noted_by
      → (questions : List (Question P Place)) (f last : F) (left : List ℕ) → Made f questions last
      → AreEntries questions → IsWay (way_of questions) left → PlacesRise (along at left)
      → noted last ≡ option_or (ticket_in (with_key (asks f) (along at left))) (noted f)
  first_noted tell = all_noted way_to noted_by with_key tell steers_first (λ key. refl)

  pub last_noted : AllTell way_past noted_past
      → (questions : List (Question P Place)) (f last : F) (left : List ℕ) → Made f questions last
      → AreEntries questions → IsWay (way_of questions) left → PlacesRise (along at left)
      → noted last ≡ option_or (ticket_in (last_up_to (asks f) (along at left))) (noted f)
  last_noted tell = all_noted way_past noted_past last_up_to tell steers_last (λ key. refl)

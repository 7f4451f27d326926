-- A search along a linear chain, from one of its indexes.
use Rattle.std.specs.List.{AllByRecursion}
use Rattle.std.proofs.Common.{◌≡◌, ◌≢◌, ℕ, zero, suc, ◌+◌, ◌<◌, ◌≤◌, List, [], ◌∷◌, ◌++◌, length}
use Rattle.std.proofs.Common.{reverse, take, drop, slice_get, append_assoc, length-append}
use Rattle.std.proofs.Common.{length-take-le, take_all, take-append-drop, Option, Some, None, refl}
use Rattle.std.proofs.Common.{sym, ap, ◌∙◌, subst, arith, inl, inr, ◌⊎◌}
use Rattle.std.proofs.lemmas.Bool.{cases_lt}
use Rattle.std.proofs.lemmas.List.{reverse-append}
use Rattle.std.specs.declared.cmp.Ordering.{Ordering}
use Rattle.std.specs.declared.cmp.Ordering.TheVariants.{Less, Equal, Greater}
use Rattle.linked_lists.specs.LinkedLists.{Ends, IsLinear, first_or, last_or, Off, Apart, On}
use Rattle.linked_lists.specs.LinkedListLaws.{Off-not_on}
use Rattle.linked_lists.specs.UniquenessLaws.{linear_apart}
use Rattle.rank_tree.specs.Search.{MayPrecede, IsParted, EndsAt}
use Rattle.triple_arena_ord.specs.Near.{IsNear, IsEndNear, IsGapNear, HasEnd, IsWalked}
use Rattle.triple_arena_ord.specs.Near.{IsPlaceCounted, IsKeyCounted, onward, if_onward, up_to}
use Rattle.triple_arena_ord.specs.Near.{beyond, path_from}
use Rattle.rank_tree.specs.DescentLaws.{all-append, all-back, all-map, parted-after}
use Rattle.rank_tree.specs.DescentLaws.{parted-before}
use Rattle.triple_arena_ord.proofs.GapLemmas.{Last, last_in, linear_ends, last_snoc}

-- what holds of each index of a list holds of the one at a place
pub all-at : (P : ℕ → Type 0) (xs : List ℕ) → AllByRecursion P xs → (a j : ℕ)
    → slice_get xs a ≡ Some j
    → P j
all-at P [] all a j e = absurd (cc)
all-at P (x ∷ xs) all zero j e = let z : x ≡ j = cc in subst P z all.0
all-at P (x ∷ xs) all (suc a) j e = all-at P xs all.1 a j e

at_front : (xs ys : List ℕ) (a j : ℕ) → a < length xs → slice_get (xs ++ ys) a ≡ Some j
    → slice_get xs a ≡ Some j
at_front [] ys a j h e = absurd (omega arith)
at_front (x ∷ xs) ys zero j h e = e
at_front (x ∷ xs) ys (suc a) j h e = at_front xs ys a j (omega arith) e

-- the place in the second of two lists
record Later (xs ys : List ℕ) (a j : ℕ) : Type 0 where
  pub place : ℕ
  pub is : a ≡ length xs + place
  pub at : slice_get ys place ≡ Some j

at_back : (xs ys : List ℕ) (a j : ℕ) → length xs ≤ a → slice_get (xs ++ ys) a ≡ Some j
    → Later xs ys a j
at_back [] ys a j h e = record { place = a; is = omega arith; at = e }
at_back (x ∷ xs) ys zero j h e = absurd (omega arith)
at_back (x ∷ xs) ys (suc a) j h e =
    let l = at_back xs ys a j (omega arith) e in
    let is = l.is in
    record { place = l.place; is = omega (arith, is); at = l.at }

off_at : (xs : List ℕ) (i : ℕ) → Off xs i → (a : ℕ) → slice_get xs a ≢ Some i
off_at [] i off a e = absurd (cc)
off_at (x ∷ xs) i off zero e = let z : x ≡ i = cc in off.0 z
off_at (x ∷ xs) i off (suc a) e = off_at xs i off.1 a e

-- an index has one place
position : (before : List ℕ) (i : ℕ) (after : List ℕ) (a : ℕ) → Apart (before ++ i ∷ after)
    → slice_get (before ++ i ∷ after) a ≡ Some i → length before ≡ a
position [] i after zero apart e = refl
position [] i after (suc a) apart e = absurd (off_at after i apart.0 a e)
position (x ∷ before) i after zero apart e = let z : x ≡ i = cc in
    absurd (Off-not_on before after i (subst (Off (before ++ i ∷ after)) z apart.0))
position (x ∷ before) i after (suc a) apart e = let h = position before i after a apart.1 e in
    omega (arith, h)

no_last : (xs : List ℕ) → last_or None xs ≡ None → xs ≡ []
no_last [] e = refl
no_last (x ∷ xs) e = absurd (go x xs e)
  where
    go : (x : ℕ) (xs : List ℕ) → last_or (Some x) xs ≡ None → ⊥
    go x [] e = absurd (cc)
    go x (y ∷ ys) e = go y ys e

no_first : (xs : List ℕ) → first_or xs None ≡ None → xs ≡ []
no_first [] e = refl
no_first (x ∷ xs) e = absurd (cc)

-- a list that is not empty has a last index
has_last : (xs : List ℕ) → 0 < length xs → (p : ℕ) × Last xs p
has_last [] h = absurd (omega arith)
has_last (x ∷ []) h = (x, record { front = []; is = refl })
has_last (x ∷ y ∷ ys) h =
    let l = has_last (y ∷ ys) (omega arith) in
    (l.0, record { front = x ∷ l.1.front; is = ap (λ z. x ∷ z) l.1.is })

record First (xs : List ℕ) (p : ℕ) : Type 0 where
  pub back : List ℕ
  pub is : xs ≡ p ∷ back

has_first : (xs : List ℕ) → 0 < length xs → (p : ℕ) × First xs p
has_first [] h = absurd (omega arith)
has_first (x ∷ xs) h = (x, record { back = xs; is = refl })

first_in : (xs : List ℕ) (p : ℕ) → first_or xs None ≡ Some p → First xs p
first_in [] p e = absurd (cc)
first_in (x ∷ xs) p e = record { back = xs; is = let z : x ≡ p = cc in ap (λ y. y ∷ xs) z }

-- the way that a search takes that went `way` and has this answer
abbrev pub toward : Ordering → Ordering → Ordering
toward Less answer = Less
toward Equal answer = answer
toward Greater answer = Greater

-- what is left of a walk along a path: an index, which comes after what was passed, and those
-- beyond it
abbrev pub Trod : (ℕ → Ordering) → (path passed : List ℕ) → Ordering → (before : List ℕ) → ℕ
    → (after : List ℕ) → Type 0
Trod f path passed way before cur after =
    path ≡ passed ++ up_to f (toward way (f cur)) (cur ∷ beyond (toward way (f cur)) before after)

-- how far the search has come: what stands before and after the index, and the places
pub record Walking (f : ℕ → Ordering) (w : List ℕ) (start : ℕ) (path : List ℕ) (way : Ordering)
    (cur steps : ℕ) : Type 0 where
  pub before : List ℕ
  pub after : List ℕ
  pub is : w ≡ before ++ cur ∷ after
  pub low : way ≡ Greater → IsParted f w → AllByRecursion (λ y. f y ≡ Greater) before
  pub high : way ≡ Less → IsParted f w → AllByRecursion (λ y. f y ≡ Less) after
  pub right : way ≡ Greater → (a : ℕ) → slice_get w a ≡ Some start → length before ≡ a + steps
  pub left : way ≡ Less → (a : ℕ) → slice_get w a ≡ Some start → length before + steps ≡ a
  pub first : way ≡ Equal → (steps ≡ 0) × (cur ≡ start)
  pub passed : List ℕ
  pub made : length passed ≡ steps
  pub trod : Trod f path passed way before cur after

pub walking_begins : (f : ℕ → Ordering) (w : List ℕ) (start : ℕ) (on : On w start)
    → Walking f w start (path_from f on) Equal start 0
walking_begins f w start on = record {
  before = on.front;
  after = on.back;
  is = on.is;
  low = λ u. absurd (cc);
  high = λ u. absurd (cc);
  right = λ u. absurd (cc);
  left = λ u. absurd (cc);
  first = λ u. (refl, refl);
  passed = [];
  made = refl;
  trod = refl;
}

-- one step along the path
step_on : (path passed : List ℕ) (cur : ℕ) (rest : List ℕ) → path ≡ passed ++ cur ∷ rest
    → path ≡ (passed ++ cur ∷ []) ++ rest
step_on path passed cur rest e = e ∙ sym (append_assoc passed (cur ∷ []) rest)

toward_answer : (way d : Ordering) → (way ≡ Less → d ≡ Less) → (way ≡ Greater → d ≡ Greater)
    → toward way d ≡ d
toward_answer Less d low high = sym (low refl)
toward_answer Equal d low high = refl
toward_answer Greater d low high = sym (high refl)

trod_left : (f : ℕ → Ordering) (path passed : List ℕ) (way : Ordering) (before : List ℕ) (cur : ℕ)
    (after front : List ℕ) (next : ℕ) → Trod f path passed way before cur after
    → f cur ≡ Less → way ≢ Greater → before ≡ front ++ next ∷ []
    → path ≡ (passed ++ cur ∷ []) ++ up_to f Less (next ∷ reverse front)
trod_left f path passed way before cur after front next trod here not is =
    let to : toward way (f cur) ≡ Less = toward_answer way (f cur) (λ u. here) (λ u. absurd (not u))
    ∙ here in
    let left : path ≡ passed ++ up_to f Less (cur ∷ reverse before) = trod
    ∙ ap (λ d. passed ++ up_to f d (cur ∷ beyond d before after)) to in
    let on : up_to f Less (cur ∷ reverse before) ≡ cur ∷ up_to f Less (reverse before) =
    ap (λ d. cur ∷ if_onward Less d (up_to f Less (reverse before))) here in
    let turned : reverse before ≡ next ∷ reverse front = ap reverse is
    ∙ reverse-append front (next ∷ []) in
    step_on path passed cur (up_to f Less (next ∷ reverse front))
    (left ∙ ap (λ z. passed ++ z) (on ∙ ap (λ z. cur ∷ up_to f Less z) turned))

trod_right : (f : ℕ → Ordering) (path passed : List ℕ) (way : Ordering) (before : List ℕ) (cur : ℕ)
    (after : List ℕ) (next : ℕ) (back : List ℕ) → Trod f path passed way before cur after
    → f cur ≡ Greater → way ≢ Less → after ≡ next ∷ back
    → path ≡ (passed ++ cur ∷ []) ++ up_to f Greater (next ∷ back)
trod_right f path passed way before cur after next back trod here not is =
    let to : toward way (f cur) ≡ Greater =
    toward_answer way (f cur) (λ u. absurd (not u)) (λ u. here) ∙ here in
    let right : path ≡ passed ++ up_to f Greater (cur ∷ after) = trod
    ∙ ap (λ d. passed ++ up_to f d (cur ∷ beyond d before after)) to in
    let on : up_to f Greater (cur ∷ after) ≡ cur ∷ up_to f Greater after =
    ap (λ d. cur ∷ if_onward Greater d (up_to f Greater after)) here in
    step_on path passed cur (up_to f Greater (next ∷ back))
    (right ∙ ap (λ z. passed ++ z) (on ∙ ap (λ z. cur ∷ up_to f Greater z) is))

-- where a walk goes nowhere from an index, its path has no more
path_ends : (f : ℕ → Ordering) (way d : Ordering) (before after : List ℕ)
    → onward way d (last_or None before, first_or after None) ≡ None
    → if_onward (toward way d) d (up_to f (toward way d) (beyond (toward way d) before after)) ≡ []
path_ends f Less Less before after off = ap (λ z. up_to f Less (reverse z)) (no_last before off)
path_ends f Less Equal before after off = refl
path_ends f Less Greater before after off = refl
path_ends f Equal Less before after off = ap (λ z. up_to f Less (reverse z)) (no_last before off)
path_ends f Equal Equal before after off = refl
path_ends f Equal Greater before after off = ap (λ z. up_to f Greater z) (no_first after off)
path_ends f Greater Less before after off = refl
path_ends f Greater Equal before after off = refl
path_ends f Greater Greater before after off = ap (λ z. up_to f Greater z) (no_first after off)

module _ (e : ℕ → Option Ends) (f : ℕ → Ordering) (w : List ℕ) (start : ℕ) (path : List ℕ)
    (linear : IsLinear e w) where
  apart : Apart w
  apart = linear_apart e None w linear

  ends_at : (way : Ordering) (cur steps : ℕ) (k : Walking f w start path way cur steps)
      (ends : Ends) → e cur ≡ Some ends → ends ≡ (last_or None k.before, first_or k.after None)
  ends_at way cur steps k ends at =
      let z : e cur ≡ Some (last_or None k.before, first_or k.after None) =
      linear_ends e k.before cur k.after (subst (IsLinear e) k.is linear) in cc

  placed : (before : List ℕ) (i : ℕ) (after : List ℕ) → w ≡ before ++ i ∷ after → (a : ℕ)
      → slice_get w a ≡ Some i → length before ≡ a
  placed before i after is a at =
      position before i after a (subst Apart is apart) (subst (λ l. slice_get l a ≡ Some i) is at)

  to_left : (way : Ordering) (cur steps next : ℕ) (k : Walking f w start path way cur steps)
      → f cur ≡ Less → way ≢ Greater → last_or None k.before ≡ Some next
      → Walking f w start path Less next (steps + 1)
  to_left way cur steps next k here not to =
      let l = last_in k.before next to in
      let longer : length k.before ≡ length l.front + 1 = ap length l.is
      ∙ length-append l.front (next ∷ []) in
      record {
        before = l.front;
        after = cur ∷ k.after;
        is = k.is ∙ ap (λ z. z ++ cur ∷ k.after) l.is
            ∙ append_assoc l.front (next ∷ []) (cur ∷ k.after);
        low = λ u. absurd (cc);
        high = λ u parted. (
          here,
          all-map (λ y. MayPrecede (f cur) (f y)) (λ y. f y ≡ Less)
              (λ y z. z.less here) k.after
              (parted-after f k.before cur k.after (subst (IsParted f) k.is parted)),
        );
        right = λ u. absurd (cc);
        left = λ u a at. moved way refl a at (length l.front) longer;
        first = λ u. absurd (cc);
        passed = k.passed ++ cur ∷ [];
        made = length-append k.passed (cur ∷ []) ∙ ap (λ n. n + 1) k.made;
        trod = trod_left f path k.passed way k.before cur k.after l.front next k.trod here not l.is;
      }
    where
      moved : (b : Ordering) → way ≡ b → (a : ℕ) → slice_get w a ≡ Some start → (n : ℕ)
          → length k.before ≡ n + 1 → n + (steps + 1) ≡ a
      moved Less u a at n longer = let h = k.left u a at in omega (arith, h, longer)
      moved Equal u a at n longer =
          let z = k.first u in
          let none = z.0 in
          let h = placed k.before cur k.after k.is a (at ∙ ap Some (sym z.1)) in
          omega (arith, h, none, longer)
      moved Greater u a at n longer = absurd (not u)

  to_right : (way : Ordering) (cur steps next : ℕ) (k : Walking f w start path way cur steps)
      → f cur ≡ Greater → way ≢ Less → first_or k.after None ≡ Some next
      → Walking f w start path Greater next (steps + 1)
  to_right way cur steps next k here not to =
      let l = first_in k.after next to in
      let longer : length (k.before ++ cur ∷ []) ≡ length k.before + 1 =
      length-append k.before (cur ∷ []) in
      record {
        before = k.before ++ cur ∷ [];
        after = l.back;
        is = k.is ∙ ap (λ z. k.before ++ cur ∷ z) l.is
            ∙ sym (append_assoc k.before (cur ∷ []) (next ∷ l.back));
        low = λ u parted. all-append (λ y. f y ≡ Greater) k.before (cur ∷ [])
            (all-map (λ y. MayPrecede (f y) (f cur)) (λ y. f y ≡ Greater) (λ y z. z.greater here)
            k.before (parted-before f k.before cur k.after (subst (IsParted f) k.is parted)))
            (here, tt);
        high = λ u. absurd (cc);
        right = λ u a at. moved way refl a at (length (k.before ++ cur ∷ [])) longer;
        left = λ u. absurd (cc);
        first = λ u. absurd (cc);
        passed = k.passed ++ cur ∷ [];
        made = length-append k.passed (cur ∷ []) ∙ ap (λ n. n + 1) k.made;
        trod = trod_right f path k.passed way k.before cur k.after next l.back k.trod here not l.is;
      }
    where
      moved : (b : Ordering) → way ≡ b → (a : ℕ) → slice_get w a ≡ Some start → (n : ℕ)
          → n ≡ length k.before + 1 → n ≡ a + (steps + 1)
      moved Less u a at n longer = absurd (not u)
      moved Equal u a at n longer =
          let z = k.first u in
          let none = z.0 in
          let h = placed k.before cur k.after k.is a (at ∙ ap Some (sym z.1)) in
          omega (arith, h, none, longer)
      moved Greater u a at n longer = let h = k.right u a at in omega (arith, h, longer)

  -- one step of the search
  pub walking_step : (way d : Ordering) (cur steps next : ℕ) (ends : Ends)
      → Walking f w start path way cur steps → f cur ≡ d → e cur ≡ Some ends
      → onward way d ends ≡ Some next
      → Walking f w start path d next (steps + 1)
  walking_step way d cur steps next ends k here at on = by way d refl refl
    where
      is : ends ≡ (last_or None k.before, first_or k.after None)
      is = ends_at way cur steps k ends at

      by : (b c : Ordering) → way ≡ b → d ≡ c → Walking f w start path d next (steps + 1)
      by Less Less u v = rw v
          (to_left way cur steps next k (here ∙ v) (λ x. absurd (cc))
          (sym (ap (λ z. z.0) is)
          ∙ sym (ap (λ b. onward b d ends) u ∙ ap (λ c. onward Less c ends) v) ∙ on))
      by Less Equal u v = let z = sym (ap (λ b. onward b d ends) u ∙ ap (λ c. onward Less c ends) v)
          ∙ on in absurd (cc)
      by Less Greater u v = let z =
          sym (ap (λ b. onward b d ends) u ∙ ap (λ c. onward Less c ends) v) ∙ on in absurd (cc)
      by Equal Less u v = rw v
          (to_left way cur steps next k (here ∙ v) (λ x. absurd (cc))
          (sym (ap (λ z. z.0) is)
          ∙ sym (ap (λ b. onward b d ends) u ∙ ap (λ c. onward Equal c ends) v) ∙ on))
      by Equal Equal u v = let z =
          sym (ap (λ b. onward b d ends) u ∙ ap (λ c. onward Equal c ends) v) ∙ on in absurd (cc)
      by Equal Greater u v =
          rw v (to_right way cur steps next k (here ∙ v) (λ x. absurd (cc))
          (sym (ap (λ z. z.1) is)
          ∙ sym (ap (λ b. onward b d ends) u ∙ ap (λ c. onward Equal c ends) v) ∙ on))
      by Greater Less u v = let z =
          sym (ap (λ b. onward b d ends) u ∙ ap (λ c. onward Greater c ends) v) ∙ on in absurd (cc)
      by Greater Equal u v = let z =
          sym (ap (λ b. onward b d ends) u ∙ ap (λ c. onward Greater c ends) v) ∙ on in absurd (cc)
      by Greater Greater u v =
          rw v (to_right way cur steps next k (here ∙ v) (λ x. absurd (cc))
          (sym (ap (λ z. z.1) is)
          ∙ sym (ap (λ b. onward b d ends) u ∙ ap (λ c. onward Greater c ends) v) ∙ on))

  -- where it ends there is an index that ends it, or the gap is beside
  pub walking_stops : (way d : Ordering) (cur steps : ℕ) (ends : Ends)
      → Walking f w start path way cur steps → e cur ≡ Some ends → onward way d ends ≡ None
      → IsParted f w → EndsAt f w cur d
  walking_stops way d cur steps ends k at off parted = record {
    before = k.before;
    after = k.after;
    is = k.is;
    less = λ v. lower way refl v;
    greater = λ v. upper way refl v;
  }
    where
      is : ends ≡ (last_or None k.before, first_or k.after None)
      is = ends_at way cur steps k ends at

      none_before : last_or None k.before ≡ None → AllByRecursion (λ y. f y ≡ Greater) k.before
      none_before z = rw (no_last k.before z) tt

      none_after : first_or k.after None ≡ None → AllByRecursion (λ y. f y ≡ Less) k.after
      none_after z = rw (no_first k.after z) tt

      lower : (b : Ordering) → way ≡ b → d ≡ Less → AllByRecursion (λ y. f y ≡ Greater) k.before
      lower Less u v = none_before
          (sym (ap (λ z. z.0) is)
          ∙ sym (ap (λ b. onward b d ends) u ∙ ap (λ c. onward Less c ends) v) ∙ off)
      lower Equal u v = none_before
          (sym (ap (λ z. z.0) is)
          ∙ sym (ap (λ b. onward b d ends) u ∙ ap (λ c. onward Equal c ends) v) ∙ off)
      lower Greater u v = k.low u parted

      upper : (b : Ordering) → way ≡ b → d ≡ Greater → AllByRecursion (λ y. f y ≡ Less) k.after
      upper Less u v = k.high u parted
      upper Equal u v = none_after
          (sym (ap (λ z. z.1) is)
          ∙ sym (ap (λ b. onward b d ends) u ∙ ap (λ c. onward Equal c ends) v) ∙ off)
      upper Greater u v = none_after
          (sym (ap (λ z. z.1) is)
          ∙ sym (ap (λ b. onward b d ends) u ∙ ap (λ c. onward Greater c ends) v) ∙ off)

  -- there the path ends too
  pub walking_ended : (way d : Ordering) (cur steps : ℕ) (ends : Ends)
      → Walking f w start path way cur steps → f cur ≡ d → e cur ≡ Some ends
      → onward way d ends ≡ None
      → (last_or None path ≡ Some cur) × (length path ≡ steps + 1)
  walking_ended way d cur steps ends k here at off =
      let is : ends ≡ (last_or None k.before, first_or k.after None) =
      ends_at way cur steps k ends at in
      let none : onward way (f cur) (last_or None k.before, first_or k.after None) ≡ None =
      ap (λ x. onward way x (last_or None k.before, first_or k.after None)) here
      ∙ ap (onward way d) (sym is) ∙ off in
      let whole : path ≡ k.passed ++ cur ∷ [] = k.trod
      ∙ ap (λ z. k.passed ++ cur ∷ z) (path_ends f way (f cur) k.before k.after none) in (
        ap (last_or None) whole ∙ last_snoc k.passed cur,
        ap length whole ∙ length-append k.passed (cur ∷ []) ∙ ap (λ n. n + 1) k.made,
      )

  -- where the search is there is more of the path
  pub walking_on : (way : Ordering) (cur steps : ℕ) → Walking f w start path way cur steps
      → steps < length path
  walking_on way cur steps k =
      let t = toward way (f cur) in
      let rest = if_onward t (f cur) (up_to f t (beyond t k.before k.after)) in
      let long : length path ≡ length k.passed + suc (length rest) = ap length k.trod
      ∙ length-append k.passed (cur ∷ rest) in
      let made = k.made in
      omega (arith, long, made)

  -- after so many steps each near index has answered as the start did
  near_greater : (cur num : ℕ) → Walking f w start path Greater cur num → IsParted f w → (j : ℕ)
      → IsNear num w start j → f j ≡ Greater
  near_greater cur num k parted j near =
      let h = k.right refl near.from near.starts in
      let ahead = near.ahead in
      all-at (λ y. f y ≡ Greater) k.before (k.low refl parted) near.to j
      (at_front k.before (cur ∷ k.after) near.to j (omega (arith, h, ahead))
      (subst (λ l. slice_get l near.to ≡ Some j) k.is near.ends))

  near_less : (cur num : ℕ) → Walking f w start path Less cur num → IsParted f w → (j : ℕ)
      → IsNear num w start j → f j ≡ Less
  near_less cur num k parted j near =
      let h = k.left refl near.from near.starts in
      let behind = near.behind in
      let longer : length (k.before ++ cur ∷ []) ≡ length k.before + 1 =
      length-append k.before (cur ∷ []) in
      let is : w ≡ (k.before ++ cur ∷ []) ++ k.after = k.is
      ∙ sym (append_assoc k.before (cur ∷ []) k.after) in
      let l = at_back (k.before ++ cur ∷ []) k.after near.to j (omega (arith, h, behind, longer))
      (subst (λ l. slice_get l near.to ≡ Some j) is near.ends) in
      all-at (λ y. f y ≡ Less) k.after (k.high refl parted) l.place j l.at

  -- so no index that ends the search is near
  pub end_not_near : (way : Ordering) (cur num : ℕ) → Walking f w start path way cur num
      → IsParted f w → IsEndNear num f w start → ⊥
  end_not_near Less cur num k parted near = let z = near_less cur num k parted near.at near.near in
      let y = near.equal in absurd (cc)
  end_not_near Equal cur num k parted near =
      let z = (k.first refl).0 in let a = near.near.ahead in let b = near.near.behind in
      absurd (omega (arith, z, a, b))
  end_not_near Greater cur num k parted near = let z =
      near_greater cur num k parted near.at near.near in let y = near.equal in absurd (cc)

  -- nor is each neighbor of the gap
  pub gap_not_near : (way : Ordering) (cur num : ℕ) → On w start
      → Walking f w start path way cur num → IsParted f w → IsGapNear num f w start → ⊥
  gap_not_near way cur num on k parted gap =
      by way refl (cases_lt (length k.before) (length gap.low))
    where
      whole : length k.before + suc (length k.after) ≡ length gap.low + length gap.high
      whole = sym (length-append k.before (cur ∷ k.after)) ∙ ap length (sym k.is ∙ gap.is)
          ∙ length-append gap.low gap.high

      last_low : 0 < length gap.low → (p : ℕ) × Last gap.low p
      last_low h = has_last gap.low h

      by : (b : Ordering) → way ≡ b
          → (length k.before < length gap.low) ⊎ (length gap.low ≤ length k.before) → ⊥
      by Less u (inl h) =
          let p = last_low (omega arith) in
          let near = gap.last p.0 (ap (last_or None) p.1.is ∙ last_snoc p.1.front p.0) in
          let less = near_less cur num (subst (λ b. Walking f w start path b cur num) u k) parted
          p.0 near in
          let greater = (all-back (λ j. f j ≡ Greater) p.1.front (p.0 ∷ [])
          (subst (AllByRecursion (λ j. f j ≡ Greater)) p.1.is gap.greater)).0 in
          absurd (cc)
      by Less u (inr h) =
          let q = has_first gap.high (omega (arith, whole)) in
          let near = gap.first q.0 (ap (λ l. first_or l None) q.1.is) in
          let at = placed gap.low q.0 q.1.back (gap.is ∙ ap (λ l. gap.low ++ l) q.1.is) near.to
          near.ends in
          let from = k.left u near.from near.starts in
          let behind = near.behind in
          absurd (omega (arith, at, from, behind, h))
      by Equal u h = let none = (k.first u).0 in zero_near none
        where
          zero_near : num ≡ 0 → ⊥
          zero_near none = pick (cases_lt 0 (length gap.low))
            where
              never : (j : ℕ) → IsNear num w start j → ⊥
              never j near = let a = near.ahead in let b = near.behind in
                  absurd (omega (arith, none, a, b))

              pick : (0 < length gap.low) ⊎ (length gap.low ≤ 0) → ⊥
              pick (inl h) = let p = last_low h in
                  never p.0 (gap.last p.0 (ap (last_or None) p.1.is ∙ last_snoc p.1.front p.0))
              pick (inr h) = let q = has_first gap.high (omega (arith, whole)) in
                  never q.0 (gap.first q.0 (ap (λ l. first_or l None) q.1.is))
      by Greater u (inl h) =
          let p = last_low (omega arith) in
          let near = gap.last p.0 (ap (last_or None) p.1.is ∙ last_snoc p.1.front p.0) in
          let at = placed p.1.front p.0 gap.high
          (gap.is ∙ ap (λ l. l ++ gap.high) p.1.is ∙ append_assoc p.1.front (p.0 ∷ []) gap.high)
          near.to near.ends in
          let longer : length gap.low ≡ length p.1.front + 1 = ap length p.1.is
          ∙ length-append p.1.front (p.0 ∷ []) in
          let from = k.right u near.from near.starts in
          let ahead = near.ahead in
          absurd (omega (arith, at, from, ahead, h, longer))
      by Greater u (inr h) =
          let q = has_first gap.high (omega (arith, whole)) in
          let near = gap.first q.0 (ap (λ l. first_or l None) q.1.is) in
          let greater = near_greater cur num (subst (λ b. Walking f w start path b cur num) u k)
          parted q.0 near in
          let less : f q.0 ≡ Less = (subst (AllByRecursion (λ j. f j ≡ Less)) q.1.is gap.less).0 in
          absurd (cc)

-- of the indexes of a path, one that ends the search is the last
equal_ends : (f : ℕ → Ordering) (way : Ordering) (xs front : List ℕ) (j : ℕ) (back : List ℕ)
    → up_to f way xs ≡ front ++ j ∷ back → f j ≡ Equal → back ≡ []
equal_ends f way [] [] j back e equal = absurd (cc)
equal_ends f way [] (y ∷ front) j back e equal = absurd (cc)
equal_ends f way (x ∷ xs) [] j back e equal =
    let same : x ≡ j = cc in
    let rest : if_onward way (f x) (up_to f way xs) ≡ back = cc in
    sym rest ∙ ap (λ d. if_onward way d (up_to f way xs)) (ap f same ∙ equal)
    ∙ no_more way (up_to f way xs)
  where
    no_more : (way : Ordering) (is : List ℕ) → if_onward way Equal is ≡ []
    no_more Less is = refl
    no_more Equal is = refl
    no_more Greater is = refl
equal_ends f way (x ∷ xs) (y ∷ front) j back e equal =
    let rest : if_onward way (f x) (up_to f way xs) ≡ front ++ j ∷ back = cc in
    elim (all_or_none way (f x) (up_to f way xs)) [
      | inl all ↦ equal_ends f way xs front j back (sym all ∙ rest) equal
      | inr none ↦ absurd (not_none front (sym none ∙ rest))
    ]
  where
    all_or_none : (way d : Ordering) (is : List ℕ)
        → (if_onward way d is ≡ is) ⊎ (if_onward way d is ≡ [])
    all_or_none Less Less is = inl refl
    all_or_none Less Equal is = inr refl
    all_or_none Less Greater is = inr refl
    all_or_none Equal Less is = inr refl
    all_or_none Equal Equal is = inr refl
    all_or_none Equal Greater is = inr refl
    all_or_none Greater Less is = inr refl
    all_or_none Greater Equal is = inr refl
    all_or_none Greater Greater is = inl refl

    not_none : (front : List ℕ) → [] ≡ front ++ j ∷ back → ⊥
    not_none [] e = absurd (cc)
    not_none (z ∷ front) e = absurd (cc)

module _ (num down old mid new : ℕ) where
  pub place_ended : (path : List ℕ) (i : ℕ) → IsWalked num path (Some i) old mid → new ≡ mid
      → IsPlaceCounted num down path old new
  place_ended path i walked is =
      let few = walked.1 in
      let ticks = walked.2 in
      record { ended = λ h. is ∙ ticks; passed = λ h. absurd (omega (arith, few, h)) }

  pub place_passed : (path : List ℕ) → IsWalked num path None old mid → new ≡ mid + down
      → IsPlaceCounted num down path old new
  place_passed path walked is =
      let more = walked.0 in
      let ticks = walked.1 in
      record {
        ended = λ h. absurd (omega (arith, more, h));
        passed = λ h. omega (arith, ticks, is);
      }

  -- a path that was gone along whole
  whole : (path : List ℕ) (i : ℕ) → IsWalked num path (Some i) old mid → take num path ≡ path
  whole path i walked = take_all num path walked.1

  pub key_ended : (f : ℕ → Ordering) (path : List ℕ) (i : ℕ) → IsWalked num path (Some i) old mid
      → f i ≡ Equal → new ≡ mid → IsKeyCounted num down f path old new
  key_ended f path i walked equal is =
      let all = whole path i walked in
      let l = last_in path i walked.0 in
      let has : HasEnd f (take num path) =
      record {
        at = i;
        on = record { front = l.front; back = []; is = all ∙ l.is };
        equal = equal;
      } in
      record {
        ended = λ h. is ∙ walked.2 ∙ ap (λ z. old + length z) (sym all);
        passed = λ h. absurd (h has);
      }

  -- none of the indexes that were compared ends the search
  key_missed : (f : ℕ → Ordering) (path : List ℕ) → mid ≡ old + length (take num path)
      → (HasEnd f (take num path) → ⊥) → new ≡ mid + down → IsKeyCounted num down f path old new
  key_missed f path ticks not is =
      record { ended = λ h. absurd (not h); passed = λ h. omega (arith, ticks, is) }

  module _ (f : ℕ → Ordering) (way : Ordering) (xs : List ℕ) where
    abbrev path : List ℕ
    path = up_to f way xs

    pub key_passed : IsWalked num path None old mid → new ≡ mid + down
        → IsKeyCounted num down f path old new
    key_passed walked is =
        let more : num < length path = walked.0 in
        let made : length (take num path) ≡ num = length-take-le num path (omega (arith, more)) in
        key_missed f path (walked.1 ∙ ap (λ n. old + n) (sym made)) (λ has. never made more has) is
      where
        never : length (take num path) ≡ num → num < length path → HasEnd f (take num path) → ⊥
        never made more has =
            let front = has.on.front in
            let back = has.on.back in
            let rest = drop num path in
            let split : path ≡ front ++ has.at ∷ (back ++ rest) =
            sym (take-append-drop num path) ∙ ap (λ z. z ++ rest) has.on.is
            ∙ append_assoc front (has.at ∷ back) rest in
            let none : back ++ rest ≡ [] =
            equal_ends f way xs front has.at (back ++ rest) split has.equal in
            let long : length path ≡ length front + suc (length (back ++ rest)) = ap length split
            ∙ length-append front (has.at ∷ (back ++ rest)) in
            let short : length (back ++ rest) ≡ 0 = ap length none in
            let part : length (take num path) ≡ length front + suc (length back) =
            ap length has.on.is ∙ length-append front (has.at ∷ back) in
            omega (arith, long, short, part, made, more)

    pub key_other : (i : ℕ) → IsWalked num path (Some i) old mid → f i ≢ Equal → new ≡ mid + down
        → IsKeyCounted num down f path old new
    key_other i walked other is =
        let all = whole path i walked in
        key_missed f path (walked.2 ∙ ap (λ z. old + length z) (sym all)) (λ has. never all has) is
      where
        never : take num path ≡ path → HasEnd f (take num path) → ⊥
        never all has =
            let split : path ≡ has.on.front ++ has.at ∷ has.on.back = sym all ∙ has.on.is in
            let none : has.on.back ≡ [] =
            equal_ends f way xs has.on.front has.at has.on.back split has.equal in
            let last : last_or None path ≡ Some has.at =
            ap (last_or None) (split ∙ ap (λ z. has.on.front ++ has.at ∷ z) none)
            ∙ last_snoc has.on.front has.at in
            let first = walked.0 in
            let same : i ≡ has.at = cc in
            other (ap f same ∙ has.equal)

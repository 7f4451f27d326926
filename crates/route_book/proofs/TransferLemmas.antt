-- What a transfer leaves of entries that stood at the indexes from 1 on, in the order of their
-- lists: at each index what stood there.
use Rattle.std.proofs.Common.{◌≡◌, ◌≢◌, ◌⊎◌, ◌==◌, true, false, ◌∙◌, sym, ap, subst, refl, ℕ, zero}
use Rattle.std.proofs.Common.{suc, ◌+◌, ◌-◌, ◌<◌, ◌≤◌, inl, inr, List, [], ◌∷◌, ◌++◌, length, map}
use Rattle.std.proofs.Common.{replicate, slice_get, Option, Some, None, IsSome, is_some, true≢false}
use Rattle.std.proofs.Common.{arith}
use Rattle.std.specs.List.{range_with_len}
use Rattle.std.specs.Option.{option_map}
use Rattle.std.proofs.lemmas.Bool.{ne_eqb, eq-eqb}
use Rattle.std.proofs.lemmas.Bool.Decides.{eqb_tells, leb_tells}
use Rattle.std.proofs.lemmas.Option.{slice_get-map}
use Rattle.triple_arena.specs.Entries.{look_up}
use Rattle.triple_arena.specs.Compression.{value_of, generation_of, entry_of_listed}
use Rattle.linked_lists.specs.LinkedLists.{On}
use Rattle.linked_lists.specs.LinkedListLaws.{On-cons}
use Rattle.triple_arena_chain.specs.IterChains.{links_along}
use Rattle.linked_lists.specs.ChainLaws.{On-first}
use Rattle.triple_arena_ord.specs.Ascending.{entries_along}
use Rattle.route_book.proofs.OptionLemmas.{some_same}
use Rattle.triple_arena.specs.RiseLaws.{RiseFrom, low_none}

-- ---- successive indexes

pub run_on : (low n i : ℕ) → low ≤ i → i < low + n → On (range_with_len low n) i
run_on low zero i up less = absurd (omega (arith, up, less))
run_on low (suc n) i up less = elim (eqb_tells i low) [
  | inl same ↦ subst (On (low ∷ range_with_len (low + 1) n)) (sym same.1)
      (On-first low (range_with_len (low + 1) n))
  | inr other ↦ let no = other.1 in On-cons low i (range_with_len (low + 1) n)
      (run_on (low + 1) n i (omega (arith, up, no)) (omega (arith, less)))
]

-- what is behind some of them
pub split_run : (xs ys : List ℕ) (low n : ℕ) → xs ++ ys ≡ range_with_len low n
    → (length xs ≤ n) × (ys ≡ range_with_len (low + length xs) (n - length xs))
split_run [] ys low n is =
    let at : low + 0 ≡ low = omega arith in
    let all : n - 0 ≡ n = omega arith in (
      omega arith,
      is ∙ ap (λ a. range_with_len a n) (sym at) ∙ ap (range_with_len (low + 0)) (sym all),
    )
split_run (x ∷ xs) ys low zero is = absurd (let n = ap length is in omega (arith, n))
split_run (x ∷ xs) ys low (suc n) is =
    let tail : xs ++ ys ≡ range_with_len (low + 1) n = cc in
    let rest = split_run xs ys (low + 1) n tail in
    let at : (low + 1) + length xs ≡ low + suc (length xs) = omega arith in
    let left : n - length xs ≡ suc n - suc (length xs) = omega arith in
    let more = rest.0 in (
      omega (arith, more),
      rest.1 ∙ ap (λ a. range_with_len a (n - length xs)) at
          ∙ ap (range_with_len (low + suc (length xs))) left,
    )

pub on_run : (low n i : ℕ) → On (range_with_len low n) i → (low ≤ i) × (i < low + n)
on_run low n i on = by (n - length on.front) refl
    (split_run on.front (i ∷ on.back) low n (sym on.is))
  where
    by : (m : ℕ) → n - length on.front ≡ m → (length on.front ≤ n)
        × (i ∷ on.back ≡ range_with_len (low + length on.front) (n - length on.front))
        → (low ≤ i) × (i < low + n)
    by zero left split =
        let none : i ∷ on.back ≡ [] = split.1 ∙ ap (range_with_len (low + length on.front)) left in
        absurd (let k = ap length none in omega (arith, k))
    by (suc m) left split =
        let more : i ∷ on.back ≡ (low + length on.front) ∷ range_with_len
        (low + length on.front + 1) m = split.1
        ∙ ap (range_with_len (low + length on.front)) left in
        let first : i ≡ low + length on.front = cc in
        let most = split.0 in
        (omega (arith, first), omega (arith, first, most, left))

-- a renaming that leaves them as they are
pub fixed_run : (to : ℕ → ℕ) (low n : ℕ) → map to (range_with_len low n) ≡ range_with_len low n
    → (i : ℕ) → low ≤ i → i < low + n → to i ≡ i
fixed_run to low zero same i up less = absurd (omega (arith, up, less))
fixed_run to low (suc n) same i up less = elim (eqb_tells i low) [
  | inl first ↦ let own : to low ≡ low = cc in ap to first.1 ∙ own ∙ sym first.1
  | inr other ↦
      let no = other.1 in
      let tail : map to (range_with_len (low + 1) n) ≡ range_with_len (low + 1) n = cc in
      fixed_run to (low + 1) n tail i (omega (arith, up, no)) (omega (arith, less))
]

length_run : (low n : ℕ) → length (range_with_len low n) ≡ n
length_run low zero = refl
length_run low (suc n) = ap suc (length_run (low + 1) n)

-- ---- the entries along successive indexes

module _ {T : Type 0} where
  abbrev pub beside : ℕ → ℕ × T → ℕ × (ℕ × T)
  beside i e = (i, e)

  pub links_same : (at : ℕ → Option (ℕ × T)) (w : List ℕ) → links_along at w ≡ entries_along at w
  links_same at [] = refl
  links_same at (i ∷ w) = by (at i) refl (links_same at w)
    where
      by : (o : Option (ℕ × T)) → at i ≡ o → links_along at w ≡ entries_along at w
          → links_along at (i ∷ w) ≡ entries_along at (i ∷ w)
      by None is rest = rw is rest
      by (Some e) is rest = rw is (ap (λ l. (i, e) ∷ l) rest)

  along_short : (at : ℕ → Option (ℕ × T)) (w : List ℕ) (k : ℕ) → length w ≤ k
      → slice_get (entries_along at w) k ≡ None
  along_short at [] k up = refl
  along_short at (i ∷ w) zero up = absurd (omega (arith, up))
  along_short at (i ∷ w) (suc k) up = by (at i) refl (along_short at w (suc k) (omega (arith, up)))
      (along_short at w k (omega (arith, up)))
    where
      by : (o : Option (ℕ × T)) → at i ≡ o → slice_get (entries_along at w) (suc k) ≡ None
          → slice_get (entries_along at w) k ≡ None
          → slice_get (entries_along at (i ∷ w)) (suc k) ≡ None
      by None is same less = rw is same
      by (Some e) is same less = rw is less

  along_run : (at : ℕ → Option (ℕ × T)) (low n : ℕ)
      → ((i : ℕ) → low ≤ i → i < low + n → IsSome (at i)) → (k : ℕ) → k < n
      → slice_get (entries_along at (range_with_len low n)) k
      ≡ option_map (beside (low + k)) (at (low + k))
  along_run at low zero all k less = absurd (omega (arith, less))
  along_run at low (suc n) all zero less = by (at low) refl (all low (omega arith) (omega arith))
    where
      by : (o : Option (ℕ × T)) → at low ≡ o → IsSome o
          → slice_get (entries_along at (low ∷ range_with_len (low + 1) n)) 0
          ≡ option_map (beside (low + 0)) (at (low + 0))
      by None is some = absurd (true≢false (sym some))
      by (Some e) is some =
          let here : slice_get (entries_along at (low ∷ range_with_len (low + 1) n)) 0
          ≡ Some (low, e) = rw is refl in
          let same : low + 0 ≡ low = omega arith in
          here ∙ sym (ap (λ j. option_map (beside j) (at j)) same ∙ ap (option_map (beside low)) is)
  along_run at low (suc n) all (suc k) less =
      by (at low) refl (all low (omega arith) (omega arith))
      (along_run at (low + 1) n (λ i up high. all i (omega (arith, up)) (omega (arith, high))) k
      (omega (arith, less)))
    where
      by : (o : Option (ℕ × T)) → at low ≡ o → IsSome o
          → slice_get (entries_along at (range_with_len (low + 1) n)) k
          ≡ option_map (beside (low + 1 + k)) (at (low + 1 + k))
          → slice_get (entries_along at (low ∷ range_with_len (low + 1) n)) (suc k)
          ≡ option_map (beside (low + suc k)) (at (low + suc k))
      by None is some rest = absurd (true≢false (sym some))
      by (Some e) is some rest =
          let here : slice_get (entries_along at (low ∷ range_with_len (low + 1) n)) (suc k)
          ≡ slice_get (entries_along at (range_with_len (low + 1) n)) k = rw is refl in
          let next : (low + 1) + k ≡ low + suc k = omega arith in
          here ∙ rest ∙ ap (λ j. option_map (beside j) (at j)) next

  none_of : (o : Option (ℕ × T)) → (IsSome o → ⊥) → o ≡ None
  none_of None never = refl
  none_of (Some e) never = absurd (never refl)

  -- where these are the live indexes
  pub along_index : (at : ℕ → Option (ℕ × T)) (n : ℕ) → ((i : ℕ) → 1 ≤ i → i ≤ n → IsSome (at i))
      → ((i : ℕ) → IsSome (at i) → i ≤ n)
      → (k : ℕ) → slice_get (entries_along at (range_with_len 1 n)) k
      ≡ option_map (beside (k + 1)) (at (k + 1))
  along_index at n all only k = elim (leb_tells n k) [
    | inl past ↦
        let long = length_run 1 n in
        let up = past.1 in
        let none : at (k + 1) ≡ None = none_of (at (k + 1)) (λ some. (let top = only (k + 1) some in
        omega (arith, top, up))) in
        along_short at (range_with_len 1 n) k (omega (arith, long, up))
        ∙ sym (ap (option_map (beside (k + 1))) none)
    | inr less ↦
        let low : 1 + k ≡ k + 1 = omega arith in
        along_run at 1 n (λ i up high. all i up (omega (arith, high))) k less.1
        ∙ ap (λ j. option_map (beside j) (at j)) low
  ]

  -- the same of entries that are listed by rising index
  listed_run : (low : ℕ) (l : List (ℕ × (ℕ × T))) → RiseFrom low l
      → ((i : ℕ) → low ≤ i → i < low + length l → IsSome (look_up l i))
      → (k : ℕ) → slice_get l k ≡ option_map (beside (low + k)) (look_up l (low + k))
  unfolding RiseFrom
  listed_run low [] rise all k = refl
  listed_run low (e ∷ l) rise all k = by_first (first (eqb_tells e.0 low))
      (listed_run (low + 1) l) k
    where
      first : ((e.0 == low) ≡ true) × (e.0 ≡ low) ⊎ ((e.0 == low) ≡ false) × (e.0 ≢ low) → e.0 ≡ low
      first (inl same) = same.1
      first (inr other) =
          let up = rise.0 in
          let no = other.1 in
          let skip : look_up (e ∷ l) low ≡ look_up l low = rw other.0 refl in
          let none : look_up l low ≡ None = low_none (e.0 + 1) l rise.1 low
          (omega (arith, up, no)) in
          let some = all low (omega arith) (omega arith) in
          absurd (true≢false (sym some ∙ ap is_some (skip ∙ none)))

      by_first : e.0 ≡ low
          → (RiseFrom (low + 1) l → ((i : ℕ) → low + 1 ≤ i → i < low + 1 + length l
          → IsSome (look_up l i)) → (k : ℕ)
          → slice_get l k ≡ option_map (beside (low + 1 + k)) (look_up l (low + 1 + k)))
          → (k : ℕ) → slice_get (e ∷ l) k ≡ option_map (beside (low + k))
          (look_up (e ∷ l) (low + k))
      by_first is rest zero =
          let at : low + 0 ≡ e.0 = omega (arith, is) in
          let found : look_up (e ∷ l) e.0 ≡ Some e.1 = rw (eq-eqb e.0 e.0 refl) refl in
          sym (ap (λ j. option_map (beside j) (look_up (e ∷ l) j)) at
          ∙ ap (option_map (beside e.0)) found)
      by_first is rest (suc k) =
          let rises : RiseFrom (low + 1) l = subst (λ j. RiseFrom (j + 1) l) is rise.1 in
          let next : (low + 1) + k ≡ low + suc k = omega arith in
          let other : e.0 ≢ low + suc k = λ same. omega (arith, same, is) in
          let skip : look_up (e ∷ l) (low + suc k) ≡ look_up l (low + suc k) =
          rw (ne_eqb e.0 (low + suc k) other) refl in
          rest rises
          (λ i up high. subst IsSome (let over : look_up (e ∷ l) i ≡ look_up l i =
          rw (ne_eqb e.0 i (λ same. omega (arith, same, is, up))) refl in
          over) (all i (omega (arith, up)) (omega (arith, high)))) k
          ∙ ap (λ j. option_map (beside j) (look_up l j)) next
          ∙ sym (ap (option_map (beside (low + suc k))) skip)

  pub listed_index : (at : ℕ → Option (ℕ × T)) (l : List (ℕ × (ℕ × T))) (n : ℕ)
      → ((j : ℕ) → at j ≡ look_up l j) → RiseFrom 1 l → length l ≡ n
      → ((i : ℕ) → 1 ≤ i → i ≤ n → IsSome (at i)) → (k : ℕ)
      → slice_get l k ≡ option_map (beside (k + 1)) (at (k + 1))
  listed_index at l n lists rise long all k =
      let low : 1 + k ≡ k + 1 = omega arith in
      listed_run 1 l rise (λ i up high. subst IsSome (lists i)
      (all i up (omega (arith, high, long)))) k
      ∙ ap (λ j. option_map (beside j) (look_up l j)) low
      ∙ sym (ap (option_map (beside (k + 1))) (lists (k + 1)))

-- ---- what a transfer leaves

module _ {U T : Type 0} (given : U → T) (g : ℕ) where
  abbrev pub as_given : ℕ × U → ℕ × T
  as_given e = (g, given e.1)

  replicated : (n k x : ℕ) → slice_get (replicate n g) k ≡ Some x → x ≡ g
  replicated zero k x is = absurd (let no : ◌≡◌ {A = Option ℕ} None (Some x) = is in cc)
  replicated (suc n) zero x is = sym (some_same is)
  replicated (suc n) (suc k) x is = replicated n k x is

  module _ (n : ℕ) (at : ℕ → Option (ℕ × U)) (new : ℕ
      → Option (ℕ × T)) (order : List (ℕ × (ℕ × U))) (listed : List (ℕ × (ℕ × T)))
      (values : map value_of listed ≡ map (λ e. given e.1.1) order) (gens : map generation_of listed
      ≡ replicate n g)
      (entries : (k : ℕ) → new (k + 1) ≡ option_map entry_of_listed (slice_get listed k))
      (ordered : (k : ℕ) → slice_get order k ≡ option_map (beside (k + 1)) (at (k + 1))) where
    at_place : (k : ℕ) → option_map entry_of_listed (slice_get listed k)
        ≡ option_map as_given (at (k + 1))
    at_place k = by (slice_get listed k) refl (at (k + 1)) refl both
      where
        both : option_map value_of (slice_get listed k)
            ≡ option_map (λ (e : ℕ × (ℕ × U)). given e.1.1)
            (option_map (beside (k + 1)) (at (k + 1)))
        both = sym (slice_get-map value_of listed k) ∙ ap (λ v. slice_get v k) values
            ∙ slice_get-map (λ e. given e.1.1) order k
            ∙ ap (option_map (λ (e : ℕ × (ℕ × U)). given e.1.1)) (ordered k)

        by : (o : Option (ℕ × (ℕ × T))) → slice_get listed k ≡ o → (p : Option (ℕ × U))
            → at (k + 1) ≡ p
            → option_map value_of o ≡ option_map (λ (e : ℕ × (ℕ × U)). given e.1.1)
            (option_map (beside (k + 1)) p)
            → option_map entry_of_listed o ≡ option_map as_given p
        by None is None there same = refl
        by None is (Some e) there same = absurd (let no : ◌≡◌ {A =
            Option T} None (Some (given e.1)) = same in cc)
        by (Some y) is None there same = absurd (let no : ◌≡◌ {A = Option T} (Some y.1.1) None =
            same in cc)
        by (Some y) is (Some e) there same =
            let value : y.1.1 ≡ given e.1 = some_same same in
            let gen : y.1.0 ≡ g = replicated n k y.1.0 (ap (λ l. slice_get l k) (sym gens)
            ∙ slice_get-map generation_of listed k ∙ ap (option_map generation_of) is) in
            ap (λ v. Some (y.1.0, v)) value ∙ ap (λ h. Some (h, given e.1)) gen

    pub moved_as : at 0 ≡ None → new 0 ≡ None → (j : ℕ) → new j ≡ option_map as_given (at j)
    moved_as first first' zero = first' ∙ sym (ap (option_map as_given) first)
    moved_as first first' (suc k) =
        let next : k + 1 ≡ suc k = omega arith in
        ap new (sym next) ∙ entries k ∙ at_place k ∙ ap (λ j. option_map as_given (at j)) next

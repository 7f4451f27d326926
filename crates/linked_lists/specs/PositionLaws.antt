-- The place of an index in a list, counted from 1.
use Rattle.std.proofs.Common.{◌≡◌, ◌≢◌, ◌==◌, ℕ, ◌+◌, ◌-◌, ◌≤◌, List, [], ◌∷◌, ◌++◌, length, map}
use Rattle.std.proofs.Common.{refl, sym, ap, ◌∙◌, arith, inl, inr, if◌then◌else◌}
use Rattle.std.specs.List.{range_with_len}
use Rattle.std.proofs.lemmas.Bool.Decides.{eqb_tells}
use Rattle.linked_lists.specs.LinkedLists.{Off, On, Apart}
use Rattle.linked_lists.specs.ChainLaws.{On-first, On-back, on_differs}

-- the place of the first that is this index
abbrev pub place_in : List ℕ → ℕ → ℕ
place_in [] i = 1
place_in (x ∷ xs) i = if x == i then 1 else place_in xs i + 1

-- an index on a list is its first one, or is on the rest
pub data OnHow (x : ℕ) (xs : List ℕ) (i : ℕ) : Type 0 where
  here : x ≡ i → OnHow x xs i
  later : x ≢ i → On xs i → OnHow x xs i

pub on_how : (x : ℕ) (xs : List ℕ) (i : ℕ) → On (x ∷ xs) i → OnHow x xs i
on_how x xs i on =
    elim (eqb_tells x i) [
      | inl same ↦ here same.1
      | inr other ↦ by on.front on.back on.is other.1
    ]
  where
    by : (front back : List ℕ) → x ∷ xs ≡ front ++ i ∷ back → x ≢ i → OnHow x xs i
    by [] back is differs = absurd (let same : x ≡ i = cc in differs same)
    by (y ∷ front) back is differs =
        later differs (record
        { front = front; back = back; is = let rest : xs ≡ front ++ i ∷ back = cc in rest })

first_place : (x : ℕ) (xs : List ℕ) (i : ℕ) → x ≡ i → place_in (x ∷ xs) i ≡ 1
first_place x xs i same =
    elim (eqb_tells x i) [ inl is ↦ rw is.0 refl | inr other ↦ absurd (other.1 same) ]

next_place : (x : ℕ) (xs : List ℕ) (i : ℕ) → x ≢ i → place_in (x ∷ xs) i ≡ place_in xs i + 1
next_place x xs i differs =
    elim (eqb_tells x i) [ inl is ↦ absurd (differs is.1) | inr other ↦ rw other.0 refl ]

pub place_positive : (xs : List ℕ) (i : ℕ) → 1 ≤ place_in xs i
place_positive [] i = omega arith
place_positive (x ∷ xs) i =
    elim (eqb_tells x i) [
      | inl is ↦ let one = first_place x xs i is.1 in omega (arith, one)
      | inr other ↦ let more = next_place x xs i other.1 in omega (arith, more)
    ]

-- what follows a list moves no index on it
pub place_front : (xs ys : List ℕ) (i : ℕ) → On xs i → place_in (xs ++ ys) i ≡ place_in xs i
place_front [] ys i on = absurd (on_differs [] i i on tt refl)
place_front (x ∷ xs) ys i on =
    elim (on_how x xs i on) [
      | here same ↦ first_place x (xs ++ ys) i same ∙ sym (first_place x xs i same)
      | later differs there ↦
          next_place x (xs ++ ys) i differs ∙ ap (λ n. n + 1) (place_front xs ys i there)
          ∙ sym (next_place x xs i differs)
    ]

-- and an index that is not on it stands behind it
pub place_back : (xs ys : List ℕ) (i : ℕ) → Off xs i
    → place_in (xs ++ ys) i ≡ length xs + place_in ys i
place_back [] ys i off = omega arith
place_back (x ∷ xs) ys i off =
    let rest = place_back xs ys i off.1 in
    let more = next_place x (xs ++ ys) i off.0 in
    omega (arith, rest, more)

pub place_here : (xs ys : List ℕ) (i : ℕ) → Off xs i → place_in (xs ++ i ∷ ys) i ≡ length xs + 1
place_here xs ys i off = place_back xs (i ∷ ys) i off
    ∙ ap (λ n. length xs + n) (first_place i ys i refl)

pub place_within : (xs : List ℕ) (i : ℕ) → On xs i → place_in xs i ≤ length xs
place_within [] i on = absurd (on_differs [] i i on tt refl)
place_within (x ∷ xs) i on =
    elim (on_how x xs i on) [
      | here same ↦ let one = first_place x xs i same in omega (arith, one)
      | later differs there ↦
          let rest = place_within xs i there in
          let more = next_place x xs i differs in
          omega (arith, rest, more)
    ]

-- each place has its own index
pub place_apart : (xs : List ℕ) (i j : ℕ) → On xs i → On xs j → place_in xs i ≡ place_in xs j
    → i ≡ j
place_apart [] i j on on' same = absurd (on_differs [] i i on tt refl)
place_apart (x ∷ xs) i j on on' same =
    elim (on_how x xs i on) [
      | here is ↦
          elim (on_how x xs j on') [
            | here is' ↦ sym is ∙ is'
            | later differs there ↦
                absurd (
                let one = first_place x xs i is in
                let more = next_place x xs j differs in
                let some = place_positive xs j in
                omega (arith, one, more, some, same)
                )
          ]
      | later differs there ↦
          elim (on_how x xs j on') [
            | here is ↦
                absurd (
                let one = first_place x xs j is in
                let more = next_place x xs i differs in
                let some = place_positive xs i in
                omega (arith, one, more, some, same)
                )
            | later differs' there' ↦
                let first = next_place x xs i differs in
                let second = next_place x xs j differs' in
                place_apart xs i j there there' (omega (arith, first, second, same))
          ]
    ]

-- the index at a place
pub place_onto : (xs : List ℕ) (k : ℕ) → Apart xs → 1 ≤ k → k ≤ length xs
    → (i : ℕ) × On xs i × (place_in xs i ≡ k)
place_onto [] k apart low high = absurd (omega (arith, low, high))
place_onto (x ∷ xs) k apart low high =
    elim (eqb_tells k 1) [
      | inl one ↦ (x, On-first x xs, first_place x xs x refl ∙ sym one.1)
      | inr other ↦
          let differs : k ≢ 1 = other.1 in
          let rest = place_onto xs (k - 1) apart.1 (omega (arith, low, differs))
          (omega (arith, high)) in
          let apart_from : x ≢ rest.0 = λ same. on_differs xs x rest.0 rest.1 apart.0 (sym same) in
          let more = next_place x xs rest.0 apart_from in
          let at = rest.2 in (
            rest.0,
            On-back (x ∷ []) xs rest.0 rest.1,
            omega (arith, more, at, low),
          )
    ]

pub map_on : {A : Type 0} (f g : ℕ → A) (xs : List ℕ) → ((k : ℕ) → On xs k → f k ≡ g k)
    → map f xs ≡ map g xs
map_on f g [] same = refl
map_on f g (x ∷ xs) same =
    ap (λ y. y ∷ map f xs) (same x (On-first x xs))
    ∙ ap (λ l. g x ∷ l) (map_on f g xs (λ k on. same k (On-back (x ∷ []) xs k on)))

places_from : (u : ℕ) (xs : List ℕ) → Apart xs
    → map (λ k. u + place_in xs k) xs ≡ range_with_len (u + 1) (length xs)
places_from u [] apart = refl
places_from u (x ∷ xs) apart =
    let one : u + place_in (x ∷ xs) x ≡ u + 1 = ap (λ n. u + n) (first_place x xs x refl) in
    ap (λ y. y ∷ map (λ k. u + place_in (x ∷ xs) k) xs) one
    ∙ ap (λ l. (u + 1) ∷ l)
    (map_on (λ k. u + place_in (x ∷ xs) k) (λ k. u + 1 + place_in xs k) xs
    (λ k on. let more = next_place x xs k (λ same. on_differs xs x k on apart.0 (sym same)) in
    omega (arith, more))
    ∙ places_from (u + 1) xs apart.1)

-- the places of a list are a run
pub places_run : (xs : List ℕ) → Apart xs → map (place_in xs) xs ≡ range_with_len 1 (length xs)
places_run xs apart =
    map_on (place_in xs) (λ k. 0 + place_in xs k) xs (λ k on. omega arith) ∙ places_from 0 xs apart

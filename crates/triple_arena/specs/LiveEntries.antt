-- The live entries of a content as one list.
use Rattle.std.proofs.Common.{◌≡◌, ℕ, zero, suc, ◌+◌, ◌<◌, ◌≤◌, List, [], ◌∷◌, length, map, get_or}
use Rattle.std.proofs.Common.{slice_index, Option, Some, None, is_some, count_by, cond, filter_map}
use Rattle.std.proofs.Common.{option_map, arith, refl, sym, ap, ◌∙◌}
use Rattle.std.proofs.lemmas.Bool.{eq-eqb, ne_eqb}
use Rattle.std.proofs.lemmas.List.Sums.{sum_by-cons}
use Rattle.std.specs.List.{enumerate_from}
use Rattle.std.specs.List.Sorted.{IsStrictlyIncreasing}
use Rattle.triple_arena.specs.Entries.{look_up}
use Rattle.triple_arena.specs.Content.{Content, entry_at, live_count}

module _ {T : Type 0} where
  -- what stands at places from this number on: the number, generation and value of each that is
  -- live
  abbrev pub listed_from : ℕ → List (Option (ℕ × T)) → List (ℕ × (ℕ × T))
  listed_from n slots = filter_map (λ slot. option_map (λ entry. (slot.0, entry)) slot.1)
      (enumerate_from n slots)

  -- the index, generation and value of each entry that these slots show, from index 1 on
  abbrev pub listed_by : {X : Type 0} → (X → Option (ℕ × T)) → List X → List (ℕ × (ℕ × T))
  listed_by shown slots = listed_from 1 (map shown slots)

  -- the index, generation and value of each live entry, in the order of the indexes
  abbrev pub live_entries : Content T → List (ℕ × (ℕ × T))
  live_entries c = listed_from 1 c.slots

  -- the numbers are not below the first one
  absent_below : (n i : ℕ) (xs : List (Option (ℕ × T))) → i < n
      → look_up (listed_from n xs) i ≡ None
  absent_below n i [] below = refl
  absent_below n i (None ∷ xs) below = absent_below (n + 1) i xs (omega arith)
  absent_below n i (Some e ∷ xs) below
      = rw (ne_eqb n i (λ same. omega arith)) (absent_below (n + 1) i xs (omega arith))

  -- what is listed under a number
  pub listed_at : (n k : ℕ) (xs : List (Option (ℕ × T)))
      → look_up (listed_from n xs) (n + k) ≡ get_or xs k None
  listed_at n k [] = refl
  listed_at n zero (None ∷ xs) = absent_below (n + 1) (n + 0) xs (omega arith)
  listed_at n zero (Some e ∷ xs) = rw (eq-eqb n (n + 0) (omega arith)) refl
  listed_at n (suc k) (None ∷ xs) =
      let next : n + suc k ≡ (n + 1) + k = omega arith in
      ap (look_up (listed_from (n + 1) xs)) next ∙ listed_at (n + 1) k xs
  listed_at n (suc k) (Some e ∷ xs) =
      let next : n + suc k ≡ (n + 1) + k = omega arith in
      rw (ne_eqb n (n + suc k) (λ same. omega arith))
      (ap (look_up (listed_from (n + 1) xs)) next ∙ listed_at (n + 1) k xs)

  -- the entry at each index is the one that is listed under it
  pub entry-listed : (c : Content T) (i : ℕ) → entry_at c i ≡ look_up (live_entries c) i
  entry-listed c zero = sym (absent_below 1 0 c.slots (omega arith))
  entry-listed c (suc k) =
      let first : 1 + k ≡ suc k = omega arith in
      sym (ap (look_up (live_entries c)) (sym first) ∙ listed_at 1 k c.slots)

  -- so many are listed as are live
  pub listed-length : (n : ℕ) (xs : List (Option (ℕ × T)))
      → length (listed_from n xs) ≡ count_by is_some xs
  listed-length n [] = refl
  listed-length n (None ∷ xs) = let rest = listed-length (n + 1) xs in omega arith
  listed-length n (Some e ∷ xs) =
      let rest = listed-length (n + 1) xs in
      let more : count_by is_some (Some e ∷ xs) ≡ 1 + count_by is_some xs =
      sum_by-cons (λ o. cond (is_some o) 1 0) (Some e) xs in
      omega arith

  pub live_entries-length : (c : Content T) → length (live_entries c) ≡ live_count c
  live_entries-length c = listed-length 1 c.slots

  first_index : (n : ℕ) (xs : List (Option (ℕ × T)))
      → 0 < length (map (λ (e : ℕ × (ℕ × T)). e.0) (listed_from n xs))
      → n ≤ slice_index (map (λ (e : ℕ × (ℕ × T)). e.0) (listed_from n xs)) 0
  first_index n [] some = absurd (omega arith)
  first_index n (None ∷ xs) some = let rest = first_index (n + 1) xs some in omega arith
  first_index n (Some e ∷ xs) some = omega arith

  listed-increases : (n : ℕ) (xs : List (Option (ℕ × T)))
      → IsStrictlyIncreasing (map (λ (e : ℕ × (ℕ × T)). e.0) (listed_from n xs))
  listed-increases n [] k below = absurd (omega arith)
  listed-increases n (None ∷ xs) k below = listed-increases (n + 1) xs k below
  listed-increases n (Some e ∷ xs) zero below = let rest =
      first_index (n + 1) xs (omega arith) in omega arith
  listed-increases n (Some e ∷ xs) (suc k) below =
      let next : suc k + 1 ≡ suc (k + 1) = omega arith in
      rw next (listed-increases (n + 1) xs k (omega arith))

  -- and their indexes increase
  pub live_entries-increase : (c : Content T)
      → IsStrictlyIncreasing (map (λ (e : ℕ × (ℕ × T)). e.0) (live_entries c))
  live_entries-increase c = listed-increases 1 c.slots

-- What is written and what is left of a list that is read from its start.
use Rattle.std.proofs.Common.{◌≡◌, ◌∙◌, ap, refl, ℕ, zero, suc, ◌+◌, ◌≤◌, List, [], ◌∷◌, ◌++◌}
use Rattle.std.proofs.Common.{length, take, drop, map, arith}
use Rattle.ord_map_c.specs.Entries.{Entry, pointer_of, place_of}

module _ {X : Type 0} where
  pub first_part : (xs ys zs : List X) (n : ℕ) → length xs ≡ n → xs ++ ys ≡ zs → xs ≡ take n zs
  first_part [] ys zs zero size is = refl
  first_part [] ys zs (suc n) size is = absurd (omega (arith, size))
  first_part (x ∷ xs) ys [] n size is = absurd (cc)
  first_part (x ∷ xs) ys (z ∷ zs) zero size is = absurd (omega (arith, size))
  first_part (x ∷ xs) ys (z ∷ zs) (suc n) size is =
      let tail : xs ++ ys ≡ zs = cc in
      let head : x ≡ z = cc in
      ap (λ l. x ∷ l) (first_part xs ys zs n (omega (arith, size)) tail)
      ∙ ap (λ y. y ∷ take n zs) head

  pub last_part : (xs ys zs : List X) (n : ℕ) → length xs ≡ n → xs ++ ys ≡ zs → ys ≡ drop n zs
  last_part [] ys zs zero size is = is
  last_part [] ys zs (suc n) size is = absurd (omega (arith, size))
  last_part (x ∷ xs) ys [] n size is = absurd (cc)
  last_part (x ∷ xs) ys (z ∷ zs) zero size is = absurd (omega (arith, size))
  last_part (x ∷ xs) ys (z ∷ zs) (suc n) size is =
      let tail : xs ++ ys ≡ zs = cc in
      last_part xs ys zs n (omega (arith, size)) tail

  pub taken_length : (xs : List X) (n : ℕ) → n ≤ length xs → length (take n xs) ≡ n
  taken_length xs zero fits = refl
  taken_length [] (suc n) fits = absurd (omega (arith, fits))
  taken_length (x ∷ xs) (suc n) fits = ap suc (taken_length xs n (omega (arith, fits)))

  pub parts_length : (xs ys zs : List X) → xs ++ ys ≡ zs → length xs + length ys ≡ length zs
  parts_length [] ys zs is = (let size = ap length is in omega (arith, size))
  parts_length (x ∷ xs) ys [] is = absurd (cc)
  parts_length (x ∷ xs) ys (z ∷ zs) is =
      let tail : xs ++ ys ≡ zs = cc in
      let size = parts_length xs ys zs tail in
      omega (arith, size)

module _ {X Y : Type 0} (f : X → Y) where
  pub mapped_length : (xs : List X) → length (map f xs) ≡ length xs
  mapped_length [] = refl
  mapped_length (x ∷ xs) = ap suc (mapped_length xs)

  pub mapped_take : (n : ℕ) (xs : List X) → take n (map f xs) ≡ map f (take n xs)
  mapped_take zero xs = refl
  mapped_take (suc n) [] = refl
  mapped_take (suc n) (x ∷ xs) = ap (λ l. f x ∷ l) (mapped_take n xs)

  pub mapped_drop : (n : ℕ) (xs : List X) → drop n (map f xs) ≡ map f (drop n xs)
  mapped_drop zero xs = refl
  mapped_drop (suc n) [] = refl
  mapped_drop (suc n) (x ∷ xs) = mapped_drop n xs

  -- what was written of a list, each by its image
  pub written : (ys : List Y) (left run : List X) (n : ℕ) → length ys ≡ n
      → ys ++ map f left ≡ map f run → ys ≡ map f (take n run)
  written ys left run n size is =
      first_part ys (map f left) (map f run) n size is ∙ mapped_take n run

-- the place behind what was written
pub placed : (l m : List Entry) → map pointer_of l ≡ map pointer_of m → place_of l ≡ place_of m
placed [] [] is = refl
placed [] (y ∷ m) is = absurd (cc)
placed (x ∷ l) [] is = absurd (cc)
placed (x ∷ l) (y ∷ m) is = cc

-- The values of the links as one list.
use Rattle.std.proofs.Common.{◌≡◌, ℕ, suc, ◌+◌, List, [], ◌∷◌, map, get_or, Option, Some, None}
use Rattle.std.proofs.Common.{option_map, refl, ap, ◌∙◌}
use Rattle.triple_arena.specs.Content.{Content}
use Rattle.triple_arena.specs.LiveEntries.{listed_from}
use Rattle.triple_arena_chain.specs.LinkShape.{IndexLink}
use Rattle.triple_arena_chain.specs.Links.{valued, values_in}
use Rattle.triple_arena_chain.specs.Listed.{listed_value, listed_values}

module _ {T : Type 0} where
  -- the value in a slot
  abbrev shown : Option (ℕ × IndexLink T) → Option (ℕ × T)
  shown slot = option_map valued slot

  -- those of slots that have the indexes from this one on
  abbrev listed : ℕ → List (Option (ℕ × IndexLink T)) → List (ℕ × (ℕ × T))
  listed n slots = map listed_value (listed_from n slots)

  -- the same at each place is listed alike, also where one of the two ends earlier
  listed_same : (n : ℕ) (xs ys : List (Option (ℕ × IndexLink T)))
      → ((k : ℕ) → shown (get_or ys k None) ≡ shown (get_or xs k None))
      → listed n ys ≡ listed n xs
  listed_same n [] [] same = refl
  listed_same n [] (None ∷ ys) same = listed_same (n + 1) [] ys (λ k. same (suc k))
  listed_same n [] (Some f ∷ ys) same = absurd (let none = same 0 in cc)
  listed_same n (None ∷ xs) [] same = listed_same (n + 1) xs [] (λ k. same (suc k))
  listed_same n (Some e ∷ xs) [] same = absurd (let none = same 0 in cc)
  listed_same n (None ∷ xs) (None ∷ ys) same = listed_same (n + 1) xs ys (λ k. same (suc k))
  listed_same n (None ∷ xs) (Some f ∷ ys) same = absurd (let none = same 0 in cc)
  listed_same n (Some e ∷ xs) (None ∷ ys) same = absurd (let none = same 0 in cc)
  listed_same n (Some e ∷ xs) (Some f ∷ ys) same =
      let here : Some (valued f) ≡ Some (valued e) = same 0 in
      let is : valued f ≡ valued e = cc in
      ap (λ v. (n, v) ∷ listed (n + 1) ys) is
      ∙ ap (λ l. (n, valued e) ∷ l) (listed_same (n + 1) xs ys (λ k. same (suc k)))

  -- the same values at the same indexes
  pub values_listed : (c d : Content (IndexLink T)) → ((j : ℕ) → values_in d j ≡ values_in c j)
      → listed_values d ≡ listed_values c
  values_listed c d same = listed_same 1 c.slots d.slots (λ k. same (suc k))

  -- where no index is live, no value is listed
  pub none_listed : (c : Content (IndexLink T)) → ((j : ℕ) → values_in c j ≡ None)
      → listed_values c ≡ []
  none_listed c none = listed_same 1 [] c.slots (λ k. none (suc k))

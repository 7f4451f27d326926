-- What free slots name as their neighbors, and the list without its greatest index.
use Rattle.std.proofs.Common.{◌≡◌, ℕ, ◌+◌, ◌≤◌, List, [], ◌∷◌, ◌++◌, Option, Some, None, filter}
use Rattle.std.proofs.Common.{ltb, inl, inr, refl, sym, ap, ◌∙◌, arith}
use Rattle.std.proofs.lemmas.Bool.{le-ltb, lt-ltb, le-leb}
use Rattle.std.proofs.lemmas.Bool.Decides.{eqb_tells}
use Rattle.std.proofs.lemmas.List.Elements.{filter-append}
use Rattle.std.specs.Option.{option_map}
use Rattle.linked_lists.specs.LinkedLists.{Ends, next_in, prev_in, first_or, last_or, IsSegment}
use Rattle.linked_lists.specs.LinkedLists.{IsLinear, Off}
use Rattle.linked_lists.specs.LinkedListLaws.{Below, Below-front, Below-back, last_is, segment-back}
use Rattle.triple_arena.specs.FreeLinks.{neighbors_behind}
use Rattle.triple_arena.specs.Layout.{head_after}
use Rattle.triple_arena.specs.Slot.{index_up_to}

below_all : (n : ℕ) (l : List ℕ) → Below (n + 1) l → Off l n → filter (λ j. ltb j n) l ≡ l
below_all n [] all off = refl
below_all n (i ∷ l) all off =
    rw (lt-ltb i n (omega (arith, all.0, off.0))) (ap (λ m. i ∷ m) (below_all n l all.1 off.1))

-- those below the greatest one, which comes once
pub below_greatest : (n : ℕ) (xs ys : List ℕ) → Below (n + 1) (xs ++ n ∷ ys) → Off xs n → Off ys n
    → filter (λ j. ltb j n) (xs ++ n ∷ ys) ≡ xs ++ ys
below_greatest n xs ys all off_xs off_ys =
    let here : filter (λ j. ltb j n) (n ∷ ys) ≡ filter (λ j. ltb j n) ys =
    rw (le-ltb n n (omega arith)) refl in
    filter-append (λ j. ltb j n) xs (n ∷ ys)
    ∙ ap (λ m. m ++ filter (λ j. ltb j n) (n ∷ ys))
    (below_all n xs (Below-front (n + 1) xs (n ∷ ys) all) off_xs)
    ∙ ap (λ m. xs ++ m) (here ∙ below_all n ys (Below-back (n + 1) xs (n ∷ ys) all).1 off_ys)

-- the neighbors on a list of indexes of a type are indexes of it
within_type : (n : ℕ) (o : Option ℕ) → ((x : ℕ) → o ≡ Some x → x ≤ n) → index_up_to n o ≡ o
within_type n None all = refl
within_type n (Some x) all = rw (le-leb x n (all x refl)) refl

first_up_to : (n : ℕ) (l : List ℕ) → Below (n + 1) l → (x : ℕ) → first_or l None ≡ Some x → x ≤ n
first_up_to n [] all x is = absurd (let no : None ≡ Some x = is in cc)
first_up_to n (y ∷ l) all x is =
    let same : y ≡ x = cc in
    let below = all.0 in
    omega (arith, same, below)

pub neighbors_shown : (n : ℕ) (b : Option ℕ) (l : List ℕ) (i : ℕ) → ((x : ℕ) → b ≡ Some x → x ≤ n)
    → Below (n + 1) l
    → option_map (λ (e : Ends). (index_up_to n e.0, index_up_to n e.1)) (neighbors_behind b l i)
    ≡ neighbors_behind b l i
neighbors_shown n b [] i before all = refl
neighbors_shown n b (x ∷ l) i before all =
    elim (eqb_tells x i) [
      | inl same ↦ rw (
        same.0,
        within_type n b before,
        within_type n (first_or l None) (first_up_to n l all.1),
      ) refl
      | inr other ↦ rw other.0
          (neighbors_shown n (Some x) l i
          (λ y is. let same : x ≡ y = cc in let below = all.0 in omega (arith, same, below)) all.1)
    ]

module _ (e : ℕ → Option Ends) where
  -- what stands at an index is the pair of its neighbors on the list, if what is on no list has
  -- none
  pub listed_neighbors : (b : Option ℕ) (l : List ℕ) (i : ℕ) → IsSegment e b l None
      → (Off l i → e i ≡ None) → e i ≡ neighbors_behind b l i
  listed_neighbors b [] i s off = off tt
  listed_neighbors b (x ∷ l) i s off =
      elim (eqb_tells x i) [
        | inl same ↦ rw same.0 (ap e (sym same.1) ∙ s.0)
        | inr other ↦ rw other.0
            (listed_neighbors (Some x) l i s.1 (λ missed. off (other.1, missed)))
      ]

-- the head of a list that an index left
pub head_taken : (e : ℕ → Option Ends) (xs ys : List ℕ) (i : ℕ) (head prev next : Option ℕ)
    → IsLinear e (xs ++ i ∷ ys) → e i ≡ Some (prev, next) → head ≡ first_or (xs ++ i ∷ ys) None
    → head_after head prev next ≡ first_or (xs ++ ys) None
head_taken e [] ys i head prev next s at is =
    let both : Some (prev, next) ≡ Some (None, first_or ys None) = sym at ∙ s.0 in
    rw (ap prev_in both) (ap next_in both)
head_taken e (x ∷ xs) ys i head prev next s at is =
    let both : Some (prev, next) ≡ Some (last_or (Some x) xs, first_or ys None) = sym at
    ∙ (segment-back e None None (x ∷ xs) (i ∷ ys) s).0 in
    let some = last_is x xs in
    rw (ap prev_in both, some.1) is

-- What a search asks of a closure, and where.
use Rattle.std.specs.Prelude.{◌≡◌, ℕ, ◌+◌, ◌≤◌, List, [], ◌∷◌, length, map, Option, Some, None}
use Rattle.std.specs.Borrow.{Bor}
use Rattle.std.specs.List.{FoldsTo, AllByRecursion, last_or}
use Rattle.std.specs.declared.cmp.Ordering.{Ordering}
use Rattle.std.specs.declared.cmp.Ordering.TheVariants.{Less, Equal, Greater}
use Rattle.linked_lists.specs.LinkedLists.{On}
use Rattle.rank_tree.specs.Comparisons.{most_comparisons}
use Rattle.rank_tree.specs.Tree.{rank_of}
use Rattle.triple_arena_ord.specs.Ordered.{Ordered, entry_in, size_in, tree_in}

-- what an answer leaves of a list, where this stands before and that after the index that was asked
abbrev pub left_by : Ordering → List ℕ → List ℕ → List ℕ
left_by Less before after = before
left_by Equal before after = []
left_by Greater before after = after

-- each index that is asked stands in what the answers before it leave of the list, and the last
-- answer leaves nothing
abbrev pub IsWay : List (ℕ × Ordering) → List ℕ → Type 0
IsWay [] left = left ≡ []
IsWay (a ∷ asked) left = (on : On left a.0) × IsWay asked (left_by a.1 on.front on.back)

-- the pointer, the item that was lent, and the answer
pub record Question (P T : Type 0) : Type 0 where
  pub pointer : P
  pub lent : Bor T
  pub answer : Ordering

module _ {P T F : Type 0} (index generation : P → ℕ) (step : F → P → Bor T → Ordering → F
    → Type 0) where
  -- a closure was asked at entries, which stand on a way through the list, once a tick. The result
  -- is the last of these entries with its answer
  pub record IsAsked (entry : ℕ → Option (ℕ × T)) (order : List ℕ) (f : F)
      (result : Option (P × Ordering)) (old_ticks new_ticks : ℕ) : Type 0 where
    pub questions : List (Question P T)
    pub last : F
    pub made : FoldsTo (λ g q h. step g q.pointer q.lent q.answer h) f questions last
    pub entries : AllByRecursion
        (λ (q : Question P T). entry (index q.pointer)
        ≡ Some (generation q.pointer, q.lent.now)) questions
    pub way : IsWay (map (λ (q : Question P T). (index q.pointer, q.answer)) questions) order
    pub ends : result ≡ last_or None (map (λ (q : Question P T). (q.pointer, q.answer)) questions)
    pub ticks : new_ticks ≡ old_ticks + length questions

  -- a closure in the state f comes to the state g by being asked
  abbrev pub Reaches : F → F → Type 0
  Reaches f g = (questions : List (Question P T))
      × FoldsTo (λ g q h. step g q.pointer q.lent q.answer h) f questions g

  -- from the state f on, the answers depend on the pointer and the item alone
  abbrev pub AnswersBy : F → (ℕ → ℕ × T → Ordering) → Type 0
  AnswersBy f side = (g : F) → Reaches f g → (p : P) (t : Bor T) (d : Ordering) (h : F)
      → step g p t d h
      → d ≡ side (index p) (generation p, t.now)

-- so many comparisons are within the tree's rank, and within what any search of so many entries
-- makes at most
abbrev pub IsWithinBound : {T : Type 0} → ℕ → Ordered T → Type 0
IsWithinBound ticks o = (ticks ≤ rank_of (tree_in o)) × (ticks ≤ most_comparisons (size_in o))

-- the pointer to the entry that ended the questions
abbrev pub found_by : {P : Type 0} → Option (P × Ordering) → Option P
found_by None = None
found_by {P} (Some a) = at a.1
  where
    at : Ordering → Option P
    at Less = None
    at Equal = Some a.0
    at Greater = None

-- the answer at an entry, and Equal where there is none
abbrev pub answer_of : {T : Type 0} → (ℕ → ℕ × T → Ordering) → ℕ → Option (ℕ × T) → Ordering
answer_of side i None = Equal
answer_of side i (Some e) = side i e

abbrev pub answer_at : {T : Type 0} → (ℕ → ℕ × T → Ordering) → Ordered T → ℕ → Ordering
answer_at side o i = answer_of side i (entry_in o i)

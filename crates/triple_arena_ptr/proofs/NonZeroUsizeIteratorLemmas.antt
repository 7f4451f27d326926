-- The ends of the numbers from one to another.
use Rattle.std.proofs.Common.{◌≡◌, ℕ, zero, suc, ◌+◌, ◌-◌, ◌≤◌, List, [], ◌∷◌, ◌++◌, length, Some}
use Rattle.std.proofs.Common.{sym, ◌∙◌, ap, arith}
use Rattle.std.specs.Prelude.{⊤}
use Rattle.std.specs.List.{range_with_len}
use Rattle.std.specs.Iterator.{MakesProgress, item_count}
use Rattle.triple_arena_ptr.specs.NonZeroUsizeIterator.{numbers_through}

-- the first number, and those after it
pub numbers_front : (first second last : ℕ) → first ≤ last → second ≡ first + 1
    → numbers_through first last ≡ first ∷ numbers_through second last
numbers_front first second last within next =
    let count : last + 1 - first ≡ suc (last + 1 - second) = omega arith in
    ap (range_with_len first) count
    ∙ ap (λ k. first ∷ range_with_len k (last + 1 - second)) (sym next)

range_with_len-suc : (a n : ℕ) → range_with_len a (suc n) ≡ range_with_len a n ++ (a + n) ∷ []
range_with_len-suc a zero = ap (λ k. k ∷ []) (omega arith)
range_with_len-suc a (suc n) =
    let end : a + 1 + n ≡ a + suc n = omega arith in
    ap (λ l. a ∷ l) (range_with_len-suc (a + 1) n
    ∙ ap (λ k. range_with_len (a + 1) n ++ k ∷ []) end)

-- the last number, and those before it
pub numbers_back : (first last before taken : ℕ) → first ≤ last → last ≡ before + 1 → taken ≡ last
    → numbers_through first last ≡ numbers_through first before ++ taken ∷ []
numbers_back first last before taken within next is_last =
    let count : last + 1 - first ≡ suc (before + 1 - first) = omega arith in
    let end : first + (before + 1 - first) ≡ taken = omega arith in
    ap (range_with_len first) count
    ∙ range_with_len-suc first (before + 1 - first)
    ∙ ap (λ k. numbers_through first before ++ k ∷ []) end

-- a call that gives an item leaves fewer
pub fewer_left : {A : Type 0} (x : A) (before after : List ℕ) → length before ≡ suc (length after)
    → MakesProgress (λ _. ⊤) (item_count (λ left. left)) before (Some x) after
fewer_left x before after one =
    record { on = λ finite. (tt, finite, omega arith); keeps = tt; rests = λ _. tt }

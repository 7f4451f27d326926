-- Marks whose tickets rise, and counters that do not wrap.
use Rattle.std.proofs.Common.{◌≡◌, ◌∙◌, sym, subst, refl, Bool, true, false, ◌==◌, ℕ, ◌+◌, ◌<◌}
use Rattle.std.proofs.Common.{List, [], ◌∷◌, Option, Some, None, true≢false, arith}
use Rattle.std.specs.List.{AllByRecursion}
use Rattle.std.proofs.lemmas.Bool.{ne_eqb}
use Rattle.triple_arena_ptr.specs.Generation.{next_generation, next_wraps, second_generation}
use Rattle.route_lines.specs.Sound.{MarksRise}
use Rattle.route_lines.specs.State.{Mark, mark_of}
use Rattle.route_book.specs.Book.{MarksDiffer}
use Rattle.route_book.specs.Rooms.{counts_short}

-- no two marks have one ticket where their tickets rise
pub differ_of_rise : (marks : List Mark) → MarksRise marks → MarksDiffer marks
differ_of_rise [] rise = tt
differ_of_rise (m ∷ marks) rise = (none marks rise.0, differ_of_rise marks rise.1)
  where
    none : (xs : List Mark) → AllByRecursion (λ n. m.ticket < n.ticket) xs
        → mark_of xs m.ticket ≡ None
    none [] all = refl
    none (x ∷ xs) all = let less = all.0 in
        rw (ne_eqb x.ticket m.ticket (λ same. omega (arith, less, same))) (none xs all.1)

-- a step of a counter that does not wrap goes one up
pub one_up : (final : Option ℕ) (g top : ℕ) → final ≡ Some top → next_wraps final g ≡ false
    → next_generation final g ≡ g + 1
one_up final g top is calm =
    rw is (let c : (g == top) ≡ false = subst (λ f. next_wraps f g ≡ false) is calm in rw c refl)

-- generations that count to 3: the last one is a number, and the step from 2 is to 3
pub counts_on : (final : Option ℕ) → counts_short final ≡ false
    → (top : ℕ) × ((final ≡ Some top) × (next_wraps final (second_generation final) ≡ false))
counts_on None long = absurd (true≢false (sym (let no : true ≡ false = long in sym no)))
counts_on (Some top) long = (top, (refl, by (2 == top) refl))
  where
    by : (b : Bool) → (2 == top) ≡ b → (2 == top) ≡ false
    by false is = is
    by true is = absurd (true≢false
        (let no : counts_short (Some top) ≡ true = rw is refl in sym no ∙ long))

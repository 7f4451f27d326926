use Rattle.std.proofs.Common.{◌≡◌, ◌≤◌, ℕ, List, length, rules, tests, ◌∙◌, arith}
use Rattle.std.specs.List.{list_all}
use Rattle.std.proofs.lemmas.Bool.Decides.{nat_tests}
use Rattle.std.proofs.lemmas.Iterator.{YieldsList-from_slice}
use Rattle.std.proofs.lemmas.Iterator.Search.{all_from_yields_List}
use Rattle.route_lines.specs.Word.{is_word, is_word_byte}
use Rattle.route_lines.proofs.word.is_word.Goals as goal

in_range : (bytes : List ℕ) → 1 ≤ length bytes → length bytes ≤ 16
    → list_all is_word_byte bytes ≡ is_word bytes
in_range bytes low high = grind (arith, nat_tests)

pub returns-in-1-to-16 : goal.returns-in-1-to-16
returns-in-1-to-16 c =
    let bytes = c.args.bytes.now in
    all_from_yields_List is_word_byte _ _ _ c.all.ensures.ran (YieldsList-from_slice bytes cc)
    (λ x b q k. search (rules, tests))
    ∙ in_range bytes (omega arith) (omega arith)

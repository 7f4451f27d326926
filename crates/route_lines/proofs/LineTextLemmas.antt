-- Texts within a line: which bytes they have, and how many.
use Rattle.std.proofs.Common.{lit≤, ◌≡◌, ℕ, ◌+◌, ◌≤◌, ◌==◌, ◌||◌, Bool, true, false, List, [], ◌∷◌}
use Rattle.std.proofs.Common.{◌++◌, length, refl, arith, decimal, length-append}
use Rattle.std.proofs.lemmas.Bool.Decides.{nat_tests}
use Rattle.std.proofs.lemmas.Fmt.{decimal_nonempty, length-decimal-le}
use Rattle.std.proofs.lemmas.List.Elements.{All-from_get_or}
use Rattle.std.proofs.lemmas.List.Folds.{list_all-append}
use Rattle.std.proofs.lemmas.List.Sums.{AllPass-from_list_all}
use Rattle.std.specs.List.{list_all}
use Rattle.route_lines.specs.Number.{IsNumber}
use Rattle.route_lines.specs.Unfinished.{HasNoLineEnd}
use Rattle.route_lines.specs.Word.{IsWord, is_word_byte}
use Rattle.route_lines.proofs.NumberLemmas.{both}
use Rattle.route_lines.proofs.WordLemmas.{word_bytes-decimal, word_parts}

abbrev pub is_line_byte : ℕ → Bool
is_line_byte b = is_word_byte b || b == 32

line_bytes-from_word_bytes : (bytes : List ℕ) → list_all is_word_byte bytes ≡ true
    → list_all is_line_byte bytes ≡ true
line_bytes-from_word_bytes [] words = refl
line_bytes-from_word_bytes (b ∷ bs) words =
    let parts = both (is_word_byte b) (list_all is_word_byte bs) words in
    rw (parts.0, line_bytes-from_word_bytes bs parts.1) refl

-- bytes of words and spaces, at least one and at most so many
pub record LineText (most : ℕ) (text : List ℕ) : Type 0 where
  pub bytes : list_all is_line_byte text ≡ true
  pub short : length text ≤ most
  pub some : 1 ≤ length text

pub LineText-append : {m n : ℕ} {front back : List ℕ} → LineText m front → LineText n back
    → LineText (m + n) (front ++ back)
LineText-append {front} {back} first second = record {
  bytes = rw (list_all-append is_line_byte front back, first.bytes, second.bytes) refl;
  short = omega (arith, length-append front back, first.short, second.short);
  some = omega (arith, length-append front back, first.some);
}

pub LineText-weaker : {m most : ℕ} {text : List ℕ} → m ≤ most → LineText m text → LineText most text
LineText-weaker less line =
    record { bytes = line.bytes; short = omega (arith, less, line.short); some = line.some }

pub LineText-number : (n : ℕ) → IsNumber n → LineText 20 (decimal n)
LineText-number n small = record {
  bytes = line_bytes-from_word_bytes (decimal n) (word_bytes-decimal n small);
  short = length-decimal-le 20 n (omega arith) (omega arith) small;
  some = decimal_nonempty n small;
}

pub LineText-word : (word : List ℕ) → IsWord word → LineText 16 word
LineText-word word is =
    let parts = word_parts word is in
    record {
      bytes = line_bytes-from_word_bytes word parts.bytes;
      short = parts.short;
      some = parts.some;
    }

pub LineText-space : LineText 1 (32 ∷ [])
LineText-space = record { bytes = refl; short = lit≤ tt; some = lit≤ tt }

pub HasNoLineEnd-line_text : {most : ℕ} {text : List ℕ} → LineText most text → HasNoLineEnd text
HasNoLineEnd-line_text {text} line =
    All-from_get_or (λ b. (b == 10) ≡ false) text 0 λ k within.
    let byte = AllPass-from_list_all is_line_byte text line.bytes k 0 within in
    grind (arith, nat_tests)

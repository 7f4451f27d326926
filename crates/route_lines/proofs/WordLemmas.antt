-- What `IsWord` says, part by part.
use Rattle.std.proofs.Common.{◌≡◌, ℕ, ◌<◌, ◌≤◌, ◌&&◌, true, List, [], ◌∷◌, length, nat_le, refl}
use Rattle.std.proofs.Common.{decimal, arith}
use Rattle.std.proofs.lemmas.Bool.Decides.{nat_tests}
use Rattle.std.proofs.lemmas.List.Elements.{All-from_get_or}
use Rattle.std.proofs.lemmas.List.Sums.{AllPass-from_list_all}
use Rattle.std.proofs.lemmas.Str.{IsUtf8-from_ascii}
use Rattle.std.proofs.lemmas.Str.Ascii.{IsAscii-from_all}
use Rattle.std.proofs.lemmas.Fmt.{decimal_is_IsNumeral}
use Rattle.std.proofs.lemmas.Str.Parse.{digit_from_value}
use Rattle.std.specs.List.{list_all}
use Rattle.std.specs.Str.Parse.{AllDigits}
use Rattle.std.specs.Str.{IsUtf8}
use Rattle.route_lines.specs.Number.{IsNumber}
use Rattle.route_lines.specs.Word.{IsWord, is_word_byte}
use Rattle.route_lines.proofs.NumberLemmas.{both}

pub record WordParts (word : List ℕ) : Type 0 where
  pub bytes : list_all is_word_byte word ≡ true
  pub short : length word ≤ 16
  pub some : 1 ≤ length word

pub word_parts : (word : List ℕ) → IsWord word → WordParts word
word_parts word is =
    let outer = both (nat_le 1 (length word) && nat_le (length word) 16)
    (list_all is_word_byte word) is in
    let inner = both (nat_le 1 (length word)) (nat_le (length word) 16) outer.0 in
    record { bytes = outer.1; short = grind (arith, nat_tests); some = grind (arith, nat_tests) }

-- a word is text
pub IsUtf8-word : (word : List ℕ) → IsWord word → IsUtf8 word
IsUtf8-word word is =
    let bytes = AllPass-from_list_all is_word_byte word (word_parts word is).bytes in
    IsUtf8-from_ascii word
    (IsAscii-from_all word
    (All-from_get_or (λ b. b < 128) word 0
    (λ k within. let byte = bytes k 0 within in grind (arith, nat_tests))))

-- the digits of a number may stand in a word
word_bytes-from_digits : (ds : List ℕ) → AllDigits 10 ds → list_all is_word_byte ds ≡ true
word_bytes-from_digits [] digits = refl
word_bytes-from_digits (c ∷ cs) digits =
    let range = digit_from_value c digits.0 in
    let rest = word_bytes-from_digits cs digits.1 in
    grind (arith, nat_tests)

pub word_bytes-decimal : (n : ℕ) → IsNumber n → list_all is_word_byte (decimal n) ≡ true
word_bytes-decimal n small = word_bytes-from_digits _ (decimal_is_IsNumeral n small).0.1

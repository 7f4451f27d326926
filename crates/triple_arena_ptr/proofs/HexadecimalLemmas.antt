-- The text of a number that is written in two halves.
use Rattle.std.proofs.Common.{◌≡◌, ◌≢◌, ℕ, ◌-◌, ◌/◌, ◌%◌, ◌^◌, ◌<◌, List, [], ◌++◌, Option, Some}
use Rattle.std.proofs.Common.{false, sym, ◌∙◌, replicate, ap, arith, append-nil}
use Rattle.std.specs.Option.{option_map}
use Rattle.std.specs.Fmt.{digits, digits_output, styled_digits_output, format_spec, padded_integral}
use Rattle.std.specs.Fmt.{shown_prefix, radix_prefix, char_count, option_append}
use Rattle.triple_arena_ptr.specs.Hexadecimal.{hexadecimal}
use Rattle.triple_arena_ptr.proofs.DigitsLemmas.{sixteen_digits, digits_of_halves}

-- sixteen places with leading zeros
sixteen_places : (n : ℕ)
    → padded_integral (format_spec 32 0 4 16 (2 ^ 64 - 1)) false [] (digits 16 false n)
    ≡ sixteen_digits n
unfolding padded_integral char_count
sixteen_places n = rw append-nil (ap (λ k. replicate k 48 ++ digits 16 false n) (omega arith))

-- the lower half as the format writes it
low_half : (prefix : List ℕ) (spec : _) (text : Option (List ℕ)) (n : ℕ)
    → text ≡ Some (digits 16 false n)
    → spec ≡ format_spec 32 0 4 16 (2 ^ 64 - 1)
    → option_map (padded_integral spec false (shown_prefix spec prefix)) text
    ≡ Some (sixteen_digits n)
low_half prefix spec text n is_digits is_sixteen =
    ap (option_map (padded_integral spec false (shown_prefix spec prefix))) is_digits
    ∙ ap (λ s. Some (padded_integral s false (shown_prefix s prefix) (digits 16 false n)))
    is_sixteen
    ∙ ap Some (sixteen_places n)

-- both halves are the number's text
pub written_halves : (high low spec : _) (n : ℕ)
    → digits_output high ≡ Some (digits 16 false (n / 2 ^ 64))
    → digits_output low ≡ Some (digits 16 false (n % 2 ^ 64))
    → spec ≡ format_spec 32 0 4 16 (2 ^ 64 - 1)
    → n / 2 ^ 64 ≢ 0
    → n < 2 ^ 128
    → option_append (digits_output high) (styled_digits_output low spec) ≡ Some (hexadecimal n)
written_halves high low spec n upper lower is_sixteen large small =
    ap (λ o. option_append o (styled_digits_output low spec)) upper
    ∙ ap (option_append (Some (digits 16 false (n / 2 ^ 64))))
    (low_half (radix_prefix low.base) spec (digits_output low) (n % 2 ^ 64) lower is_sixteen)
    ∙ ap Some (sym (digits_of_halves n (omega arith) small))

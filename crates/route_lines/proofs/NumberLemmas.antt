-- `number_of` undoes `decimal`, and how a reader that takes digit after digit comes to its answer.
use Rattle.std.proofs.Common.{drop_of_length-le, ◌≡◌, ℕ, zero, suc, ◌+◌, ◌*◌, ◌^◌, ◌<◌, ◌≤◌, ◌&&◌}
use Rattle.std.proofs.Common.{Bool, true, false, List, [], ◌∷◌, length, get_or, drop, Option, Some}
use Rattle.std.proofs.Common.{None, cond, nat_lt, refl, sym, ap, subst, ◌∙◌, arith, decimal, IfSome}
use Rattle.std.proofs.Common.{IfNone, ◌⊎◌, inl, inr}
use Rattle.std.proofs.Math.Seq.{drop-cons}
use Rattle.std.proofs.lemmas.Bool.Decides.{Decides-ltb}
use Rattle.std.proofs.lemmas.Fmt.{decimal_is_IsNumeral, decimal_nonempty, decimal_digit}
use Rattle.std.proofs.lemmas.Fmt.{first_decimal, decimal-digits_value}
use Rattle.std.proofs.lemmas.Slice.Eq.{bytes_eq-Decides}
use Rattle.std.proofs.lemmas.Str.Parse.{IsNumeralModel, numerals_by_value, tells_digits}
use Rattle.std.specs.Char.{digit_value}
use Rattle.std.specs.Str.{bytes_eq}
use Rattle.std.specs.Str.Parse.{AllDigits, digits_value, digits_value_after}
use Rattle.route_lines.specs.Number.{IsNumber, number_of}

pub both : (a b : Bool) → a && b ≡ true → (a ≡ true) × (b ≡ true)
both true true e = (refl, refl)
both true false e = cc
both false b e = cc

chosen : (test : Bool) (m n : ℕ) → cond test (Some m) None ≡ Some n → (test ≡ true) × (m ≡ n)
chosen true m n e = (refl, cc)
chosen false m n e = cc

-- a number is read from its decimal text
pub number_of-some : (bytes : List ℕ) (n : ℕ) → IsNumber n → bytes ≡ decimal n
    → number_of bytes ≡ Some n
unfolding number_of
number_of-some bytes n small text =
    let value : digits_value 10 bytes ≡ n = ap (digits_value 10) text
    ∙ (decimal_is_IsNumeral n small).1 in
    let fits : nat_lt (digits_value 10 bytes) (2 ^ 64) ≡ true =
    (Decides-ltb _ _).1 (subst (λ m. m < 2 ^ 64) (sym value) small) in
    let same : bytes_eq (decimal (digits_value 10 bytes)) bytes ≡ true =
    (bytes_eq-Decides _ _).1 (ap decimal value ∙ sym text) in
    rw (fits, same) (ap Some value)

-- and from nothing else
pub number_of-found : (bytes : List ℕ) (n : ℕ) → number_of bytes ≡ Some n
    → IsNumber n × (bytes ≡ decimal n)
unfolding number_of
number_of-found bytes n e =
    let value : ℕ = digits_value 10 bytes in
    let test = chosen _ _ _ e in
    let parts = both _ _ test.0 in
    let text : decimal value ≡ bytes = (bytes_eq-Decides _ _).0 parts.1 in
    (subst (λ m. m < 2 ^ 64) test.1 ((Decides-ltb _ _).0 parts.0), sym text ∙ ap decimal test.1)

-- where no number has this text, none is read
pub number_of-none : (bytes : List ℕ) → ((n : ℕ) → IsNumber n → bytes ≡ decimal n → ⊥)
    → number_of bytes ≡ None
number_of-none bytes none = at (number_of bytes) refl
  where
    at : (o : Option ℕ) → number_of bytes ≡ o → number_of bytes ≡ None
    at None e = e
    at (Some n) e = let p = number_of-found bytes n e in absurd (none n p.0 p.1)

pub IfSome-number_of : (bytes : List ℕ) (r : Option ℕ) → r ≡ number_of bytes
    → IfSome r (λ n. bytes ≡ decimal n)
IfSome-number_of bytes None e = tt
IfSome-number_of bytes (Some n) e = (number_of-found bytes n (sym e)).1

pub IfNone-number_of : (bytes : List ℕ) (r : Option ℕ) → r ≡ number_of bytes
    → IfNone r ((n : ℕ) → IsNumber n → bytes ≡ decimal n → ⊥)
IfNone-number_of bytes (Some n) e = tt
IfNone-number_of bytes None e = λ n small text. let some = number_of-some bytes n small text in cc

-- of the digits of `all`, those before `rest` write n
pub record SoFar (all rest : List ℕ) (n : ℕ) : Type 0 where
  pub same : digits_value_after 10 n rest ≡ digits_value 10 all
  pub back : AllDigits 10 rest → AllDigits 10 all
  pub on : AllDigits 10 all → AllDigits 10 rest

pub begun : (all : List ℕ) → SoFar all all 0
begun all = record { same = refl; back = λ h. h; on = λ h. h }

grows : (n : ℕ) (ds : List ℕ) → n ≤ digits_value_after 10 n ds
grows n [] = omega arith
grows n (c ∷ cs) = omega (arith, grows (n * 10 + digit_value c) cs)

opened : (all : List ℕ) (at n : ℕ) → SoFar all (drop at all) n → at < length all
    → SoFar all (get_or all at 0 ∷ drop (at + 1) all) n
opened all at n s h =
    let e : suc at ≡ at + 1 = omega arith in
    subst (λ l. SoFar all l n) (drop-cons all at 0 h ∙ ap (λ k. get_or all at 0 ∷ drop k all) e) s

-- one digit more
pub one_more : (all : List ℕ) (at n m : ℕ) → SoFar all (drop at all) n → at < length all
    → digit_value (get_or all at 0) < 10 → m ≡ n * 10 + digit_value (get_or all at 0)
    → SoFar all (drop (at + 1) all) m
one_more all at n m s h digit e =
    let o = opened all at n s h in
    record {
      same = ap (λ k. digits_value_after 10 k (drop (at + 1) all)) e ∙ o.same;
      back = λ r. o.back (digit, r);
      on = λ r. (o.on r).1;
    }

-- a byte that is no digit, or makes the number too large, leaves none to read
pub stopped : (all : List ℕ) (at n : ℕ) → SoFar all (drop at all) n → at < length all
    → ¬ ((digit_value (get_or all at 0) < 10) × (n * 10 + digit_value (get_or all at 0) < 2 ^ 64))
    → number_of all ≡ None
stopped all at n s h stop = number_of-none all λ m small text.
    let o = opened all at n s h in
    let parts = decimal_is_IsNumeral m small in
    let digits : AllDigits 10 all = subst (AllDigits 10) (sym text) parts.0.1 in
    let value : digits_value 10 all ≡ m = ap (digits_value 10) text ∙ parts.1 in
    let more = grows (n * 10 + digit_value (get_or all at 0)) (drop (at + 1) all) in
    stop ((o.on digits).0, omega (arith, o.same))

-- no number's text is empty, or has a zero before further digits
pub unreadable : (all : List ℕ) → (length all ≡ 0) ⊎ ((get_or all 0 0 ≡ 48) × (1 < length all))
    → number_of all ≡ None
unreadable all fault = number_of-none all (at fault)
  where
    spare_zero : (m : ℕ) → IsNumber m → get_or (decimal m) 0 0 ≡ 48 → 1 < length (decimal m) → ⊥
    spare_zero zero small first long = omega (arith, ap length (decimal_digit 0 (omega arith)))
    spare_zero (suc m) small first long = omega (arith, first_decimal (suc m) (omega arith) small)

    at : (length all ≡ 0) ⊎ ((get_or all 0 0 ≡ 48) × (1 < length all)) → (m : ℕ) → IsNumber m
        → all ≡ decimal m → ⊥
    at (inl empty) m small text = omega (arith, decimal_nonempty m small, ap length text)
    at (inr zeros) m small text =
        spare_zero m small (ap (λ l. get_or l 0 0) (sym text) ∙ zeros.0)
        (omega (arith, ap length text))

-- all digits are read
pub finished : (all : List ℕ) (at n : ℕ) → SoFar all (drop at all) n → length all ≤ at
    → 0 < length all → (get_or all 0 0 ≡ 48 → ¬ (1 < length all)) → n < 2 ^ 64
    → number_of all ≡ Some n
finished all at n s over some lead small =
    let own : IsNumeralModel (AllDigits 10) (digits_value 10) = numerals_by_value _ tells_digits in
    let t : SoFar all [] n = subst (λ l. SoFar all l n) (drop_of_length-le all over) s in
    let one : get_or all 0 0 ≡ 48 → length all ≡ 1 = λ first. omega (arith, lead first) in
    number_of-some all n small
    (sym (ap decimal t.same
    ∙ decimal-digits_value own all (t.back tt) some one (subst (λ m. m < 2 ^ 64) t.same small)))

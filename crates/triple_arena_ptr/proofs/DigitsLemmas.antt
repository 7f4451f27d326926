-- The hexadecimal digits of a number are those of its upper part and, with leading zeros, those of
-- its lower part.
use Rattle.std.proofs.Common.{◌≡◌, ℕ, zero, suc, ◌+◌, ◌-◌, ◌*◌, ◌/◌, ◌%◌, ◌^◌, ◌<◌, ◌≤◌, ◌==◌, Bool}
use Rattle.std.proofs.Common.{true, false, List, [], ◌∷◌, ◌++◌, length, replicate, refl, sym, ◌∙◌}
use Rattle.std.proofs.Common.{ap, arith, if◌then◌else◌, length-append, append_assoc, ⊎_elim}
use Rattle.std.proofs.Math.Nat.{pow-succ', mul-pos}
use Rattle.std.proofs.lemmas.Bool.{ne_eqb}
use Rattle.std.proofs.lemmas.Bool.Decides.{eqb_tells}
use Rattle.std.specs.Fmt.{digits, digits_onto, digit_glyph}

-- hexadecimal digits, k of them at most, before acc
abbrev hex_onto : ℕ → ℕ → List ℕ → List ℕ
hex_onto k n acc = digits_onto k 16 false n acc

-- the last digit before acc
abbrev with_last : ℕ → List ℕ → List ℕ
with_last n acc = digit_glyph false (n % 16) ∷ acc

-- exactly j digits of n, before acc
abbrev places_onto : ℕ → ℕ → List ℕ → List ℕ
places_onto zero n acc = acc
places_onto (suc j) n acc = places_onto j (n / 16) (with_last n acc)

-- more room makes no other digits
more_room : (k m n : ℕ) (acc : List ℕ) → n < 16 ^ k → 0 < k → k ≤ m
    → hex_onto m n acc ≡ hex_onto k n acc
more_room zero m n acc small some le = absurd (omega arith)
more_room (suc k) zero n acc small some le = absurd (omega arith)
more_room (suc zero) (suc m) n acc small some le = let none : n / 16 ≡ 0 = omega arith in
    rw none refl
more_room (suc (suc k)) (suc m) n acc small some le =
    let power = pow-succ' 16 (suc k) in
    ap (λ l. if n / 16 == 0 then with_last n acc else l)
    (more_room (suc k) m (n / 16) (with_last n acc) (omega arith) (omega arith) (omega arith))

-- what is before goes behind
onto-acc : (k n : ℕ) (acc : List ℕ) → hex_onto k n acc ≡ hex_onto k n [] ++ acc
onto-acc zero n acc = refl
onto-acc (suc k) n acc = after (n / 16 == 0) (onto-acc k (n / 16))
  where
    after : (b : Bool) → ((l : List ℕ) → hex_onto k (n / 16) l ≡ hex_onto k (n / 16) [] ++ l)
        → (if b then with_last n acc else hex_onto k (n / 16) (with_last n acc))
        ≡ (if b then with_last n [] else hex_onto k (n / 16) (with_last n [])) ++ acc
    after true rest = refl
    after false rest = rest (with_last n acc)
        ∙ sym (append_assoc (hex_onto k (n / 16) []) (with_last n []) acc)
        ∙ ap (λ l. l ++ acc) (sym (rest (with_last n [])))

-- the last digit, where it is the only one and where it is not
onto-last : (k n : ℕ) (acc : List ℕ) → n / 16 ≡ 0 → hex_onto (suc k) n acc ≡ with_last n acc
onto-last k n acc none = rw none refl

onto-more : (k n : ℕ) (acc : List ℕ) → 0 < n / 16
    → hex_onto (suc k) n acc ≡ hex_onto k (n / 16) (with_last n acc)
onto-more k n acc more =
    ap (λ b. if b then with_last n acc else hex_onto k (n / 16) (with_last n acc))
    (ne_eqb (n / 16) 0 (λ none. absurd (omega arith)))

-- a high part's digits come before j places of the low part
high_then_low : (j k m high low n : ℕ) (acc : List ℕ) → 0 < high → low < 16 ^ j → m ≡ j + k
    → n ≡ high * 16 ^ j + low
    → hex_onto m n acc ≡ hex_onto k high (places_onto j low acc)
high_then_low zero k m high low n acc some small room whole =
    let all : m ≡ k = omega arith in
    let one : n ≡ high = omega arith in
    ap (λ i. hex_onto i n acc) all ∙ ap (λ i. hex_onto k i acc) one
high_then_low (suc j) k zero high low n acc some small room whole = absurd (omega arith)
high_then_low (suc j) k (suc m) high low n acc some small room whole =
    let power = pow-succ' 16 j in
    let parts : n ≡ high * (16 * 16 ^ j) + low = whole ∙ ap (λ q. high * q + low) power in
    let room_left : m ≡ j + k = omega arith in
    let positive : 0 < 16 ^ j = omega arith in
    let front_some : 0 < high * 16 ^ j = mul-pos some positive in
    let front : n / 16 ≡ high * 16 ^ j + low / 16 = omega arith in
    let last : n % 16 ≡ low % 16 = omega arith in
    let low_front : low / 16 < 16 ^ j = omega arith in
    onto-more m n acc (omega (arith, front, front_some))
    ∙ high_then_low j k m high (low / 16) (n / 16) (with_last n acc) some low_front room_left front
    ∙ ap (λ d. hex_onto k high (places_onto j (low / 16) (digit_glyph false d ∷ acc))) last

zeros-last : (j : ℕ) (acc : List ℕ) → replicate j 48 ++ (48 ∷ acc) ≡ 48 ∷ (replicate j 48 ++ acc)
zeros-last zero acc = refl
zeros-last (suc j) acc = ap (λ l. 48 ∷ l) (zeros-last j acc)

places-zero : (j : ℕ) (acc : List ℕ) → places_onto j 0 acc ≡ replicate j 48 ++ acc
places-zero zero acc = refl
places-zero (suc j) acc = places-zero j (48 ∷ acc) ∙ zeros-last j acc

-- places are the digits behind zeros
places-padded : (j n : ℕ) (acc : List ℕ) → n < 16 ^ suc j
    → places_onto (suc j) n acc
    ≡ replicate (suc j - length (hex_onto (suc j) n [])) 48 ++ hex_onto (suc j) n acc
places-padded zero n acc small = let none : n / 16 ≡ 0 = omega arith in rw none refl
places-padded (suc j) n acc small = ⊎_elim
    (λ one. let none : n / 16 ≡ 0 = one.1 in
    let one_left : suc (suc j) - 1 ≡ suc j = omega arith in
    ap (λ q. places_onto (suc j) q (with_last n acc)) none
    ∙ places-zero (suc j) (with_last n acc)
    ∙ sym (ap (λ k. replicate k 48 ++ hex_onto (suc (suc j)) n acc)
    (ap (λ l. suc (suc j) - length l) (onto-last (suc j) n [] none) ∙ one_left)
    ∙ ap (λ l. replicate (suc j) 48 ++ l) (onto-last (suc j) n acc none)))
    (λ more. let some_left = more.1 in
    let some : 0 < n / 16 = omega arith in
    let power = pow-succ' 16 (suc j) in
    let front : n / 16 < 16 ^ suc j = omega arith in
    let digits_before = hex_onto (suc j) (n / 16) [] in
    let one_more : length (hex_onto (suc (suc j)) n []) ≡ length digits_before + 1 =
    ap length (onto-more (suc j) n [] some ∙ onto-acc (suc j) (n / 16) (with_last n []))
    ∙ length-append digits_before (with_last n []) in
    let zeros : suc j - length digits_before ≡ suc (suc j) - length (hex_onto (suc (suc j)) n []) =
    omega arith in
    places-padded j (n / 16) (with_last n acc) front
    ∙ ap (λ k. replicate k 48 ++ hex_onto (suc j) (n / 16) (with_last n acc)) zeros
    ∙ ap (λ l. replicate (suc (suc j) - length (hex_onto (suc (suc j)) n [])) 48 ++ l)
    (sym (onto-more (suc j) n acc some)))
    (eqb_tells (n / 16) 0)

-- the digits of both parts, in rooms that are great enough
digits_of_parts : (j k room high low n : ℕ) → 0 < high → high < 16 ^ k → 0 < k → low < 16 ^ suc j
    → room ≡ suc j + k → n ≡ high * 16 ^ suc j + low
    → hex_onto room n [] ≡ hex_onto room high
    [] ++ (replicate (suc j - length (hex_onto room low [])) 48 ++ hex_onto room low [])
digits_of_parts j k room high low n some high_small k_some small rooms whole =
    high_then_low (suc j) k room high low n [] some small rooms whole
    ∙ onto-acc k high (places_onto (suc j) low [])
    ∙ ap (λ l. l ++ places_onto (suc j) low [])
    (sym (more_room k room high [] high_small k_some (omega arith)))
    ∙ ap (λ l. hex_onto room high [] ++ l) (places-padded j low [] small
    ∙ ap (λ l. replicate (suc j - length l) 48 ++ l)
    (sym (more_room (suc j) room low [] small (omega arith) (omega arith))))

-- a number in sixteen places, with leading zeros
abbrev pub sixteen_digits : ℕ → List ℕ
sixteen_digits n = replicate (16 - length (digits 16 false n)) 48 ++ digits 16 false n

-- a number of more than 64 bits in two halves
pub digits_of_halves : (n : ℕ) → 2 ^ 64 ≤ n → n < 2 ^ 128
    → digits 16 false n ≡ digits 16 false (n / 2 ^ 64) ++ sixteen_digits (n % 2 ^ 64)
unfolding digits
digits_of_halves n large small =
    digits_of_parts 15 48 64 (n / 2 ^ 64) (n % 2 ^ 64) n (omega arith) (omega arith) (omega arith)
    (omega arith) refl (omega arith)

-- Lines, their fields, and the commands that they spell.
use Rattle.std.proofs.Common.{lit≤, ◌≡◌, ℕ, ◌+◌, ◌-◌, ◌<◌, ◌≤◌, ◌==◌, ◌&&◌, ◌⊎◌, inl, inr, Bool}
use Rattle.std.proofs.Common.{true, false, List, [], ◌∷◌, ◌++◌, length, take, drop, Option, Some}
use Rattle.std.proofs.Common.{None, cond, nat_lt, refl, sym, ap, subst, ◌∙◌, arith, decimal, IfSome}
use Rattle.std.proofs.Common.{IfNone, position, All, Contains, option_map, option_and_then, codes}
use Rattle.std.proofs.Common.{append-nil}
use Rattle.std.proofs.lemmas.Bool.Decides.{nat_tests}
use Rattle.std.proofs.lemmas.List.Elements.{All-from_get_or}
use Rattle.std.proofs.lemmas.List.Splits.{join_with_byte-slice_split, slice_split_at}
use Rattle.std.proofs.lemmas.List.Splits.{slice_split_none, slice_split_first}
use Rattle.std.proofs.lemmas.List.Sums.{AllPass-from_list_all, fails_before_first}
use Rattle.std.proofs.lemmas.List.{length-drop, take_all}
use Rattle.std.proofs.lemmas.Slice.Eq.{bytes_eq-Decides}
use Rattle.std.specs.List.{AllByRecursion, position_or_len, join_with_byte, list_all}
use Rattle.std.specs.Str.{bytes_eq}
use Rattle.route_lines.specs.declared.command.Command.{Command}
use Rattle.route_lines.specs.declared.command.Command.TheVariants.{Place, Word, Show, Find, Floor}
use Rattle.route_lines.specs.declared.command.Command.TheVariants.{After, Before, All as Every}
use Rattle.route_lines.specs.declared.command.Command.TheVariants.{Remove, Start, Extend, Join, Cut}
use Rattle.route_lines.specs.declared.command.Command.TheVariants.{Swap, Walk, Mark, Pack}
use Rattle.route_lines.specs.Grammar.{SpellsNumber, SpellsNumbers, Spells, command_by, lone_verbs}
use Rattle.route_lines.specs.Grammar.{number_verbs, numbers_verbs, command_of, command_of_fields}
use Rattle.route_lines.specs.Grammar.{fields_of, command_of_number, command_of_numbers}
use Rattle.route_lines.specs.Grammar.{command_of_one_field, command_of_two_fields}
use Rattle.route_lines.specs.Grammar.{command_of_three_fields, command_of_five_fields}
use Rattle.route_lines.specs.Number.{IsNumber, number_of}
use Rattle.route_lines.specs.Word.{IsWord, is_word, is_word_byte, word_of}
use Rattle.route_lines.proofs.NumberLemmas.{both, number_of-some, number_of-found}
use Rattle.route_lines.proofs.LineTextLemmas.{LineText, LineText-append, LineText-number}
use Rattle.route_lines.proofs.LineTextLemmas.{LineText-space, LineText-weaker, LineText-word}
use Rattle.route_lines.proofs.LineTextLemmas.{is_line_byte}
use Rattle.route_lines.proofs.WordLemmas.{word_bytes-decimal, word_parts}

abbrev is_space : ℕ → Bool
is_space b = b == 32

first_space : (at n end : ℕ) → cond (nat_lt at n) (Some at) None ≡ Some end → (at < n) × (at ≡ end)
first_space at n end found = grind (arith, nat_tests)

no_space : (at n : ℕ) → cond (nat_lt at n) (Some at) None ≡ None → n ≤ at
no_space at n none = grind (arith, nat_tests)

-- up to the first space stands a field, and behind it the fields that are left
pub next_field : (line : List ℕ) (end : ℕ) → position is_space line ≡ Some end
    → fields_of line ≡ take end line ∷ fields_of
    (take (length line - (end + 1)) (drop (end + 1) line))
next_field line end found =
    let at = first_space (position_or_len is_space line) (length line) end found in
    let rest = take_all (length line - (end + 1)) (drop (end + 1) line)
    (omega (arith, length-drop (end + 1) line)) in
    subst (λ k. fields_of line ≡ take k line ∷ fields_of (drop (k + 1) line)) at.1
    (slice_split_first is_space line 0 at.0)
    ∙ ap (λ l. take end line ∷ fields_of l) (sym rest)

-- with no space the line is one field
pub last_field : (line : List ℕ) → position is_space line ≡ None → fields_of line ≡ line ∷ []
last_field line none =
    slice_split_none is_space line
    (All-from_get_or (λ x. is_space x ≡ false) line 0
    (λ k within. fails_before_first is_space line k 0 (omega (arith, no_space _ _ none))))

-- the parts of a choice that comes to some command

choice : {X : Type 0} (test : Bool) (x y : Option X) (c : X) → cond test x y ≡ Some c
    → ((test ≡ true) × (x ≡ Some c)) ⊎ ((test ≡ false) × (y ≡ Some c))
choice true x y c e = inl (refl, e)
choice false x y c e = inr (refl, e)

same_bytes : (xs ys : List ℕ) → bytes_eq xs ys ≡ true → xs ≡ ys
same_bytes xs ys e = (bytes_eq-Decides xs ys).0 e

mapped : {X Y : Type 0} (f : X → Y) (o : Option X) (y : Y) → option_map f o ≡ Some y
    → (x : X) × (o ≡ Some x) × (y ≡ f x)
mapped f (Some x) y e = (x, refl, cc)
mapped f None y e = cc

followed : {X Y : Type 0} (f : X → Option Y) (o : Option X) (y : Y) → option_and_then f o ≡ Some y
    → (x : X) × (o ≡ Some x) × (f x ≡ Some y)
followed f (Some x) y e = (x, refl, e)
followed f None y e = cc

word_of-found : (bytes word : List ℕ) → word_of bytes ≡ Some word → IsWord word × (bytes ≡ word)
word_of-found bytes word e = at (choice _ _ _ _ e)
  where
    at : ((is_word bytes ≡ true) × (Some bytes ≡ Some word))
        ⊎ ((is_word bytes ≡ false) × (None ≡ Some word)) → IsWord word × (bytes ≡ word)
    at (inl h) = let same : bytes ≡ word = cc in (subst IsWord same h.0, same)
    at (inr h) = cc

-- a choice by the verb: the line is spelled either way

by_verb : (verb name line : List ℕ) (named other : Option Command) (command : Command)
    → (verb ≡ name → named ≡ Some command → Spells line command)
    → (other ≡ Some command → Spells line command)
    → cond (bytes_eq verb name) named other ≡ Some command → Spells line command
by_verb verb name line named other command here there e =
    at (choice (bytes_eq verb name) named other command e)
  where
    at : ((bytes_eq verb name ≡ true) × (named ≡ Some command))
        ⊎ ((bytes_eq verb name ≡ false) × (other ≡ Some command)) → Spells line command
    at (inl h) = here (same_bytes verb name h.0) h.1
    at (inr h) = there h.1

-- a choice among rows, each of which is spelled by its verb
Spells-from_row : (verb rest : List ℕ) (rows : List (List ℕ × Command)) (command : Command)
    → AllByRecursion (λ row. Spells (row.0 ++ rest) row.1) rows
    → command_by rows verb ≡ Some command
    → Spells (verb ++ rest) command
Spells-from_row verb rest [] command spelled e = cc
Spells-from_row verb rest (row ∷ rows) command spelled e =
    by_verb verb row.0 (verb ++ rest) (Some row.1) (command_by rows verb) command
    (λ same found. let is : row.1 ≡ command = cc in
    subst (Spells (verb ++ rest)) is
    (subst (λ v. Spells (v ++ rest) row.1) (sym same) spelled.0))
    (Spells-from_row verb rest rows command spelled.1) e

nothing : (line : List ℕ) (command : Command) → None ≡ Some command → Spells line command
nothing line command e = cc

Spells-from_one_field : (verb : List ℕ) (command : Command)
    → command_of_one_field verb ≡ Some command → Spells verb command
Spells-from_one_field verb command e =
    subst (λ line. Spells line command) (append-nil verb)
    (Spells-from_row verb [] lone_verbs command (refl, (refl, tt)) e)

Spells-from_number : (verb : List ℕ) (n : ℕ) (command : Command) → IsNumber n
    → command_of_number verb n ≡ Some command → Spells (verb ++ 32 ∷ decimal n) command
Spells-from_number verb n command small =
    Spells-from_row verb (32 ∷ decimal n) (number_verbs n) command (
      (small, refl),
      (
        (small, refl),
        (
          (small, refl),
          (
            (small, refl),
            ((small, refl), ((small, refl), ((small, refl), ((small, refl), ((small, refl), tt))))),
          ),
        ),
      ),
    )

Spells-from_two_fields : (verb field : List ℕ) (command : Command)
    → command_of_two_fields verb field ≡ Some command → Spells (verb ++ 32 ∷ field) command
Spells-from_two_fields verb field command e =
    let number = followed (command_of_number verb) (number_of field) command e in
    let text = number_of-found field number.0 number.1 in
    subst (λ f. Spells (verb ++ 32 ∷ f) command) (sym text.1)
    (Spells-from_number verb number.0 command text.0 number.2)

Spells-from_numbers : (verb : List ℕ) (m n : ℕ) (command : Command) → IsNumber m → IsNumber n
    → command_of_numbers verb m n ≡ Some command
    → Spells (verb ++ 32 ∷ (decimal m ++ 32 ∷ decimal n)) command
Spells-from_numbers verb m n command small little =
    Spells-from_row verb (32 ∷ (decimal m ++ 32 ∷ decimal n)) (numbers_verbs m n) command (
      (small, little, refl),
      ((small, little, refl), ((small, little, refl), ((small, little, refl), tt))),
    )

Spells-from_three_fields : (verb first second : List ℕ) (command : Command)
    → command_of_three_fields verb first second ≡ Some command
    → Spells (verb ++ 32 ∷ (first ++ 32 ∷ second)) command
Spells-from_three_fields verb first second command =
    let line : List ℕ = verb ++ 32 ∷ (first ++ 32 ∷ second) in
    by_verb verb (codes "place") line _ _ command (λ same found.
    let key = followed _ (number_of first) command found in
    let number = number_of-found first key.0 key.1 in
    let word = mapped (λ w. Place key.0 w None) (word_of second) command key.2 in
    let text = word_of-found second word.0 word.1 in
    subst (Spells line) (sym word.2) (
      number.0,
      text.0,
      ap (λ v. v ++ 32 ∷ (first ++ 32 ∷ second)) same
          ∙ ap (λ f. codes "place" ++ 32 ∷ (f ++ 32 ∷ second)) number.1
          ∙ ap (λ w. codes "place" ++ 32 ∷ (decimal key.0 ++ 32 ∷ w)) text.1,
    )) (by_verb verb (codes "word") line _ _ command (λ same found.
    let ticket = followed _ (number_of first) command found in
    let number = number_of-found first ticket.0 ticket.1 in
    let word = mapped (λ w. Word ticket.0 w) (word_of second) command ticket.2 in
    let text = word_of-found second word.0 word.1 in
    subst (Spells line) (sym word.2) (
      number.0,
      text.0,
      ap (λ v. v ++ 32 ∷ (first ++ 32 ∷ second)) same
          ∙ ap (λ f. codes "word" ++ 32 ∷ (f ++ 32 ∷ second)) number.1
          ∙ ap (λ w. codes "word" ++ 32 ∷ (decimal ticket.0 ++ 32 ∷ w)) text.1,
    )) (λ found.
    let front = followed _ (number_of first) command found in
    let back = followed _ (number_of second) command front.2 in
    let number = number_of-found first front.0 front.1 in
    let other = number_of-found second back.0 back.1 in
    subst (λ f. Spells (verb ++ 32 ∷ f) command)
    (ap (λ f. f ++ 32 ∷ decimal back.0) (sym number.1)
    ∙ ap (λ f. first ++ 32 ∷ f) (sym other.1))
    (Spells-from_numbers verb front.0 back.0 command number.0 other.0 back.2)))

Spells-from_five_fields : (verb first second third fourth : List ℕ) (command : Command)
    → command_of_five_fields verb first second third fourth ≡ Some command
    → Spells (verb ++ 32 ∷ (first ++ 32 ∷ (second ++ 32 ∷ (third ++ 32 ∷ fourth)))) command
Spells-from_five_fields verb first second third fourth command e =
    at (choice (bytes_eq verb (codes "place") && bytes_eq third (codes "near")) _ None command e)
  where
    line : List ℕ
    line = verb ++ 32 ∷ (first ++ 32 ∷ (second ++ 32 ∷ (third ++ 32 ∷ fourth)))

    found : Option Command
    found = option_and_then
        (λ key. option_and_then
        (λ word. option_map (λ near. Place key word (Some near)) (number_of fourth))
        (word_of second)) (number_of first)

    at : ((bytes_eq verb (codes "place") && bytes_eq third (codes "near") ≡ true)
        × (found ≡ Some command)) ⊎
        ((bytes_eq verb (codes "place") && bytes_eq third (codes "near") ≡ false)
        × (None ≡ Some command)) → Spells line command
    at (inr h) = nothing line command h.1
    at (inl h) =
        let words = both (bytes_eq verb (codes "place")) (bytes_eq third (codes "near")) h.0 in
        let key = followed _ (number_of first) command h.1 in
        let word = followed _ (word_of second) command key.2 in
        let near = mapped (λ n. Place key.0 word.0 (Some n)) (number_of fourth) command word.2 in
        let number = number_of-found first key.0 key.1 in
        let text = word_of-found second word.0 word.1 in
        let hint = number_of-found fourth near.0 near.1 in
        subst (Spells line) (sym near.2) (
          number.0,
          text.0,
          hint.0,
          ap (λ v. v ++ 32 ∷ (first ++ 32 ∷ (second ++ 32 ∷ (third ++ 32 ∷ fourth))))
              (same_bytes verb (codes "place") words.0)
              ∙ ap (λ f. codes "place" ++ 32 ∷ (f ++ 32 ∷ (second ++ 32 ∷ (third ++ 32 ∷ fourth))))
              number.1
              ∙ ap (λ w. codes "place" ++ 32 ∷ (decimal
              key.0 ++ 32 ∷ (w ++ 32 ∷ (third ++ 32 ∷ fourth)))) text.1
              ∙ ap (λ n. codes "place" ++ 32 ∷ (decimal
              key.0 ++ 32 ∷ (word.0 ++ 32 ∷ (n ++ 32 ∷ fourth))))
              (same_bytes third (codes "near") words.1)
              ∙ ap (λ f. codes "place" ++ 32 ∷ (decimal
              key.0 ++ 32 ∷ (word.0 ++ 32 ∷ (codes "near" ++ 32 ∷ f)))) hint.1,
        )

-- the fields of a command spell it where they are joined again
Spells-from_fields : (fields : List (List ℕ)) (command : Command)
    → command_of_fields fields ≡ Some command → Spells (join_with_byte 32 fields) command
Spells-from_fields [] command e = cc
Spells-from_fields (verb ∷ []) command e = Spells-from_one_field verb command e
Spells-from_fields (verb ∷ field ∷ []) command e = Spells-from_two_fields verb field command e
Spells-from_fields (verb ∷ first ∷ second ∷ []) command e =
    Spells-from_three_fields verb first second command e
Spells-from_fields (verb ∷ first ∷ second ∷ third ∷ []) command e = cc
Spells-from_fields (verb ∷ first ∷ second ∷ third ∷ fourth ∷ []) command e =
    Spells-from_five_fields verb first second third fourth command e
Spells-from_fields (verb ∷ first ∷ second ∷ third ∷ fourth ∷ fifth ∷ more) command e = cc

-- `command_of` finds what a line spells
pub command_of-found : (line : List ℕ) (command : Command) → command_of line ≡ Some command
    → Spells line command
unfolding command_of
command_of-found line command e =
    subst (λ l. Spells l command) (join_with_byte-slice_split 32 line)
    (Spells-from_fields (fields_of line) command e)

-- the bytes of numbers and words are no spaces and no line ends

no_space_in : (bytes : List ℕ) → list_all is_word_byte bytes ≡ true
    → All (λ b. is_space b ≡ false) bytes
no_space_in bytes words =
    All-from_get_or (λ b. is_space b ≡ false) bytes 0
    (λ k within. let word = AllPass-from_list_all is_word_byte bytes words k 0 within in
    grind (arith, nat_tests))

number_alone : (n : ℕ) → IsNumber n → fields_of (decimal n) ≡ decimal n ∷ []
number_alone n small =
    slice_split_none is_space (decimal n) (no_space_in (decimal n) (word_bytes-decimal n small))

word_alone : (word : List ℕ) → IsWord word → fields_of word ≡ word ∷ []
word_alone word is = slice_split_none is_space word (no_space_in word (word_parts word is).bytes)

-- a field, a space and the rest of the line
fields_of-cons : (field rest : List ℕ) → list_all is_word_byte field ≡ true
    → fields_of (field ++ 32 ∷ rest) ≡ field ∷ fields_of rest
fields_of-cons field rest words =
    slice_split_at is_space field 32 rest (no_space_in field words) refl

fields_of-verb_number : (line verb : List ℕ) (n : ℕ) → list_all is_word_byte verb ≡ true
    → IsNumber n → line ≡ verb ++ 32 ∷ decimal n → fields_of line ≡ verb ∷ decimal n ∷ []
fields_of-verb_number line verb n words small text =
    ap fields_of text ∙ fields_of-cons verb (decimal n) words
    ∙ ap (λ fs. verb ∷ fs) (number_alone n small)

fields_of-verb_numbers : (line verb : List ℕ) (m n : ℕ) → list_all is_word_byte verb ≡ true
    → IsNumber m → IsNumber n → line ≡ verb ++ 32 ∷ (decimal m ++ 32 ∷ decimal n)
    → fields_of line ≡ verb ∷ decimal m ∷ decimal n ∷ []
fields_of-verb_numbers line verb m n words small little text =
    ap fields_of text
    ∙ fields_of-cons verb (decimal m ++ 32 ∷ decimal n) words
    ∙ ap (λ fs. verb ∷ fs)
    (fields_of-cons (decimal m) (decimal n) (word_bytes-decimal m small)
    ∙ ap (λ fs. decimal m ∷ fs) (number_alone n little))

-- a verb with a number, or with two
by_number : (line verb : List ℕ) (n : ℕ) (command : Command) → list_all is_word_byte verb ≡ true
    → SpellsNumber line (verb ++ 32 ∷ []) n
    → verb ++ 32 ∷ decimal n ≡ (verb ++ 32 ∷ []) ++ decimal n
    → command_of_number verb n ≡ Some command → command_of line ≡ Some command
unfolding command_of
by_number line verb n command words spells front found =
    ap command_of_fields (fields_of-verb_number line verb n words spells.0 (spells.1 ∙ sym front))
    ∙ ap (option_and_then (command_of_number verb)) (number_of-some (decimal n) n spells.0 refl)
    ∙ found

by_numbers : (line verb : List ℕ) (m n : ℕ) (command : Command) → list_all is_word_byte verb ≡ true
    → bytes_eq verb (codes "place") ≡ false → bytes_eq verb (codes "word") ≡ false
    → SpellsNumbers line (verb ++ 32 ∷ []) m n
    → verb ++ 32 ∷ (decimal m ++ 32 ∷ decimal n) ≡ (verb ++ 32 ∷ []) ++ decimal m ++ 32 ∷ decimal n
    → command_of_numbers verb m n ≡ Some command → command_of line ≡ Some command
unfolding command_of
by_numbers line verb m n command words no_place no_word spells front found =
    ap command_of_fields (fields_of-verb_numbers line verb m n words spells.0 spells.1
    (spells.2 ∙ sym front))
    ∙ ap (λ test. cond test (place_of (decimal m) (decimal n))
    (cond (bytes_eq verb (codes "word")) (word_at (decimal m) (decimal n))
    (numbers (decimal m) (decimal n)))) no_place
    ∙ ap (λ test. cond test (word_at (decimal m) (decimal n)) (numbers (decimal m) (decimal n)))
    no_word
    ∙ ap (λ o. option_and_then
    (λ k. option_and_then (command_of_numbers verb k) (number_of (decimal n))) o)
    (number_of-some (decimal m) m spells.0 refl)
    ∙ ap (option_and_then (command_of_numbers verb m)) (number_of-some (decimal n) n spells.1 refl)
    ∙ found
  where
    place_of : List ℕ → List ℕ → Option Command
    place_of first second =
        option_and_then (λ key. option_map (λ word. Place key word None) (word_of second))
        (number_of first)

    word_at : List ℕ → List ℕ → Option Command
    word_at first second =
        option_and_then (λ ticket. option_map (λ word. Word ticket word) (word_of second))
        (number_of first)

    numbers : List ℕ → List ℕ → Option Command
    numbers first second =
        option_and_then (λ k. option_and_then (command_of_numbers verb k) (number_of second))
        (number_of first)

-- a line that spells a command is found
pub command_of-spelled : (line : List ℕ) (command : Command) → Spells line command
    → command_of line ≡ Some command
unfolding command_of
command_of-spelled line Every spells = ap (λ l. command_of_fields (fields_of l)) spells
command_of-spelled line Pack spells = ap (λ l. command_of_fields (fields_of l)) spells
command_of-spelled line (Show ticket) spells =
    by_number line (codes "show") ticket (Show ticket) refl spells refl refl
command_of-spelled line (Find key) spells =
    by_number line (codes "find") key (Find key) refl spells refl refl
command_of-spelled line (Floor key) spells =
    by_number line (codes "floor") key (Floor key) refl spells refl refl
command_of-spelled line (After ticket) spells =
    by_number line (codes "after") ticket (After ticket) refl spells refl refl
command_of-spelled line (Before ticket) spells =
    by_number line (codes "before") ticket (Before ticket) refl spells refl refl
command_of-spelled line (Remove ticket) spells =
    by_number line (codes "remove") ticket (Remove ticket) refl spells refl refl
command_of-spelled line (Start place) spells =
    by_number line (codes "start") place (Start place) refl spells refl refl
command_of-spelled line (Cut stop) spells =
    by_number line (codes "cut") stop (Cut stop) refl spells refl refl
command_of-spelled line (Walk stop) spells =
    by_number line (codes "walk") stop (Walk stop) refl spells refl refl
command_of-spelled line (Extend stop place) spells =
    by_numbers line (codes "extend") stop place (Extend stop place) refl refl refl spells refl refl
command_of-spelled line (Join stop next) spells =
    by_numbers line (codes "join") stop next (Join stop next) refl refl refl spells refl refl
command_of-spelled line (Swap stop other) spells =
    by_numbers line (codes "swap") stop other (Swap stop other) refl refl refl spells refl refl
command_of-spelled line (Mark place stop) spells =
    by_numbers line (codes "mark") place stop (Mark place stop) refl refl refl spells refl refl
command_of-spelled line (Place key word None) spells =
    ap (λ l. command_of_fields (fields_of l)) spells.2
    ∙ ap command_of_fields (
    fields_of-cons (codes "place") (decimal key ++ 32 ∷ word) refl
    ∙ ap (λ fs. codes "place" ∷ fs)
    (fields_of-cons (decimal key) word (word_bytes-decimal key spells.0)
    ∙ ap (λ fs. decimal key ∷ fs) (word_alone word spells.1))
    )
    ∙ ap (option_and_then (λ k. option_map (λ w. Place k w None) (word_of word)))
    (number_of-some _ key spells.0 refl)
    ∙ ap (λ test. option_map (λ w. Place key w None) (cond test (Some word) None)) spells.1
command_of-spelled line (Word ticket word) spells =
    ap (λ l. command_of_fields (fields_of l)) spells.2
    ∙ ap command_of_fields (
    fields_of-cons (codes "word") (decimal ticket ++ 32 ∷ word) refl
    ∙ ap (λ fs. codes "word" ∷ fs)
    (fields_of-cons (decimal ticket) word (word_bytes-decimal ticket spells.0)
    ∙ ap (λ fs. decimal ticket ∷ fs) (word_alone word spells.1))
    )
    ∙ ap (option_and_then (λ t. option_map (λ w. Word t w) (word_of word)))
    (number_of-some _ ticket spells.0 refl)
    ∙ ap (λ test. option_map (λ w. Word ticket w) (cond test (Some word) None)) spells.1
command_of-spelled line (Place key word (Some near)) spells =
    ap (λ l. command_of_fields (fields_of l)) spells.3
    ∙ ap command_of_fields (
    fields_of-cons (codes "place")
    (decimal key ++ 32 ∷ (word ++ 32 ∷ (codes "near" ++ 32 ∷ decimal near))) refl
    ∙ ap (λ fs. codes "place" ∷ fs) (
    fields_of-cons (decimal key) (word ++ 32 ∷ (codes "near" ++ 32 ∷ decimal near))
    (word_bytes-decimal key spells.0)
    ∙ ap (λ fs. decimal key ∷ fs) (
    fields_of-cons word (codes "near" ++ 32 ∷ decimal near) (word_parts word spells.1).bytes
    ∙ ap (λ fs. word ∷ fs)
    (fields_of-cons (codes "near") (decimal near) refl
    ∙ ap (λ fs. codes "near" ∷ fs) (number_alone near spells.2))
    )
    )
    )
    ∙ ap (option_and_then
    (λ k. option_and_then (λ w. option_map (λ n. Place k w (Some n)) (number_of (decimal near)))
    (word_of word))) (number_of-some _ key spells.0 refl)
    ∙ ap (λ test. option_and_then
    (λ w. option_map (λ n. Place key w (Some n)) (number_of (decimal near)))
    (cond test (Some word) None)) spells.1
    ∙ ap (option_map (λ n. Place key word (Some n))) (number_of-some _ near spells.2 refl)

-- what a reader that answers `command_of` can say
pub IfSome-command_of : (line : List ℕ) (r : Option Command) → r ≡ command_of line
    → IfSome r (Spells line)
IfSome-command_of line None e = tt
IfSome-command_of line (Some command) e = command_of-found line command (sym e)

pub IfNone-command_of : (line : List ℕ) (r : Option Command) → r ≡ command_of line
    → IfNone r ((command : Command) → Spells line command → ⊥)
IfNone-command_of line (Some command) e = tt
IfNone-command_of line None e = λ command spells. let some =
    command_of-spelled line command spells in cc

pub command_of-none : (line : List ℕ) → ((command : Command) → Spells line command → ⊥)
    → command_of line ≡ None
command_of-none line none = at (command_of line) refl
  where
    at : (o : Option Command) → command_of line ≡ o → command_of line ≡ None
    at None e = e
    at (Some command) e = absurd (none command (command_of-found line command e))

-- every line has one command at most, and every command one line

pub one_command : (line : List ℕ) (c d : Command) → Spells line c → Spells line d → c ≡ d
one_command line c d first second = let e = command_of-spelled line c first in let f =
    command_of-spelled line d second in cc

pub one_line : (first second : List ℕ) (command : Command) → Spells first command
    → Spells second command → first ≡ second
one_line first second Every a b = a ∙ sym b
one_line first second Pack a b = a ∙ sym b
one_line first second (Show ticket) a b = a.1 ∙ sym b.1
one_line first second (Find key) a b = a.1 ∙ sym b.1
one_line first second (Floor key) a b = a.1 ∙ sym b.1
one_line first second (After ticket) a b = a.1 ∙ sym b.1
one_line first second (Before ticket) a b = a.1 ∙ sym b.1
one_line first second (Remove ticket) a b = a.1 ∙ sym b.1
one_line first second (Start place) a b = a.1 ∙ sym b.1
one_line first second (Cut stop) a b = a.1 ∙ sym b.1
one_line first second (Walk stop) a b = a.1 ∙ sym b.1
one_line first second (Extend stop place) a b = a.2 ∙ sym b.2
one_line first second (Join stop next) a b = a.2 ∙ sym b.2
one_line first second (Swap stop other) a b = a.2 ∙ sym b.2
one_line first second (Mark place stop) a b = a.2 ∙ sym b.2
one_line first second (Word ticket word) a b = a.2 ∙ sym b.2
one_line first second (Place key word None) a b = a.2 ∙ sym b.2
one_line first second (Place key word (Some near)) a b = a.3 ∙ sym b.3

-- how long a spelling is, and which bytes it has

text_of_number : {line : List ℕ} (front : List ℕ) {n : ℕ} → list_all is_line_byte front ≡ true
    → length front ≤ 7 → 1 ≤ length front → SpellsNumber line front n → LineText 69 line
text_of_number front {n} bytes short some spells =
    let verb : LineText 7 front = record { bytes = bytes; short = short; some = some } in
    subst (LineText 69) (sym spells.1)
    (LineText-weaker (lit≤ tt) (LineText-append verb (LineText-number n spells.0)))

text_of_numbers : {line : List ℕ} (front : List ℕ) {m n : ℕ} → list_all is_line_byte front ≡ true
    → length front ≤ 7 → 1 ≤ length front → SpellsNumbers line front m n → LineText 69 line
text_of_numbers front {m} {n} bytes short some spells =
    let verb : LineText 7 front = record { bytes = bytes; short = short; some = some } in
    subst (LineText 69) (sym spells.2)
    (LineText-weaker (lit≤ tt)
    (LineText-append (LineText-append verb (LineText-number m spells.0))
    (LineText-append LineText-space (LineText-number n spells.1))))

line_text : (line : List ℕ) (command : Command) → Spells line command → LineText 69 line
line_text line Every spells =
    subst (LineText 69) (sym spells) (record { bytes = refl; short = lit≤ tt; some = lit≤ tt })
line_text line Pack spells =
    subst (LineText 69) (sym spells) (record { bytes = refl; short = lit≤ tt; some = lit≤ tt })
line_text line (Show ticket) spells =
    text_of_number (codes "show ") refl (lit≤ tt) (lit≤ tt) spells
line_text line (Find key) spells =
    text_of_number (codes "find ") refl (lit≤ tt) (lit≤ tt) spells
line_text line (Floor key) spells =
    text_of_number (codes "floor ") refl (lit≤ tt) (lit≤ tt) spells
line_text line (After ticket) spells =
    text_of_number (codes "after ") refl (lit≤ tt) (lit≤ tt) spells
line_text line (Before ticket) spells =
    text_of_number (codes "before ") refl (lit≤ tt) (lit≤ tt) spells
line_text line (Remove ticket) spells =
    text_of_number (codes "remove ") refl (lit≤ tt) (lit≤ tt) spells
line_text line (Start place) spells =
    text_of_number (codes "start ") refl (lit≤ tt) (lit≤ tt) spells
line_text line (Cut stop) spells =
    text_of_number (codes "cut ") refl (lit≤ tt) (lit≤ tt) spells
line_text line (Walk stop) spells =
    text_of_number (codes "walk ") refl (lit≤ tt) (lit≤ tt) spells
line_text line (Extend stop place) spells =
    text_of_numbers (codes "extend ") refl (lit≤ tt) (lit≤ tt) spells
line_text line (Join stop next) spells =
    text_of_numbers (codes "join ") refl (lit≤ tt) (lit≤ tt) spells
line_text line (Swap stop other) spells =
    text_of_numbers (codes "swap ") refl (lit≤ tt) (lit≤ tt) spells
line_text line (Mark place stop) spells =
    text_of_numbers (codes "mark ") refl (lit≤ tt) (lit≤ tt) spells
line_text line (Place key word None) spells =
    let verb : LineText 6 (codes "place ") =
    record { bytes = refl; short = lit≤ tt; some = lit≤ tt } in
    let number = LineText-append verb (LineText-number key spells.0) in
    subst (LineText 69) (sym spells.2)
    (LineText-weaker (lit≤ tt)
    (LineText-append number (LineText-append LineText-space (LineText-word word spells.1))))
line_text line (Word ticket word) spells =
    let verb : LineText 5 (codes "word ") =
    record { bytes = refl; short = lit≤ tt; some = lit≤ tt } in
    let number = LineText-append verb (LineText-number ticket spells.0) in
    subst (LineText 69) (sym spells.2)
    (LineText-weaker (lit≤ tt)
    (LineText-append number (LineText-append LineText-space (LineText-word word spells.1))))
line_text line (Place key word (Some near)) spells =
    let verb : LineText 6 (codes "place ") =
    record { bytes = refl; short = lit≤ tt; some = lit≤ tt } in
    let hint : LineText 6 (codes " near ") =
    record { bytes = refl; short = lit≤ tt; some = lit≤ tt } in
    let number = LineText-append verb (LineText-number key spells.0) in
    subst (LineText 69) (sym spells.3)
    (LineText-weaker (lit≤ tt)
    (LineText-append number
    (LineText-append LineText-space
    (LineText-append (LineText-word word spells.1)
    (LineText-append hint (LineText-number near spells.2))))))

pub length-spelling : (line : List ℕ) (command : Command) → Spells line command → length line ≤ 69
length-spelling line command spells = (line_text line command spells).short

pub spelling_nonempty : (line : List ℕ) (command : Command) → Spells line command → 0 < length line
spelling_nonempty line command spells = (line_text line command spells).some

pub no_line_end : (line : List ℕ) (command : Command) → Spells line command → ¬ (Contains line 10)
no_line_end line command spells = λ at.
    let byte = AllPass-from_list_all is_line_byte line (line_text line command spells).bytes at.0 10
    at.1 in
    let end : is_line_byte 10 ≡ true = subst (λ b. is_line_byte b ≡ true) at.2 byte in
    cc

-- which lines are no commands

pub long_line : (line : List ℕ) → 69 < length line → command_of line ≡ None
long_line line long =
    command_of-none line (λ command spells. omega (arith, length-spelling line command spells))

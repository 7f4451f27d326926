-- Which line spells which command. A line is given without its LF.
use Rattle.std.specs.Prelude.{◌≡◌, ℕ, ◌==◌, ◌&&◌, ◌++◌, List, [], ◌∷◌, Option, Some, None}
use Rattle.std.specs.Prelude.{option_map, option_and_then, codes, decimal, if◌then◌else◌}
use Rattle.std.specs.List.{slice_split}
use Rattle.std.specs.Str.{bytes_eq}
use Rattle.route_lines.specs.Number.{IsNumber, number_of}
use Rattle.route_lines.specs.Word.{IsWord, word_of}
use Rattle.route_lines.specs.declared.command.Command.{Command}
use Rattle.route_lines.specs.declared.command.Command.TheVariants.{Place, Word, Show, Find, Floor}
use Rattle.route_lines.specs.declared.command.Command.TheVariants.{After, Before, All, Remove}
use Rattle.route_lines.specs.declared.command.Command.TheVariants.{Start, Extend, Join, Cut, Swap}
use Rattle.route_lines.specs.declared.command.Command.TheVariants.{Walk, Mark, Pack}

-- the line is these bytes and then a number, or a number, a space and a number: in decimal digits
-- without leading zeros
abbrev pub SpellsNumber : List ℕ → List ℕ → ℕ → Type 0
SpellsNumber line front n = IsNumber n × (line ≡ front ++ decimal n)

abbrev pub SpellsNumbers : List ℕ → List ℕ → ℕ → ℕ → Type 0
SpellsNumbers line front m n = IsNumber m × IsNumber n
    × (line ≡ front ++ decimal m ++ 32 ∷ decimal n)

-- the line has just these bytes: fields apart by one space
abbrev pub Spells : List ℕ → Command → Type 0
Spells line (Place key word None) = IsNumber key × IsWord word
    × (line ≡ codes "place " ++ decimal key ++ 32 ∷ word)
Spells line (Place key word (Some near)) =
    IsNumber key × IsWord word × IsNumber near
    × (line ≡ codes "place " ++ decimal key ++ 32 ∷ (word ++ (codes " near " ++ decimal near)))
Spells line (Word ticket word) =
    IsNumber ticket × IsWord word × (line ≡ codes "word " ++ decimal ticket ++ 32 ∷ word)
Spells line (Show ticket) = SpellsNumber line (codes "show ") ticket
Spells line (Find key) = SpellsNumber line (codes "find ") key
Spells line (Floor key) = SpellsNumber line (codes "floor ") key
Spells line (After ticket) = SpellsNumber line (codes "after ") ticket
Spells line (Before ticket) = SpellsNumber line (codes "before ") ticket
Spells line All = line ≡ codes "all"
Spells line (Remove ticket) = SpellsNumber line (codes "remove ") ticket
Spells line (Start place) = SpellsNumber line (codes "start ") place
Spells line (Extend stop place) = SpellsNumbers line (codes "extend ") stop place
Spells line (Join stop next) = SpellsNumbers line (codes "join ") stop next
Spells line (Cut stop) = SpellsNumber line (codes "cut ") stop
Spells line (Swap stop other) = SpellsNumbers line (codes "swap ") stop other
Spells line (Walk stop) = SpellsNumber line (codes "walk ") stop
Spells line (Mark place stop) = SpellsNumbers line (codes "mark ") place stop
Spells line Pack = line ≡ codes "pack"

-- the fields of a line: the parts between single spaces
abbrev pub fields_of : List ℕ → List (List ℕ)
fields_of line = slice_split (λ b. b == 32) line

-- the command beside the verb
abbrev pub command_by : List (List ℕ × Command) → List ℕ → Option Command
command_by [] verb = None
command_by (row ∷ rows) verb = if bytes_eq verb row.0 then Some row.1 else command_by rows verb

-- the verbs that go with a number
abbrev pub number_verbs : ℕ → List (List ℕ × Command)
number_verbs n =
    (codes "show", Show n) ∷ (codes "find", Find n) ∷ (codes "floor", Floor n)
    ∷ (codes "after", After n)
    ∷ (codes "before", Before n) ∷ (codes "remove", Remove n) ∷ (codes "start", Start n)
    ∷ (codes "cut", Cut n) ∷ (codes "walk", Walk n) ∷ []

abbrev pub command_of_number : List ℕ → ℕ → Option Command
command_of_number verb n = command_by (number_verbs n) verb

-- those that go with two
abbrev pub numbers_verbs : ℕ → ℕ → List (List ℕ × Command)
numbers_verbs m n =
    (codes "extend", Extend m n) ∷ (codes "join", Join m n) ∷ (codes "swap", Swap m n)
    ∷ (codes "mark", Mark m n) ∷ []

abbrev pub command_of_numbers : List ℕ → ℕ → ℕ → Option Command
command_of_numbers verb m n = command_by (numbers_verbs m n) verb

-- those that stand alone
abbrev pub lone_verbs : List (List ℕ × Command)
lone_verbs = (codes "all", All) ∷ (codes "pack", Pack) ∷ []

-- the command that a line's fields spell, the first of them its verb
abbrev pub command_of_one_field : List ℕ → Option Command
command_of_one_field verb = command_by lone_verbs verb

abbrev pub command_of_two_fields : List ℕ → List ℕ → Option Command
command_of_two_fields verb field = option_and_then (command_of_number verb) (number_of field)

abbrev pub command_of_three_fields : List ℕ → List ℕ → List ℕ → Option Command
command_of_three_fields verb first second =
    if bytes_eq verb (codes "place")
    then option_and_then (λ key. option_map (λ word. Place key word None) (word_of second))
    (number_of first)
    else if bytes_eq verb (codes "word")
    then option_and_then (λ ticket. option_map (λ word. Word ticket word) (word_of second))
    (number_of first)
    else option_and_then (λ m. option_and_then (command_of_numbers verb m) (number_of second))
    (number_of first)

abbrev pub command_of_five_fields : List ℕ → List ℕ → List ℕ → List ℕ → List ℕ → Option Command
command_of_five_fields verb first second third fourth =
    if bytes_eq verb (codes "place") && bytes_eq third (codes "near")
    then option_and_then (λ key. option_and_then
    (λ word. option_map (λ near. Place key word (Some near)) (number_of fourth))
    (word_of second)) (number_of first)
    else None

abbrev pub command_of_fields : List (List ℕ) → Option Command
command_of_fields (verb ∷ []) = command_of_one_field verb
command_of_fields (verb ∷ field ∷ []) = command_of_two_fields verb field
command_of_fields (verb ∷ first ∷ second ∷ []) = command_of_three_fields verb first second
command_of_fields (verb ∷ first ∷ second ∷ third ∷ fourth ∷ [])
    = command_of_five_fields verb first second third fourth
command_of_fields _ = None

-- the command that the line spells
unfoldable pub command_of : List ℕ → Option Command
command_of line = command_of_fields (fields_of line)

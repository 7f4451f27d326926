-- The lines of an input, the text that answers them, and the state after them.
use Rattle.std.specs.Prelude.{ℕ, ◌≢◌, ◌++◌, ◌==◌, ◌∷◌, Bool, true, false, List, [], Option, Some}
use Rattle.std.specs.Prelude.{None, codes, map}
use Rattle.std.specs.List.{AllByRecursion, slice_split}
use Rattle.route_lines.specs.State.{State}
use Rattle.route_lines.specs.Grammar.{command_of}
use Rattle.route_lines.specs.Reply.{ended, reply, next}
use Rattle.route_lines.specs.declared.command.Command.{Command}
use Rattle.route_lines.specs.declared.command.Command.TheVariants.{Pack}

-- a line without its LF, or what follows the last LF of an input
pub data Line : Type 0 where
  whole : (bytes : List ℕ) → Line
  unended : (bytes : List ℕ) → Line

-- the parts but the last, and the last
abbrev pub front : List (List ℕ) → List (List ℕ)
front [] = []
front (part ∷ []) = []
front (part ∷ next ∷ parts) = part ∷ front (next ∷ parts)

abbrev pub last : List (List ℕ) → List ℕ
last [] = []
last (part ∷ []) = part
last (part ∷ next ∷ parts) = last (next ∷ parts)

-- the lines of an input that an LF ends
abbrev pub whole_lines : List ℕ → List (List ℕ)
whole_lines input = front (slice_split (λ b. b == 10) input)

-- what follows the last LF
abbrev pub rest_of : List ℕ → List ℕ
rest_of input = last (slice_split (λ b. b == 10) input)

abbrev pub unended_line : List ℕ → List Line
unended_line [] = []
unended_line (b ∷ bytes) = unended (b ∷ bytes) ∷ []

-- all lines of an input: those that an LF ends, and a rest that is not empty
abbrev pub lines : List ℕ → List Line
lines input = map whole (whole_lines input) ++ unended_line (rest_of input)

-- the command that a line spells; a rest without LF spells none, whatever it holds
abbrev pub command_in : Line → Option Command
command_in (whole bytes) = command_of bytes
command_in (unended bytes) = None

-- the replies to lines, one after another
abbrev pub replies : State → List Line → List ℕ
replies s [] = []
replies s (line ∷ lines) = reply s (command_in line) ++ replies (next s (command_in line)) lines

-- each line with its reply
abbrev pub answered : State → List Line → List (Line × List ℕ)
answered s [] = []
answered s (line ∷ lines) = (line, reply s (command_in line))
    ∷ answered (next s (command_in line)) lines

-- no line is answered `full`
abbrev pub NoneFull : State → List Line → Type 0
NoneFull s lines = AllByRecursion (λ a. a.1 ≢ ended (codes "full")) (answered s lines)

-- whether a line is `pack`
abbrev pub is_pack : Line → Bool
is_pack line = is (command_in line)
  where
    is : Option Command → Bool
    is (Some Pack) = true
    is command = false

abbrev pub after_lines : State → List Line → State
after_lines s [] = s
after_lines s (line ∷ lines) = after_lines (next s (command_in line)) lines

-- the text that answers an input, and the state at its end
abbrev pub text : State → List ℕ → List ℕ
text s input = replies s (lines input)

abbrev pub after : State → List ℕ → State
after s input = after_lines s (lines input)

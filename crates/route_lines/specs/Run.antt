-- What a run over an input does: the lines that it carries out, and where a fault breaks it off.
use Rattle.std.specs.Prelude.{◌≡◌, ℕ, ◌+◌, ◌<◌, ◌++◌, ◌∷◌, List, [], Option, length}
use Rattle.std.specs.Io.KnownBytes.{Appends, IsAtEnd}
use Rattle.route_lines.specs.State.{State}
use Rattle.route_lines.specs.Reply.{reply, next}
use Rattle.route_lines.specs.Text.{Line, whole, unended, command_in, replies, after_lines, lines}
use Rattle.route_lines.specs.Searches.{ComparesWithin, LooksWithin}
use Rattle.route_lines.specs.Searches.{most_keys, most_firsts, most_seconds, most_looks}
use Rattle.route_lines.specs.declared.command.Command.{Command}
use Rattle.route_lines.specs.declared.counts.Counts.{Counts}
use Rattle.route_lines.specs.declared.fault.RunFault.{RunFault}
use Rattle.route_lines.specs.declared.fault.RunFault.TheVariants.{Read, Write, TooLong}

-- the greatest count that lines may take, one after another, if a command may take so many
abbrev pub most_over : (State → Option Command → ℕ) → State → List Line → ℕ
most_over most s [] = 0
most_over most s (line ∷ lines) =
    most s (command_in line) + most_over most (next s (command_in line)) lines

-- from the old counts on at most what these lines may take from this state on
pub record CountsOver (s : State) (lines : List Line) (old new : Counts) : Type 0 where
  pub compares : ComparesWithin old new (most_over most_keys s lines)
      (most_over most_firsts s lines) (most_over most_seconds s lines)
  pub looks : LooksWithin old.looks new.looks (most_over most_looks s lines)

-- from the old state on, the lines are carried out and their replies written
pub record Carries (old : State) (lines : List Line) (new : State)
    (held written : Option (List ℕ)) (before later : Counts) : Type 0 where
  pub state : new ≡ after_lines old lines
  pub replied : Appends held written (replies old lines)
  pub counts : CountsOver old lines before later

-- the lines are carried out, and one more; of its reply a beginning is written, at least a byte
-- short
pub record BreaksOff (old : State) (lines : List Line) (line : Line) (new : State)
    (held written : Option (List ℕ)) (before later : Counts) : Type 0 where
  pub part : List ℕ
  pub missing : List ℕ
  pub reply : reply (after_lines old lines) (command_in line) ≡ part ++ missing
  pub short : 0 < length missing
  pub state : new ≡ after_lines old (lines ++ line ∷ [])
  pub replied : Appends held written (replies old lines ++ part)
  pub counts : CountsOver old (lines ++ line ∷ []) before later

-- a line without LF comes at the end of the input alone
abbrev pub ComesIn : Line → Option (List ℕ) → Type 0
ComesIn (whole bytes) left = Unit {0}
ComesIn (unended bytes) left = IsAtEnd left

-- a write fault breaks off at one of the lines that were read; where the flush at the end failed,
-- all are answered
pub record StopsWithin (input : List ℕ) (left : Option (List ℕ)) (old new : State)
    (held written : Option (List ℕ)) (counts later : Counts) : Type 0 where
  pub before : List Line
  pub line : Line
  pub behind : List Line
  pub read : lines input ≡ before ++ line ∷ behind
  pub comes : ComesIn line left
  pub breaks : BreaksOff old before line new held written counts later

-- a fact on one kind of fault
abbrev pub OnRead : RunFault → Type 0 → Type 0
OnRead (Read e) P = P
OnRead (Write e) P = Unit {0}
OnRead TooLong P = Unit {0}

abbrev pub OnWrite : RunFault → Type 0 → Type 0
OnWrite (Read e) P = Unit {0}
OnWrite (Write e) P = P
OnWrite TooLong P = Unit {0}

abbrev pub OnTooLong : RunFault → Type 0 → Type 0
OnTooLong (Read e) P = Unit {0}
OnTooLong (Write e) P = Unit {0}
OnTooLong TooLong P = P

-- What a run does between a reader and a writer that are watched. Two functions tell what remains
-- in the reader and what the writer holds.
use Rattle.std.specs.Prelude.{◌⊎◌, ℕ, ◌++◌, List, [], Option, map}
use Rattle.std.specs.Io.KnownBytes.{Appends, Consumes, IsAtEnd}
use Rattle.route_lines.specs.CommandLine.{Answers, Tells}
use Rattle.route_lines.specs.Run.{Carries, StopsWithin}
use Rattle.route_lines.specs.State.{State, Rooms}
use Rattle.route_lines.specs.Text.{lines, unended_line, whole, whole_lines}
use Rattle.route_lines.specs.Unfinished.{BreaksOffIn, HasNoLineEnd, StandsFor, StopsAtEnd, Takes}
use Rattle.route_lines.specs.Watched.{inner_of, failed_of}
use Rattle.route_lines.specs.Written.{AppendsBeginning}
use Rattle.route_lines.specs.declared.counts.Counts.{Counts}
use Rattle.route_lines.specs.declared.unfinished.Unfinished.{Unfinished}
use Rattle.route_lines.specs.declared.watched.Watched.{Watched}

module _ {W : Type 0} (contents : W → Option (List ℕ)) where
  -- these bytes were written
  abbrev pub AppendsTo : Watched W → Watched W → List ℕ → Type 0
  AppendsTo writer writer' bytes =
      Appends (contents (inner_of writer)) (contents (inner_of writer')) bytes

  -- a beginning of these bytes was written
  abbrev pub AppendsBeginningTo : Watched W → Watched W → List ℕ → Type 0
  AppendsBeginningTo writer writer' bytes =
      AppendsBeginning (contents (inner_of writer)) (contents (inner_of writer')) bytes

  -- this line and its LF were written, or a beginning of them
  abbrev pub TellsOn : Watched W → Watched W → List ℕ → Type 0
  TellsOn writer writer' line =
      Tells (failed_of writer) (failed_of writer') (contents (inner_of writer))
      (contents (inner_of writer')) line

  module _ (old new : State) (writer writer' : Watched W) (before later : Counts) where
    -- the lines that a piece of the input ends are carried out, and what follows them is kept
    abbrev pub TakesPiece : List ℕ → Unfinished → Unfinished → Type 0
    TakesPiece piece kept kept' = (line : List ℕ) → HasNoLineEnd line → StandsFor kept line
        → Takes (line ++ piece) [] kept' old new (contents (inner_of writer))
        (contents (inner_of writer')) before later

    -- a write fails at one of these lines
    abbrev pub BreaksOffInPiece : List ℕ → Unfinished → Type 0
    BreaksOffInPiece piece kept = (line : List ℕ) → HasNoLineEnd line → StandsFor kept line
        → BreaksOffIn (line ++ piece) old new (contents (inner_of writer))
        (contents (inner_of writer')) before later

    -- what was kept is carried out as the end of the input
    abbrev pub CarriesRest : Unfinished → Type 0
    CarriesRest kept = (line : List ℕ) → StandsFor kept line
        → Carries old (unended_line line) new (contents (inner_of writer))
        (contents (inner_of writer')) before later

    -- a write fails there, or the flush behind it
    abbrev pub StopsAtRest : Unfinished → Type 0
    StopsAtRest kept = (line : List ℕ) → StandsFor kept line
        → StopsAtEnd line old new (contents (inner_of writer)) (contents (inner_of writer'))
        before later
        ⊎ Carries old (unended_line line) new (contents (inner_of writer))
        (contents (inner_of writer')) before later

module _ {R W : Type 0} (remaining : R → Option (List ℕ)) (contents : W → Option (List ℕ)) where
  -- the whole input was read, and the text that answers it from an empty store was written
  abbrev pub AnswersInput : Rooms → Watched R → Watched R → Watched W → Watched W → Type 0
  AnswersInput rooms reader reader' writer writer' =
      Answers rooms (remaining (inner_of reader)) (remaining (inner_of reader'))
      (contents (inner_of writer)) (contents (inner_of writer'))

  module _ (old new : State) (reader reader' : Watched R) (writer writer' : Watched W)
      (before later : Counts) where
    -- the whole input was read, and every line of it is carried out and answered
    abbrev pub CarriesAll : Type 0
    CarriesAll = (input : List ℕ)
        × Consumes (remaining (inner_of reader)) (remaining (inner_of reader')) input
        × IsAtEnd (remaining (inner_of reader'))
        × Carries old (lines input) new (contents (inner_of writer)) (contents (inner_of writer'))
        before later

    -- some input was read, and every whole line of it is carried out and answered
    abbrev pub CarriesWholeLines : Type 0
    CarriesWholeLines = (input : List ℕ)
        × Consumes (remaining (inner_of reader)) (remaining (inner_of reader')) input
        × Carries old (map whole (whole_lines input)) new (contents (inner_of writer))
        (contents (inner_of writer')) before later

    -- some input was read, and a write failed at one of its lines; or all of it was read and
    -- answered, and the flush failed
    abbrev pub StopsAtWrite : Type 0
    StopsAtWrite = (input : List ℕ)
        × Consumes (remaining (inner_of reader)) (remaining (inner_of reader')) input
        × (StopsWithin input (remaining (inner_of reader')) old new (contents (inner_of writer))
        (contents (inner_of writer')) before later
        ⊎ (IsAtEnd (remaining (inner_of reader'))
        × Carries old (lines input) new (contents (inner_of writer)) (contents (inner_of writer'))
        before later))

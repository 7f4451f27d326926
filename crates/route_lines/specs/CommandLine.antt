-- What the program's arguments ask for, and what it has done when it ends.
use Rattle.std.specs.Prelude.{◌≡◌, ◌⊎◌, ℕ, ◌+◌, ◌-◌, ◌^◌, ◌∷◌, List, [], Option, None, codes, map}
use Rattle.std.specs.Prelude.{nat_le, option_and_then, if◌then◌else◌}
use Rattle.std.specs.Option.{option_map}
use Rattle.std.specs.Io.KnownBytes.{Appends, Consumes, IsAtEnd}
use Rattle.route_lines.specs.Number.{number_of}
use Rattle.route_lines.specs.Reply.{ended}
use Rattle.route_lines.specs.Run.{StopsWithin}
use Rattle.route_lines.specs.State.{State, Rooms, empty}
use Rattle.route_lines.specs.Text.{whole, whole_lines, replies, text}
use Rattle.route_lines.specs.Watched.{inner_of, failed_of, calls_of}
use Rattle.route_lines.specs.Written.{Writes}
use Rattle.route_lines.specs.declared.counts.Counts.{Counts}
use Rattle.route_lines.specs.declared.refusal.RoomError.{RoomError}
use Rattle.route_lines.specs.declared.refusal.RoomError.TheVariants.{Generation, Index, Stack}
use Rattle.route_lines.specs.declared.refusal.RoomError.TheVariants.{Memory, TooSmall}
use Rattle.route_lines.specs.declared.watched.Watched.{Watched}

-- three numbers: the rooms of places, stops and marks
abbrev pub rooms_of : List (List ℕ) → Option Rooms
rooms_of (places ∷ stops ∷ marks ∷ []) =
    option_and_then (λ p. option_and_then
    (λ t. option_map (λ m. record { places = p; stops = t; marks = m }) (number_of marks))
    (number_of stops)) (number_of places)
rooms_of _ = None

abbrev pub room_sum : Rooms → ℕ
room_sum rooms = rooms.places + rooms.stops + rooms.marks

-- the line for rooms that are refused
abbrev pub refused_line : RoomError → List ℕ
refused_line Generation = codes "room refused: generation"
refused_line Index = codes "room refused: index"
refused_line Stack = codes "room refused: stack"
refused_line Memory = codes "room refused: memory"
refused_line TooSmall = codes "room refused: too small"

-- why these rooms are refused
abbrev pub refusal_of : Rooms → RoomError
refusal_of rooms = if nat_le (2 ^ 64) (room_sum rooms) then Index else Memory

-- a line and its LF were written, or a beginning of them
abbrev pub Tells : ℕ → ℕ → Option (List ℕ) → Option (List ℕ) → List ℕ → Type 0
Tells failed later held written line = Writes failed later held written (ended line)

-- the whole input was read, and the text that answers it from an empty store was written
pub record Answers (rooms : Rooms) (before left held written : Option (List ℕ)) : Type 0 where
  pub input : List ℕ
  pub read : Consumes before left input
  pub ended : IsAtEnd left
  pub answered : Appends held written (text (empty rooms 0) input)

-- some input was read, and each line of it that an LF ends was answered, nothing else
pub record AnswersWholeLines (rooms : Rooms) (before left held written : Option (List ℕ))
    : Type 0 where
  pub input : List ℕ
  pub read : Consumes before left input
  pub answered : Appends held written (replies (empty rooms 0) (map whole (whole_lines input)))

-- some input was read, and the replies written up to a line whose reply lacks a byte or more; or
-- the text that answers the whole input was written, and the flush failed
pub record BeginsToAnswer (rooms : Rooms) (before left held written : Option (List ℕ))
    : Type 0 where
  pub input : List ℕ
  pub read : Consumes before left input
  pub later : State
  pub counts : Counts
  pub counted : Counts
  pub stops : StopsWithin input left (empty rooms 0) later held written counts counted
      ⊎ (IsAtEnd left × Appends held written (text (empty rooms 0) input))

-- a fault, and the line that tells it. A read failed, or there were more than can be counted, and
-- every whole line that was read is answered. Or a write failed: the replies are written up to a
-- line whose reply is cut short, or all of them are, and the flush failed
abbrev pub EndsAtFault : {R W E : Type 0} → (R → Option (List ℕ)) → (W → Option (List ℕ))
    → (E → Option (List ℕ)) → Rooms → Watched R → Watched R → Watched W → Watched W → Watched E
    → Watched E → Type 0
EndsAtFault remaining contents told rooms input input' output output' errors errors' =
    (AnswersWholeLines rooms (remaining (inner_of input)) (remaining (inner_of input'))
    (contents (inner_of output)) (contents (inner_of output'))
    × ((failed_of input' ≡ failed_of input + 1)
    ⊎ (calls_of input' ≡ calls_of input + (2 ^ 64 - 1)))
    × (failed_of output' ≡ failed_of output)
    × Tells (failed_of errors) (failed_of errors') (told (inner_of errors))
    (told (inner_of errors')) (codes "read failed"))
    ⊎ (BeginsToAnswer rooms (remaining (inner_of input)) (remaining (inner_of input'))
    (contents (inner_of output)) (contents (inner_of output'))
    × (failed_of output' ≡ failed_of output + 1)
    × (failed_of input' ≡ failed_of input)
    × Tells (failed_of errors) (failed_of errors') (told (inner_of errors))
    (told (inner_of errors')) (codes "write failed"))

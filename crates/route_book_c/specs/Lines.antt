-- Lines that are answered into room of the caller.
use Rattle.std.specs.Prelude.{◌≡◌, ℕ, ◌+◌, ◌<◌, ◌≤◌, List, [], ◌∷◌, ◌++◌, Option, Some, length}
use Rattle.std.specs.Prelude.{take, drop}
use Rattle.route_lines.specs.State.{State, empty}
use Rattle.route_lines.specs.Reply.{reply}
use Rattle.route_lines.specs.Text.{Line, after, command_in, rest_of, text}
use Rattle.route_lines.specs.declared.command.Command.{Command}
use Rattle.route_lines.specs.declared.command.Command.TheVariants.{All, Walk}

-- a new store with these rooms
abbrev pub opened : ℕ → ℕ → ℕ → State
opened places stops marks =
    empty (record { places = places; stops = stops; marks = marks }) 0

-- the room that a line must have for its reply, which is then carried out: a list as much as it
-- takes, and every other line as much as the longest line of a reply
abbrev pub room_for : State → Option Command → ℕ
room_for s (Some All) = length (reply s (Some All))
room_for s (Some (Walk stop)) = length (reply s (Some (Walk stop)))
room_for s command = 59

-- a text stands in the room from one index to another, and all else is as it was
pub record Wrote (at end : ℕ) (written old new : List ℕ) : Type 0 where
  pub end_is : end ≡ at + length written
  pub fits : end ≤ length old
  pub bytes : new ≡ take at old ++ (written ++ drop end old)

-- the room is as it was up to an index
pub record KeepsFront (at : ℕ) (old new : List ℕ) : Type 0 where
  pub front : take at new ≡ take at old
  pub length_is : length new ≡ length old

-- so many bytes of the input are whole lines, and they are carried out, with this text for an
-- answer
pub record Answers (s : State) (input : List ℕ) (taken : ℕ) (t : State) (answer : List ℕ)
    : Type 0 where
  pub within : taken ≤ length input
  pub ends : rest_of (take taken input) ≡ []
  pub state : t ≡ after s (take taken input)
  pub replies : answer ≡ text s (take taken input)

-- the first of these lines wants more room than there is
pub record Lacks (s : State) (lines : List Line) (room : ℕ) : Type 0 where
  pub line : Line
  pub behind : List Line
  pub first : lines ≡ line ∷ behind
  pub short : room < room_for s (command_in line)

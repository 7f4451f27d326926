-- Lines as they come in pieces.
use Rattle.std.specs.Prelude.{◌≡◌, ℕ, ◌<◌, ◌==◌, ◌++◌, ◌∷◌, true, false, List, [], Option, All}
use Rattle.std.specs.Prelude.{flat_map, length, map}
use Rattle.std.specs.List.{AllByRecursion}
use Rattle.route_lines.specs.State.{State}
use Rattle.route_lines.specs.Reply.{ended}
use Rattle.route_lines.specs.Text.{whole, unended}
use Rattle.route_lines.specs.Run.{Carries, BreaksOff}
use Rattle.route_lines.specs.declared.counts.Counts.{Counts}
use Rattle.route_lines.specs.declared.unfinished.Unfinished.{Unfinished}

abbrev pub HasNoLineEnd : List ℕ → Type 0
HasNoLineEnd bytes = All (λ b. (b == 10) ≡ false) bytes

-- what is kept of a line that has begun: its bytes, or that they are too many for any command
pub record StandsFor (kept : Unfinished) (line : List ℕ) : Type 0 where
  pub short : kept.is_long ≡ false → kept.bytes.items ≡ line
  pub long : kept.is_long ≡ true → 69 < length line

-- the bytes are these lines, each with its LF, and then a rest without one
pub record Cuts (bytes : List ℕ) (lines : List (List ℕ)) (rest : List ℕ) : Type 0 where
  pub whole : bytes ≡ flat_map ended lines ++ rest
  pub each : AllByRecursion HasNoLineEnd lines
  pub last : HasNoLineEnd rest

-- of the bytes, whose last are left, the lines with an LF are carried out, and what follows them is
-- kept
pub record Takes (bytes left : List ℕ) (kept : Unfinished) (old new : State)
    (held written : Option (List ℕ)) (before later : Counts) : Type 0 where
  pub lines : List (List ℕ)
  pub rest : List ℕ
  pub is : bytes ≡ flat_map ended lines ++ (rest ++ left)
  pub each : AllByRecursion HasNoLineEnd lines
  pub none : HasNoLineEnd rest
  pub stands : StandsFor kept rest
  pub carries : Carries old (map whole lines) new held written before later

-- or a write fails at one of them
pub record BreaksOffIn (bytes : List ℕ) (old new : State) (held written : Option (List ℕ))
    (counts later : Counts) : Type 0 where
  pub lines : List (List ℕ)
  pub line : List ℕ
  pub behind : List ℕ
  pub is : bytes ≡ flat_map ended lines ++ (line ++ 10 ∷ behind)
  pub each : AllByRecursion HasNoLineEnd lines
  pub none : HasNoLineEnd line
  pub breaks : BreaksOff old (map whole lines) (whole line) new held written counts later

-- at the end of the input a rest is answered, and the writer is flushed
pub record StopsAtEnd (rest : List ℕ) (old new : State) (held written : Option (List ℕ))
    (counts later : Counts) : Type 0 where
  pub some : 0 < length rest
  pub breaks : BreaksOff old [] (unended rest) new held written counts later

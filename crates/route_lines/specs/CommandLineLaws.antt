-- What a run that breaks off has written, as the program tells it.
use Rattle.std.proofs.Common.{◌≡◌, ◌⊎◌, inl, inr, subst, ℕ, List, Option, map}
use Rattle.std.specs.Io.KnownBytes.{Appends, Consumes, IsAtEnd}
use Rattle.route_lines.specs.State.{State, Rooms, empty}
use Rattle.route_lines.specs.Text.{whole, replies, lines, whole_lines, text}
use Rattle.route_lines.specs.Run.{Carries, StopsWithin, OnRead, OnWrite}
use Rattle.route_lines.specs.CommandLine.{AnswersWholeLines, BeginsToAnswer}
use Rattle.route_lines.specs.declared.counts.Counts.{Counts}
use Rattle.route_lines.specs.declared.fault.RunFault.{RunFault}
use Rattle.route_lines.specs.declared.fault.RunFault.TheVariants.{Read, Write}
use Rattle.std.specs.declared.io.Error.{Error}

pub answers-whole_lines : (rooms : Rooms) (book later : State)
    (before left held written : Option (List ℕ)) (counts counted : Counts) (input : List ℕ)
    → book ≡ empty rooms 0
    → Consumes before left input
    → Carries book (map whole (whole_lines input)) later held written counts counted
    → AnswersWholeLines rooms before left held written
answers-whole_lines rooms book later before left held written counts counted input new read
    carries = record {
      input = input;
      read = read;
      answered = subst (λ s. Appends held written (replies s (map whole (whole_lines input)))) new
          carries.replied;
    }

-- where a write failed, a line was being answered; or all were, and the flush failed
pub begins-to_answer : (rooms : Rooms) (book later : State)
    (before left held written : Option (List ℕ)) (counts counted : Counts) (input : List ℕ)
    → book ≡ empty rooms 0
    → Consumes before left input
    → StopsWithin input left book later held written counts counted ⊎ (IsAtEnd left
    × Carries book (lines input) later held written counts counted)
    → BeginsToAnswer rooms before left held written
begins-to_answer rooms book later before left held written counts counted input new read how =
    record {
      input = input;
      read = read;
      later = later;
      counts = counts;
      counted = counted;
      stops = from_empty how;
    }
  where
    from_empty : StopsWithin input left book later held written counts counted ⊎ (IsAtEnd left
        × Carries book (lines input) later held written counts counted)
        → StopsWithin input left (empty rooms 0) later held written counts counted ⊎ (IsAtEnd left
        × Appends held written (text (empty rooms 0) input))
    from_empty (inl stops) =
        inl (subst (λ s. StopsWithin input left s later held written counts counted) new stops)
    from_empty (inr all) =
        inr (all.0, subst (λ s. Appends held written (text s input)) new all.1.replied)

-- what is known of each kind of fault
pub on_read : (fault : RunFault) (e : Error) (P : Type 0) → fault ≡ Read e → OnRead fault P → P
on_read fault e P is on = subst (λ f. OnRead f P) is on

pub on_write : (fault : RunFault) (e : Error) (P : Type 0) → fault ≡ Write e → OnWrite fault P → P
on_write fault e P is on = subst (λ f. OnWrite f P) is on

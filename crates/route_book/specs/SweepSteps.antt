-- What a line is to the law on looks.
use Rattle.std.specs.Prelude.{ℕ, ◌≤◌, Bool, true, false, Option, Some, Result, Ok, Err}
use Rattle.ticket_book.specs.declared.entry.Kind.{Kind}
use Rattle.ticket_book.specs.declared.entry.Kind.TheVariants.{Place as OfPlace, Stop as OfStop}
use Rattle.ticket_book.specs.declared.entry.Kind.TheVariants.{Mark as OfMark}
use Rattle.route_lines.specs.Searches.{references_in}
use Rattle.route_lines.specs.State.{Item, holder}
use Rattle.route_lines.specs.Sweeps.{IsStep, Step, Tally, EndPlace, EndStop, EndPlaceAfterPack}
use Rattle.route_lines.specs.Sweeps.{EndStopAfterPack, Pack as PackStep, Other}
use Rattle.route_lines.specs.declared.command.Command.{Command}
use Rattle.route_lines.specs.declared.command.Command.TheVariants.{Remove, Pack}
use Rattle.route_lines.specs.declared.refusal.Refusal.{Refusal}
use Rattle.route_book.specs.Book.{Book}
use Rattle.route_book.specs.Removals.{Steps, kind_of, removal_wraps}

-- the end of an item of a kind, which may have to pack first. That of a mark is none: no reference
-- is to a mark
abbrev pub end_step : Kind → Bool → Step
end_step OfPlace false = EndPlace
end_step OfPlace true = EndPlaceAfterPack
end_step OfStop false = EndStop
end_step OfStop true = EndStopAfterPack
end_step OfMark wraps = Other

-- the two counters of a store, beside the looks so far
abbrev pub tally : Book → ℕ → Tally
tally b looks = record {
  places = b.places.chains.counter;
  stops = b.stops.counter;
  looks = looks;
}

-- the step that a removal is, by what has the ticket
abbrev pub removal_step : Option ℕ → Book → Result Item Refusal → Step
removal_step last b (Ok item) = end_step (kind_of item) (removal_wraps last b (kind_of item))
removal_step last b (Err refusal) = Other

-- the step that a line is
abbrev pub line_step : Option ℕ → Book → Option Command → Step
line_step last b (Some (Remove t)) = removal_step last b (holder b.state t)
line_step last b (Some Pack) = PackStep
line_step last b command = Other

-- what a line does is its step, where generations go up to `top` and the references are so many
-- at most
abbrev pub AreSweepSteps : Type 0
AreSweepSteps =
    (top most : ℕ) (command : Option Command) (before after : ℕ) (old new : Book)
    → old.places.chains.counter ≤ top → old.stops.counter ≤ top → references_in old.state ≤ most
    → Steps (Some top) command before after old new
    → IsStep top most (line_step (Some top) old command) (tally old before) (tally new after)

-- What a change makes of a state.
use Rattle.std.specs.Borrow.{Bor}
use Rattle.std.specs.Prelude.{ℕ, List}
use Rattle.route_lines.specs.State.{State, empty, in_rooms}
use Rattle.route_lines.specs.Calls.{after_place, after_word, after_start, after_extend, after_join}
use Rattle.route_lines.specs.Calls.{after_cut, after_swap, after_mark, after_removed}
use Rattle.route_lines.specs.declared.change.Change.{Change}
use Rattle.route_lines.specs.declared.change.Change.TheVariants.{Open, Place, Word, Start, Extend}
use Rattle.route_lines.specs.declared.change.Change.TheVariants.{Join, Cut, Swap, Mark, Remove}
use Rattle.route_lines.specs.declared.change.Change.TheVariants.{Move}

-- a word as a change has it, behind a reference
abbrev pub borrowed : List ℕ → Bor (List ℕ)
borrowed word = record { ref_ptr = (0, 0); now = word }

abbrev pub changed : State → Change → State
changed s (Open places stops marks last)
    = empty (record { places = places; stops = stops; marks = marks }) last
changed s (Place key word) = after_place s key word.now
changed s (Word ticket word) = after_word s ticket word.now
changed s (Start at) = after_start s at
changed s (Extend t at) = after_extend s t at
changed s (Join t u) = after_join s t u
changed s (Cut t) = after_cut s t
changed s (Swap t u) = after_swap s t u
changed s (Mark at t) = after_mark s at t
changed s (Remove t) = after_removed s t
changed s (Move places stops marks) =
    in_rooms (record { places = places; stops = stops; marks = marks }) s

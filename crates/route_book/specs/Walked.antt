-- What a walk gives of a stop, and the stops of an arena as the state has them.
use Rattle.std.specs.Prelude.{ℕ, Option}
use Rattle.std.specs.Option.{option_map}
use Rattle.route_lines.specs.State.{Place, Stop}
use Rattle.route_book.specs.Holds.{Found, found_by, state_stop}
use Rattle.route_book.specs.Item.{StopView}

-- its ticket, and that of the place that its reference finds among these
abbrev pub stop_seen : (ℕ → Option (ℕ × Place)) → StopView → Stop
stop_seen places v = record {
  ticket = v.ticket;
  place = option_map (λ (p : Place). p.ticket) (found_by places v.place);
}

-- the stop at an index, as the state has it
abbrev pub stop_in : Found → ℕ → Option Stop
stop_in f i = option_map (λ (e : ℕ × StopView). state_stop f e.1) (f.stops i)

-- What a store has that grew.
use Rattle.std.specs.Prelude.{ℕ, List, [], ◌∷◌, Some}
use Rattle.route_lines.specs.Routes.{linear}
use Rattle.route_lines.specs.State.{State}

-- one place, of this word and with key 50, and two routes of a stop there, in rooms for a hundred
-- of each kind
abbrev pub grown : List ℕ → State
grown word = record {
  rooms = record { places = 100; stops = 100; marks = 100 };
  last = 3;
  places = record { ticket = 1; key = 50; word = word } ∷ [];
  routes =
      linear (record { ticket = 2; place = Some 1 } ∷ [])
      ∷ linear (record { ticket = 3; place = Some 1 } ∷ []) ∷ [];
  marks = [];
}

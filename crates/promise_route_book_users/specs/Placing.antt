-- Places that are put in.
use Rattle.std.specs.Prelude.{◌≡◌, ℕ, ◌≤◌, List, [], ◌∷◌, ◌++◌}
use Rattle.route_lines.specs.State.{State, Place}

-- the last place has this ticket, and a key that is not above this one
pub record IsLastUpTo (s : State) (ticket key : ℕ) : Type 0 where
  pub front : List Place
  pub last : Place
  pub is : s.places ≡ front ++ last ∷ []
  pub has : last.ticket ≡ ticket
  pub up_to : last.key ≤ key

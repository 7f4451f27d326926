-- What an advancer gives.
use Rattle.std.specs.Prelude.{◌≡◌, List, [], ◌∷◌, Option, Some, None}

-- from the items that were left, a call gave the first and left the others; where none was left it
-- gave none, and none is left
abbrev pub Advances : {X : Type 0} → Option (List X) → Option X → Option (List X) → Type 0
Advances None given after = Unit {0}
Advances (Some []) given after = (given ≡ None) × (after ≡ Some [])
Advances (Some (x ∷ xs)) given after = (given ≡ Some x) × (after ≡ Some xs)

-- What an iterator over a chain gives.
use Rattle.std.specs.Prelude.{ℕ, true, false, List, [], ◌∷◌, Option, Some, None, if◌then◌else◌}
use Rattle.linked_lists.specs.LinkedLists.{Ends, prev_at}
use Rattle.triple_arena_chain.specs.Walks.{ChainWalk}

module _ {L : Type 0} where
  -- an index with its entry, if there is one, before these
  abbrev pub link_and : ℕ → Option (ℕ × L) → List (ℕ × (ℕ × L)) → List (ℕ × (ℕ × L))
  link_and i None others = others
  link_and i (Some entry) others = (i, entry) ∷ others

  -- the entries at these indexes, each beside its index
  abbrev pub links_along : (ℕ → Option (ℕ × L)) → List ℕ → List (ℕ × (ℕ × L))
  links_along entries [] = []
  links_along entries (i ∷ is) = link_and i (entries i) (links_along entries is)

-- a walk backwards, of which it is not said where it began
abbrev pub backwards_at : Option ℕ → ChainWalk
backwards_at at = record { start = 0; at = at; back = true }

-- a walk over links that stay: where it began as long as it goes on, and the index that comes next.
-- It turns late: if none comes next, then the one before the start does
abbrev pub lent_walk : (ℕ → Option Ends) → Option ℕ → Option ℕ → ChainWalk
lent_walk ends None at = backwards_at at
lent_walk ends (Some start) None = backwards_at (prev_at ends start)
lent_walk ends (Some start) (Some i) = record { start = start; at = Some i; back = false }

abbrev pub settled_at : ChainWalk → Option ℕ → ChainWalk
settled_at w None = backwards_at None
settled_at w (Some i) = w

-- the same walk, where a start that is no longer asked for is left out: backwards, and at the end
abbrev pub settled : ChainWalk → ChainWalk
settled w = if w.back then backwards_at w.at else settled_at w w.at

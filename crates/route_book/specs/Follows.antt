-- Which stop follows which, as the interlinks of their arena have it.
use Rattle.std.specs.Prelude.{◌≡◌, ℕ, List, [], ◌∷◌, ◌++◌, Option, Some, None, if◌then◌else◌}
use Rattle.std.specs.Option.{option_map, option_to_list}
use Rattle.std.specs.List.{AllByRecursion}
use Rattle.linked_lists.specs.LinkedLists.{Ends, next_at}
use Rattle.linked_lists.specs.Chains.{Linear, Cyclic, IsChainOf}
use Rattle.route_lines.specs.State.{Stop, Route}

-- the stops along a list of indexes
abbrev pub along : (ℕ → Option Stop) → List ℕ → List Stop
along at [] = []
along at (i ∷ is) = option_to_list (at i) ++ along at is

-- a route is a chain of the interlinks, along which its stops stand
pub record IsRoute (at : ℕ → Option Stop) (ends : ℕ → Option Ends) (r : Route) : Type 0 where
  pub chain : List ℕ
  pub is_chain : IsChainOf ends (if r.is_ring then Cyclic chain else Linear chain)
  pub stops : r.stops ≡ along at chain

abbrev pub AreRoutes : (ℕ → Option Stop) → (ℕ → Option Ends) → List Route → Type 0
AreRoutes at ends routes = AllByRecursion (IsRoute at ends) routes

module _ {T : Type 0} (ticket : T → ℕ) (stops : ℕ → Option (ℕ × T)) where
  -- the ticket of the stop at an index, if there is one
  abbrev pub ticket_at : Option ℕ → Option ℕ
  ticket_at None = None
  ticket_at (Some i) = option_map (λ e. ticket e.1) (stops i)

  -- each stop leads to the one at the next of its index
  abbrev pub LeadAs : (ℕ → Option Ends) → (ℕ → Option ℕ) → Type 0
  LeadAs ends next = (i g : ℕ) (v : T) → stops i ≡ Some (g, v)
      → next (ticket v) ≡ ticket_at (next_at ends i)

  -- no two stops have one ticket
  abbrev pub AreDistinct : Type 0
  AreDistinct = (i j g h : ℕ) (v w : T) → stops i ≡ Some (g, v) → stops j ≡ Some (h, w)
      → ticket v ≡ ticket w → i ≡ j

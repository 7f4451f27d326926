-- Stops that lead to one another.
use Rattle.std.specs.Prelude.{◌≡◌, ◌≢◌, ℕ, List, [], ◌∷◌, Option, Some, None, if◌then◌else◌}
use Rattle.std.specs.List.{AllByRecursion}
use Rattle.route_lines.specs.Routes.{has_ticket, next_stop}
use Rattle.route_lines.specs.Sound.{count_of}
use Rattle.route_lines.specs.State.{Stop, Route, stop_of}

-- the ticket of the first stop, or else where the list closes
abbrev pub head_or : Option ℕ → List Stop → Option ℕ
head_or closing [] = closing
head_or closing (t ∷ stops) = Some t.ticket

-- each stop leads to the one behind it, and the last one to where the list closes
abbrev pub Leads : (ℕ → Option ℕ) → Option ℕ → List Stop → Type 0
Leads next closing [] = Unit {0}
Leads next closing (t ∷ stops) = (next t.ticket ≡ head_or closing stops) × Leads next closing stops

-- where a route closes: a ring at its first stop
abbrev pub closes_at : Route → Option ℕ
closes_at r = if r.is_ring then head_or None r.stops else None

-- each of these stops is the one that a route has under its ticket
abbrev pub AreOnRoutes : List Route → List Stop → Type 0
AreOnRoutes routes stops = AllByRecursion (λ x. stop_of routes x.ticket ≡ Some x) stops

-- stops of the routes follow one another; no stop leads to the first one, and the last one leads to
-- none
pub record IsOpenList (routes : List Route) (stops : List Stop) : Type 0 where
  pub known : AreOnRoutes routes stops
  pub leads : Leads (next_stop routes) None stops
  pub first : (u : ℕ) (x : Stop) (rest : List Stop) → stops ≡ x ∷ rest
      → next_stop routes u ≢ Some x.ticket

-- a stop of the routes and those behind it follow one another, and the last one leads to that stop,
-- which comes once
pub record IsRound (routes : List Route) (t : Stop) (behind : List Stop) : Type 0 where
  pub known : AreOnRoutes routes (t ∷ behind)
  pub leads : Leads (next_stop routes) (Some t.ticket) (t ∷ behind)
  pub once : count_of (has_ticket t.ticket) behind ≡ 0

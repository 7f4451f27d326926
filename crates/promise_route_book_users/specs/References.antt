-- What references to a place find once it is removed.
use Rattle.std.specs.Prelude.{◌≡◌, ℕ, Some, None}
use Rattle.triple_arena_chain.specs.Links.{values_in}
use Rattle.triple_arena_ord.specs.Ordered.{entry_in}
use Rattle.route_lines.specs.State.{State, Stop, stop_of}
use Rattle.route_book.specs.Book.{Book}
use Rattle.route_book.specs.Holds.{found_by}
use Rattle.route_book.specs.Item.{StopView}

-- the stop that has a ticket names this place
pub record Names (s : State) (stop place : ℕ) : Type 0 where
  pub named : Stop
  pub living : stop_of s.routes stop ≡ Some named
  pub names : named.place ≡ Some place

-- the references of the stops that named a place find nothing
abbrev pub AreDead : ℕ → Book → Book → Type 0
AreDead place old new =
    (i g : ℕ) (v : StopView) → values_in new.stops i ≡ Some (g, v)
    → Names old.state v.ticket place → found_by (entry_in new.places) v.place ≡ None

-- and none is kept
abbrev pub AreGone : ℕ → Book → Book → Type 0
AreGone place old new = (i g : ℕ) (v : StopView) → values_in new.stops i ≡ Some (g, v)
    → Names old.state v.ticket place → v.place ≡ None

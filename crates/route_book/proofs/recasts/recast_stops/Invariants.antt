use Rattle.std.specs.Prelude.{◌≡◌, ℕ, ◌+◌, ◌-◌, ◌<◌, ◌≤◌, false, IsSome, List, Option}
use Rattle.std.specs.Option.{option_map}
use Rattle.route_book.specs.Item.{StopView}
use Rattle.route_book.specs.Packing.{recast_stop}
use Rattle.ticket_book.specs.Mirrors.{numbers}
use Rattle.triple_arena_chain.specs.Renaming.{live_below}
use Rattle.route_book.proofs.recasts.recast_stops.Given as goal

-- the references of the stops at the indexes that are passed are recast, and the others are as they
-- were
abbrev pub invariant-loop-p : goal.invariant-loop-p
invariant-loop-p g l =
    record {
      rises : (g.A.ArenaTrait.walk l.walk).falls ≡ false;
      reaches : (j : ℕ) → IsSome (g.A.ArenaTrait.entry_at l.stops j)
          → j ≤ (g.A.ArenaTrait.walk l.walk).high;
      passed : (j : ℕ) → j < (g.A.ArenaTrait.walk l.walk).low
          → g.A.ArenaTrait.entry_at l.stops j
          ≡ option_map (λ e. (
            e.0,
            recast_stop
                (numbers g.P.PtrCore.index g.P.PtrCore.generation
                (g.M.ArenaTrait.entry_at l.places))
                e.1,
          )) (g.A.ArenaTrait.entry_at l.fn.stops j);
      ahead : (j : ℕ) → (g.A.ArenaTrait.walk l.walk).low ≤ j
          → g.A.ArenaTrait.entry_at l.stops j ≡ g.A.ArenaTrait.entry_at l.fn.stops j;
      live : g.A.ArenaTrait.live_count l.stops ≡ g.A.ArenaTrait.live_count l.fn.stops;
      counter : g.A.ArenaTrait.counter l.stops ≡ g.A.ArenaTrait.counter l.fn.stops;
      room : g.A.ArenaTrait.room l.stops ≡ g.A.ArenaTrait.room l.fn.stops;
      kept : (f : g.row.A.Denot → Option (Option ℕ × Option ℕ))
          → ((s : g.row.A.Denot) (i : ℕ) (t : StopView) → f (g.A.ArenaTrait.with_value s i t) ≡ f s)
          → f l.stops ≡ f l.fn.stops;
      kept_list : (f : g.row.A.Denot → List ℕ)
          → ((s : g.row.A.Denot) (i : ℕ) (t : StopView) → f (g.A.ArenaTrait.with_value s i t) ≡ f s)
          → f l.stops ≡ f l.fn.stops;
      looks : l.looks ≡ l.fn.looks + live_below (g.A.ArenaTrait.entry_at l.fn.stops)
          (g.A.ArenaTrait.walk l.walk).low;
    }

abbrev pub decreases-loop-p : goal.decreases-loop-p
decreases-loop-p g l = (g.A.ArenaTrait.walk l.walk).high + 1 - (g.A.ArenaTrait.walk l.walk).low

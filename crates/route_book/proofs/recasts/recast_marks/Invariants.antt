use Rattle.std.specs.Prelude.{◌≡◌, ℕ, ◌+◌, ◌-◌, ◌*◌, ◌<◌, ◌≤◌, false, IsSome, List}
use Rattle.std.specs.Option.{option_map}
use Rattle.route_book.specs.Item.{MarkView}
use Rattle.route_book.specs.Packing.{recast_mark}
use Rattle.ticket_book.specs.Mirrors.{numbers}
use Rattle.triple_arena_chain.specs.Renaming.{live_below}
use Rattle.route_book.proofs.recasts.recast_marks.Given as goal

-- the references of the marks at the indexes that are passed are recast, and the others are as they
-- were
abbrev pub invariant-loop-p : goal.invariant-loop-p
invariant-loop-p g l =
    record {
      rises : (g.A.ArenaTrait.walk l.walk).falls ≡ false;
      reaches : (j : ℕ) → IsSome (g.A.ArenaTrait.entry_at l.marks j)
          → j ≤ (g.A.ArenaTrait.walk l.walk).high;
      passed : (j : ℕ) → j < (g.A.ArenaTrait.walk l.walk).low
          → g.A.ArenaTrait.entry_at l.marks j
          ≡ option_map (λ e. (
            e.0,
            recast_mark (numbers g.P.PtrCore.index g.P.PtrCore.generation
                (g.M.ArenaTrait.entry_at l.places))
                (numbers g.P.PtrCore.index g.P.PtrCore.generation (g.N.ArenaTrait.entry_at l.stops))
                e.1,
          )) (g.A.ArenaTrait.entry_at l.fn.marks j);
      ahead : (j : ℕ) → (g.A.ArenaTrait.walk l.walk).low ≤ j
          → g.A.ArenaTrait.entry_at l.marks j ≡ g.A.ArenaTrait.entry_at l.fn.marks j;
      live : g.A.ArenaTrait.live_count l.marks ≡ g.A.ArenaTrait.live_count l.fn.marks;
      counter : g.A.ArenaTrait.counter l.marks ≡ g.A.ArenaTrait.counter l.fn.marks;
      room : g.A.ArenaTrait.room l.marks ≡ g.A.ArenaTrait.room l.fn.marks;
      kept_list : (f : g.row.A.Denot → List ℕ)
          → ((s : g.row.A.Denot) (i : ℕ) (m : MarkView) → f (g.A.ArenaTrait.with_value s i m) ≡ f s)
          → f l.marks ≡ f l.fn.marks;
      looks : l.looks ≡ l.fn.looks + 2 * live_below (g.A.ArenaTrait.entry_at l.fn.marks)
          (g.A.ArenaTrait.walk l.walk).low;
    }

abbrev pub decreases-loop-p : goal.decreases-loop-p
decreases-loop-p g l = (g.A.ArenaTrait.walk l.walk).high + 1 - (g.A.ArenaTrait.walk l.walk).low

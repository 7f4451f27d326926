use Rattle.std.specs.Prelude.{◌≡◌, ℕ, ◌+◌, ◌-◌, ◌%◌, ◌^◌, ◌<◌, ◌≤◌, false, IsSome}
use Rattle.std.specs.Option.{option_map}
use Rattle.promise_arena_users.proofs.each.raise_each.Given as goal

-- the values at the indexes that are passed are raised, and the others are as they were
abbrev pub invariant-loop-p : goal.invariant-loop-p
invariant-loop-p g l =
    record {
      rises : (g.A.ArenaTrait.walk l.advancer).falls ≡ false;
      reaches : (j : ℕ) → IsSome (g.A.ArenaTrait.entry_at l.arena j)
          → j ≤ (g.A.ArenaTrait.walk l.advancer).high;
      passed : (j : ℕ) → j < (g.A.ArenaTrait.walk l.advancer).low
          → g.A.ArenaTrait.entry_at l.arena j
          ≡ option_map (λ e. (e.0, (e.1 + l.by) % 2 ^ 64))
          (g.A.ArenaTrait.entry_at l.fn.arena j);
      ahead : (j : ℕ) → (g.A.ArenaTrait.walk l.advancer).low ≤ j
          → g.A.ArenaTrait.entry_at l.arena j ≡ g.A.ArenaTrait.entry_at l.fn.arena j;
      live : g.A.ArenaTrait.live_count l.arena ≡ g.A.ArenaTrait.live_count l.fn.arena;
      counter : g.A.ArenaTrait.counter l.arena ≡ g.A.ArenaTrait.counter l.fn.arena;
      room : g.A.ArenaTrait.room l.arena ≡ g.A.ArenaTrait.room l.fn.arena;
    }

abbrev pub decreases-loop-p : goal.decreases-loop-p
decreases-loop-p g l =
    (g.A.ArenaTrait.walk l.advancer).high + 1 - (g.A.ArenaTrait.walk l.advancer).low

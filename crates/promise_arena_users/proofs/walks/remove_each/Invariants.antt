use Rattle.std.specs.Prelude.{◌≡◌, ℕ, ◌+◌, ◌-◌, false, IsSome}
use Rattle.triple_arena.specs.Walk.{IsAhead}
use Rattle.promise_arena_users.proofs.walks.remove_each.Given as goal

-- all that is live is ahead
abbrev pub invariant-loop-p : goal.invariant-loop-p
invariant-loop-p g l =
    record {
      rises : (g.A.ArenaTrait.walk l.advancer).falls ≡ false;
      ahead : (j : ℕ) → IsSome (g.A.ArenaTrait.entry_at l.arena j)
          → IsAhead (g.A.ArenaTrait.walk l.advancer) j;
    }

abbrev pub decreases-loop-p : goal.decreases-loop-p
decreases-loop-p g l =
    (g.A.ArenaTrait.walk l.advancer).high + 1 - (g.A.ArenaTrait.walk l.advancer).low

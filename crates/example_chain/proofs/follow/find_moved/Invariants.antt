use Rattle.std.specs.Prelude.{◌≡◌, ◌≢◌, ℕ, ◌+◌, ◌-◌, ◌<◌, ◌≤◌, false, IsSome, IfSome}
use Rattle.example_chain.proofs.follow.find_moved.Given as goal

-- no entry that is passed has the old pointer
abbrev pub invariant-loop-q : goal.invariant-loop-q
invariant-loop-q g l =
    record {
      rises : (g.A.ArenaTrait.walk l.advancer).falls ≡ false;
      reaches : (j : ℕ) → IsSome (g.A.ArenaTrait.entry_at l.arena j)
          → j ≤ (g.A.ArenaTrait.walk l.advancer).high;
      passed : (j : ℕ) → j < (g.A.ArenaTrait.walk l.advancer).low
          → IfSome (g.A.ArenaTrait.entry_at l.arena j) (λ e. e.1.was ≢ l.p);
    }

abbrev pub decreases-loop-q : goal.decreases-loop-q
decreases-loop-q g l =
    (g.A.ArenaTrait.walk l.advancer).high + 1 - (g.A.ArenaTrait.walk l.advancer).low

use Rattle.std.specs.Prelude.{◌≡◌, ℕ, ◌+◌, ◌-◌, ◌≤◌, false, IsSome}
use Rattle.triple_arena.specs.Content.{entry_at}
use Rattle.triple_arena_chain.specs.Links.{ends_in}
use Rattle.triple_arena_chain.specs.Renaming.{forwarded}
use Rattle.triple_arena_chain.proofs.PassLemmas.{IsPassed}
use Rattle.triple_arena_chain.proofs.chain_arena.compression.forward_nexts.Given as goal

-- the links that are passed have their nexts under the new indexes
abbrev pub invariant-loop-p : goal.invariant-loop-p
invariant-loop-p g l =
    record {
      rises : l.advancer.falls ≡ false;
      reaches : (j : ℕ) → IsSome (entry_at l.arena j) → j ≤ l.advancer.high;
      passed : IsPassed
          (forwarded (ends_in l.fn.arena)) l.advancer.low l.fn.arena
          l.arena;
    }

abbrev pub decreases-loop-p : goal.decreases-loop-p
decreases-loop-p g l = l.advancer.high + 1 - l.advancer.low

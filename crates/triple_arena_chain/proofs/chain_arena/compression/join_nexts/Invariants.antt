use Rattle.std.specs.Prelude.{◌≡◌, ℕ, ◌+◌, ◌-◌, ◌≤◌, false, IsSome}
use Rattle.triple_arena.specs.Content.{entry_at}
use Rattle.triple_arena_chain.proofs.PassLemmas.{IsJoined}
use Rattle.triple_arena_chain.proofs.chain_arena.compression.join_nexts.Given as goal

-- the nexts of the links that are passed have their previous ones
abbrev pub invariant-loop-p : goal.invariant-loop-p
invariant-loop-p g l =
    record {
      rises : l.advancer.falls ≡ false;
      reaches : (j : ℕ) → IsSome (entry_at l.arena j) → j ≤ l.advancer.high;
      joined : IsJoined l.fn.arena l.advancer.low l.arena;
    }

abbrev pub decreases-loop-p : goal.decreases-loop-p
decreases-loop-p g l = l.advancer.high + 1 - l.advancer.low

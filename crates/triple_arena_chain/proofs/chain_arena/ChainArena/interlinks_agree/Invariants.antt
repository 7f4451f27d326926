use Rattle.std.specs.Prelude.{◌≡◌, ℕ, ◌+◌, ◌-◌, ◌<◌, ◌≤◌, false, Some, IsSome}
use Rattle.triple_arena.specs.Content.{entry_at}
use Rattle.linked_lists.specs.LinkedLists.{next_at, prev_at}
use Rattle.triple_arena_chain.specs.Links.{ends_in}
use Rattle.triple_arena_chain.proofs.chain_arena.ChainArena.interlinks_agree.Given as goal

-- what the links that are passed name agrees
abbrev pub invariant-loop-p : goal.invariant-loop-p
invariant-loop-p g l =
    record {
      rises : l.links.falls ≡ false;
      reaches : (j : ℕ) → IsSome (entry_at l.arena j) → j ≤ l.links.high;
      forward : (p q : ℕ) → p < l.links.low
          → next_at (ends_in l.arena) p ≡ Some q
          → prev_at (ends_in l.arena) q ≡ Some p;
      backward : (p q : ℕ) → q < l.links.low
          → prev_at (ends_in l.arena) q ≡ Some p
          → next_at (ends_in l.arena) p ≡ Some q;
    }

abbrev pub decreases-loop-p : goal.decreases-loop-p
decreases-loop-p g l = l.links.high + 1 - l.links.low

use Rattle.std.specs.Prelude.{◌≡◌, ℕ, ◌+◌, ◌-◌, ◌≤◌, false, IsSome}
use Rattle.std.specs.Option.{option_map}
use Rattle.triple_arena.specs.Content.{entry_at, live_count}
use Rattle.triple_arena_chain.proofs.MovingLemmas.{AreChainsMoved, IsOnWay}
use Rattle.triple_arena_chain.proofs.chain_arena.canonical_transfer.move_chains.Given as goal

-- the chains of the indexes that are passed were moved
abbrev pub invariant-chain : goal.invariant-chain
invariant-chain g l =
    record {
      callable : goal.F-IsAlwaysCallable g l.map;
      rises : l.advancer.falls ≡ false;
      reaches : (j : ℕ) → IsSome (entry_at l.source j) → j ≤ l.advancer.high;
      moved : AreChainsMoved g.Q.PtrCore.index g.Q.PtrCore.generation g.P.PtrCore.index
          g.P.PtrCore.generation (goal.F-step g) l.fn.map g.Q.Gen.PtrGenCore.last l.fn.source
          (g.P.Gen.PtrGenCore.number l.generation) l.fn.target.room l.advancer.low l.map
          l.source l.target;
    }

abbrev pub decreases-chain : goal.decreases-chain
decreases-chain g l = l.advancer.high + 1 - l.advancer.low

-- and so were the links of the chain in hand before the one at `at`
abbrev pub invariant-link : goal.invariant-link
invariant-link g l =
    record {
      callable : goal.F-IsAlwaysCallable g l.map;
      rises : l.advancer.falls ≡ false;
      reaches : (j : ℕ) → IsSome (entry_at l.source j) → j ≤ l.advancer.high;
      live : IsSome (entry_at l.source (g.Q.Inx.PtrInxCore.number l.at));
      way : (k : ℕ) × (l.advancer.low ≡ k + 1)
          × IsOnWay g.Q.PtrCore.index g.Q.PtrCore.generation g.P.PtrCore.index
          g.P.PtrCore.generation (goal.F-step g) l.fn.map g.Q.Gen.PtrGenCore.last l.fn.source
          (g.P.Gen.PtrGenCore.number l.generation) l.fn.target.room
          k (g.Q.Inx.PtrInxCore.number l.start) (g.Q.Inx.PtrInxCore.number l.at)
          (g.P.Inx.PtrInxCore.number l.first)
          (option_map g.P.Inx.PtrInxCore.number l.last) l.map l.source l.target;
    }

abbrev pub decreases-link : goal.decreases-link
decreases-link g l = live_count l.source

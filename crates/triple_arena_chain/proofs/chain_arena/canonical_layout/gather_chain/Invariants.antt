use Rattle.std.specs.Prelude.{◌≡◌, ◌+◌, ◌-◌, ◌≤◌, length}
use Rattle.std.specs.Option.{option_map}
use Rattle.triple_arena_chain.proofs.GoingLemmas.{IsOnWay}
use Rattle.triple_arena_chain.proofs.chain_arena.canonical_layout.gather_chain.Given as goal

-- the links of the chain up to the last one are placed
abbrev pub invariant-link : goal.invariant-link
invariant-link g l =
    record {
      way : IsOnWay l.first l.placed
          (option_map g.P.Inx.PtrInxCore.number l.round) l.fn.arena l.arena;
      last : g.P.Inx.PtrInxCore.number l.last ≡ l.placed;
      more : l.first + 1 ≤ l.placed;
    }

abbrev pub decreases-link : goal.decreases-link
decreases-link g l = length l.fn.arena.slots - l.placed

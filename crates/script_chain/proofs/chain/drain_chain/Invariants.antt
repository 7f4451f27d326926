use Rattle.triple_arena_chain.specs.Drains.{DrainCanStep}
use Rattle.script_chain.proofs.chain.drain_chain.Given as goal

abbrev pub invariant-loop : goal.invariant-loop
invariant-loop g l = DrainCanStep g.P.Inx.PtrInxCore.number l.drain

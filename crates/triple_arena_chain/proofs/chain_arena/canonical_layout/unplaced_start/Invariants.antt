use Rattle.triple_arena_chain.proofs.HeadLemmas.{IsWalkBack}
use Rattle.triple_arena_chain.proofs.chain_arena.canonical_layout.unplaced_start.Given as goal

-- so many links were passed
abbrev pub invariant-back : goal.invariant-back
invariant-back g l = IsWalkBack l.placed (g.P.Inx.PtrInxCore.number l.k)
    (g.P.Inx.PtrInxCore.number l.at) l.counter l.arena

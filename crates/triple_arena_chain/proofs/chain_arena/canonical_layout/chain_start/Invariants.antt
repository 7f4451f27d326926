use Rattle.triple_arena_chain.specs.Links.{ends_in}
use Rattle.triple_arena_chain.proofs.ChainStartLemmas.{IsBack}
use Rattle.triple_arena_chain.proofs.chain_arena.canonical_layout.chain_start.Given as goal

-- so many links were passed
abbrev pub invariant-back : goal.invariant-back
invariant-back g l = IsBack (ends_in l.arena)
    (g.P.Inx.PtrInxCore.number l.k) (g.P.Inx.PtrInxCore.number l.at) l.counter

use Rattle.triple_arena_chain.proofs.LendLemmas.{chained-lent}
use Rattle.triple_arena_chain.proofs.chain_arena.arena_calls.ChainArenaArenaTrait.get_inx_mut_unwrap.Goals as goal

pub invariant_of-self-lent : goal.invariant_of-self-lent
invariant_of-self-lent g c w =
    chained-lent c.self.inside.arena (g.P.Inx.PtrInxCore.number c.args.i)
    c.get_inx_mut_unwrap.result.now w
    c.get_inx_mut_unwrap.ensures.value c.self.invariant

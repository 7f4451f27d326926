use Rattle.triple_arena_chain.proofs.SameLinksLemmas.{chained-limited}
use Rattle.triple_arena_chain.proofs.chain_arena.max_capacity.ChainArenaSetMaxCapacity.set_max_capacity.Goals as goal

pub invariant_of-self : goal.invariant_of-self
invariant_of-self g c =
    chained-limited g.P.Inx.PtrInxCore.greatest c.self.inside.arena
    c.set_max_capacity-answer.new.self c.args.max
    c.set_max_capacity-answer.result c.self.invariant c.recall_formed.ensures
    c.set_max_capacity-answer.ensures.ok c.set_max_capacity-answer.ensures.err

use Rattle.triple_arena_chain.proofs.SameLinksLemmas.{chained-recasted}
use Rattle.triple_arena_chain.proofs.chain_arena.recast.ChainArenaRecast.recast.Goals as goal

pub invariant_of-self : goal.invariant_of-self
invariant_of-self g c =
    let image = g.R.Recaster.image c.args.recaster.now in
    chained-recasted g.T.Recast.items image (g.T.Recast.recasted image)
    c.self.inside.arena c.recast-answer.new.self
    c.self.invariant c.recall_formed.ensures c.recast-answer.ensures.value

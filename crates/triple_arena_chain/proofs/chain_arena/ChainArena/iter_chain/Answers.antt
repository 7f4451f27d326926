use Rattle.std.proofs.Common.{sym, ap, ◌∙◌}
use Rattle.triple_arena.specs.Content.{entry_at}
use Rattle.triple_arena_chain.specs.IterChains.{links_along}
use Rattle.triple_arena_chain.specs.Links.{ends_in}
use Rattle.triple_arena_chain.specs.Walks.{left_over}
use Rattle.triple_arena_chain.proofs.IterChainLemmas.{walk_begins}
use Rattle.triple_arena_chain.proofs.chain_arena.ChainArena.iter_chain.Goals as goal

pub returns-clause-along : goal.returns-clause-along
returns-clause-along g c =
    let number = g.P.Inx.PtrInxCore.number in
    let chains = c.args.self.now in
    let along = c.in_ok-advancer_chain.ensures.along in
    let start = walk_begins (ends_in chains) _ _ _ c.some-start.ensures c.inx.ensures
    in
    let same = ap (left_over chains) (start ∙ sym c.in_ok-advancer_chain.ensures.from) in
    (along.walk, along.from, ap (links_along (entry_at chains)) (same ∙ along.steps))

use Rattle.std.proofs.Common.{rules, ◌≡◌, Some}
use Rattle.triple_arena_chain.specs.Kinds.{gap_by}
use Rattle.triple_arena_chain.specs.Links.{gap_among}
use Rattle.triple_arena_chain.proofs.KindLemmas.{asked_is_gap}
use Rattle.triple_arena_chain.proofs.chain_arena.chain_calls.ChainArenaChainArenaTrait.insert_lent_within_capacity.Goals as goal

pub put-requires-clause-gap : goal.put-requires-clause-gap
put-requires-clause-gap g c =
    let number = g.P.Inx.PtrInxCore.number in
    let old = c.args.self.now in
    let gap = gap_by number c.in-Some.gap in
    let is : gap_among g.P.PtrCore.index g.P.PtrCore.generation number old c.args.kind.now
    ≡ Some gap = search rules in
    asked_is_gap g.P.PtrCore.index g.P.PtrCore.generation number old c.args.kind.now gap
    c.recall_chained.ensures is

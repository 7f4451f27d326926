use Rattle.std.proofs.Common.{rules}
use Rattle.triple_arena_chain.proofs.RemovalLemmas.{neighbors_live}
use Rattle.triple_arena_chain.proofs.chain_arena.moves.bridge_over.Goals as goal

pub follow-requires-clause-before : goal.follow-requires-clause-before
follow-requires-clause-before g c =
    let number = g.P.Inx.PtrInxCore.number in
    let live = (neighbors_live c.args.arena.now (number c.args.i)
    c.get_inx_unwrap.result.now c.requires.chained (search rules)).0 in
    search rules

pub follow-requires-clause-after : goal.follow-requires-clause-after
follow-requires-clause-after g c =
    let number = g.P.Inx.PtrInxCore.number in
    let live = (neighbors_live c.args.arena.now (number c.args.i)
    c.get_inx_unwrap.result.now c.requires.chained (search rules)).1 in
    search rules

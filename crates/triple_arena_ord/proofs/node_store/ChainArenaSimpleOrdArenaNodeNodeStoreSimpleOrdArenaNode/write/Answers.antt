use Rattle.std.proofs.Common.{refl}
use Rattle.triple_arena_ord.proofs.RestLemmas.{rest-write}
use Rattle.triple_arena_ord.proofs.WriteLemmas.{written}
use Rattle.triple_arena_ord.proofs.node_store.ChainArenaSimpleOrdArenaNodeNodeStoreSimpleOrdArenaNode.write.Goals as goal

pub returns-clause-keeps : goal.returns-clause-keeps
returns-clause-keeps g c =
    rest-write c.args.self.now (g.P.Inx.PtrInxCore.number c.args.i)
    c.get_inx_mut_unwrap-node.result.now _ c.get_inx_mut_unwrap-node.ensures.value refl

pub returns-clause-written : goal.returns-clause-written
returns-clause-written g c =
    rw (← c.of-node.ensures, ← c.of-node-2.ensures, ← c.of-node-3.ensures)
    (written c.args.self.now (g.P.Inx.PtrInxCore.number c.args.i) _
    c.requires.live)

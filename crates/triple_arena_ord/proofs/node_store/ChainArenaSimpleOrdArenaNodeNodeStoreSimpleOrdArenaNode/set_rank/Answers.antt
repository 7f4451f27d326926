use Rattle.std.proofs.Common.{refl}
use Rattle.rank_tree.specs.Store.{with_rank}
use Rattle.triple_arena_ord.proofs.RestLemmas.{rest-write}
use Rattle.triple_arena_ord.proofs.WriteLemmas.{written_in}
use Rattle.triple_arena_ord.proofs.node_store.ChainArenaSimpleOrdArenaNodeNodeStoreSimpleOrdArenaNode.set_rank.Goals as goal

pub returns-clause-keeps : goal.returns-clause-keeps
returns-clause-keeps g c =
    rest-write c.args.self.now (g.P.Inx.PtrInxCore.number c.args.i) c.get_inx_mut_unwrap.result.now
    _ c.get_inx_mut_unwrap.ensures.value refl

pub returns-clause-does : goal.returns-clause-does
returns-clause-does g c =
    written_in c.args.self.now (g.P.Inx.PtrInxCore.number c.args.i)
    c.get_inx_mut_unwrap.result.now _ (with_rank c.args.rank) c.requires.live
    c.get_inx_mut_unwrap.ensures.value refl

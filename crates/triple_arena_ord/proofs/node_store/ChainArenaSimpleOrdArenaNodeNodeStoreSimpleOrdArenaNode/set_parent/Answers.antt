use Rattle.std.proofs.Common.{refl, ap}
use Rattle.std.specs.Option.{option_map}
use Rattle.rank_tree.specs.Store.{with_parent}
use Rattle.triple_arena_ord.specs.Node.{view_of}
use Rattle.triple_arena_ord.proofs.RestLemmas.{rest-write}
use Rattle.triple_arena_ord.proofs.WriteLemmas.{written_in}
use Rattle.triple_arena_ord.proofs.node_store.ChainArenaSimpleOrdArenaNodeNodeStoreSimpleOrdArenaNode.set_parent.Goals as goal

pub returns-clause-keeps : goal.returns-clause-keeps
returns-clause-keeps g c =
    rest-write c.args.self.now (g.P.Inx.PtrInxCore.number c.args.i) c.get_inx_mut_unwrap.result.now
    _ c.get_inx_mut_unwrap.ensures.value refl

pub returns-clause-does : goal.returns-clause-does
returns-clause-does g c =
    written_in c.args.self.now (g.P.Inx.PtrInxCore.number c.args.i)
    c.get_inx_mut_unwrap.result.now _
    (with_parent (option_map g.P.Inx.PtrInxCore.number c.args.parent.now)) c.requires
    c.get_inx_mut_unwrap.ensures.value
    (ap (λ p. with_parent p
    (view_of c.get_inx_mut_unwrap.result.now))
    c.of.ensures)

use Rattle.std.proofs.Common.{refl, sym, ap, ◌∙◌}
use Rattle.std.specs.Option.{option_map}
use Rattle.rank_tree.specs.declared.side.Side.TheVariants.{Left, Right}
use Rattle.rank_tree.specs.Store.{with_child}
use Rattle.triple_arena_ord.specs.Node.{view_of}
use Rattle.triple_arena_ord.proofs.RestLemmas.{rest-write}
use Rattle.triple_arena_ord.proofs.WriteLemmas.{written_in}
use Rattle.triple_arena_ord.proofs.node_store.ChainArenaSimpleOrdArenaNodeNodeStoreSimpleOrdArenaNode.set_child.Goals as goal

pub returns-in-Left-clause-keeps : goal.returns-in-Left-clause-keeps
returns-in-Left-clause-keeps g c =
    rest-write c.args.self.now (g.P.Inx.PtrInxCore.number c.args.i) c.get_inx_mut_unwrap.result.now
    _ c.get_inx_mut_unwrap.ensures.value refl

pub returns-in-Left-clause-does : goal.returns-in-Left-clause-does
returns-in-Left-clause-does g c =
    let number = g.P.Inx.PtrInxCore.number in
    let child = option_map number c.args.child.now in
    written_in c.args.self.now (number c.args.i) c.get_inx_mut_unwrap.result.now _
    (with_child c.args.side child) c.requires c.get_inx_mut_unwrap.ensures.value
    (ap (λ p. with_child Left p
    (view_of c.get_inx_mut_unwrap.result.now)) c.of.ensures
    ∙ ap (λ side. with_child side child (view_of c.get_inx_mut_unwrap.result.now))
    (sym c.in-Left.is))

pub returns-in-Right-clause-keeps : goal.returns-in-Right-clause-keeps
returns-in-Right-clause-keeps g c =
    rest-write c.args.self.now (g.P.Inx.PtrInxCore.number c.args.i)
    c.get_inx_mut_unwrap-in-Right.result.now _ c.get_inx_mut_unwrap-in-Right.ensures.value refl

pub returns-in-Right-clause-does : goal.returns-in-Right-clause-does
returns-in-Right-clause-does g c =
    let number = g.P.Inx.PtrInxCore.number in
    let child = option_map number c.args.child.now in
    written_in c.args.self.now (number c.args.i) c.get_inx_mut_unwrap-in-Right.result.now _
    (with_child c.args.side child) c.requires c.get_inx_mut_unwrap-in-Right.ensures.value
    (ap (λ p. with_child Right p
    (view_of c.get_inx_mut_unwrap-in-Right.result.now)) c.of-in-Right.ensures
    ∙ ap (λ side. with_child side child (view_of c.get_inx_mut_unwrap-in-Right.result.now))
    (sym c.in-Right.is))

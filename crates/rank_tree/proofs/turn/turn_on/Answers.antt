use Rattle.std.proofs.Common.{◌≡◌, ◌∙◌, sym, ap, Some, option_map}
use Rattle.rank_tree.specs.Store.{other_side, child_of, with_child}
use Rattle.rank_tree.specs.Named.{named}
use Rattle.rank_tree.proofs.NameLemmas.{not_some, if_live}
use Rattle.rank_tree.specs.SpotLaws.{spot_low, spot_parent, spot_high, spot_child, spot_holder}
use Rattle.rank_tree.specs.SpotLaws.{write-lives, reparent-lives, turn_works}
use Rattle.rank_tree.specs.Repair.{Spot, turned, Becomes}
use Rattle.rank_tree.proofs.turn.turn_on.Goals.{After-relink}
use Rattle.rank_tree.proofs.turn.turn_on.Goals as goal

-- the four changes, one after another
works : (g : _) (c : After-relink g)
    (spot : Spot (g.K.NodeStore.nodes c.args.nodes.now)
    (option_map g.P.Inx.PtrInxCore.number c.args.root.now)
    (g.P.Inx.PtrInxCore.number c.args.low))
    → Becomes g.P.Inx.PtrInxCore.number (turned spot c.args.low_rank c.args.high_rank)
    (g.K.NodeStore.nodes c.args.nodes.now) (g.K.NodeStore.nodes c.relink.new.nodes)
    c.relink.new.root
works g c spot =
    let number = g.P.Inx.PtrInxCore.number in
    let below = named number c.read-below.result in
    let raised_is : named number c.with_child-raised.result
    ≡ with_child (other_side c.args.side) (Some (number c.in-Some.high)) below =
    c.with_child-raised.ensures
    ∙ ap (λ z. with_child z (Some (number c.in-Some.high)) below) c.other-2.ensures in
    turn_works _ _ _ _ _ _ _ _ c.args.low_rank c.args.high_rank _ _ _ c.args.side
    (option_map number c.child-middle.result) (named number c.with_child-lowered.result)
    (named number c.with_child-raised.result)
    c.read-below.ensures (ap (option_map number) c.in-Some.is) c.read-above.ensures c.requires.side
    (c.child-middle.ensures ∙ ap (λ z. child_of z below) c.other.ensures)
    c.with_child-lowered.ensures raised_is
    c.write.ensures.written c.reparent.ensures.does c.write-2.ensures.written c.relink.ensures.does
    spot

pub read-below-requires-clause-live : goal.read-below-requires-clause-live
read-below-requires-clause-live g c = spot_low _ _ _ c.requires.spot

pub unreached-unreachable-requires : goal.unreached-unreachable-requires
unreached-unreachable-requires g c =
    not_some g.P.Inx.PtrInxCore.number c.read-below.result.parent _
    (spot_parent _ _ _ _ c.read-below.ensures c.requires.spot) c.in_default.not-Some

pub read-above-requires-clause-live : goal.read-above-requires-clause-live
read-above-requires-clause-live g c =
    spot_high _ _ _ _ _ c.read-below.ensures
    (ap (option_map g.P.Inx.PtrInxCore.number) c.in-Some.is) c.requires.spot

pub reparent-requires-clause-live : goal.reparent-requires-clause-live
reparent-requires-clause-live g c =
    if_live g.P.Inx.PtrInxCore.number (g.K.NodeStore.nodes c.write.new.self) c.child-middle.result
    (λ i e.
    write-lives _ _ _ _ c.write.ensures.written i
    (spot_child _ _ _ _ _ c.read-below.ensures c.requires.spot i
    (sym c.child-middle.ensures ∙ e)))

pub write-requires-2-clause-live : goal.write-requires-2-clause-live
write-requires-2-clause-live g c =
    reparent-lives _ _ _ _ c.reparent.ensures.does _
    (write-lives _ _ _ _ c.write.ensures.written _ (spot_low _ _ _ c.requires.spot))

pub relink-requires-clause-live : goal.relink-requires-clause-live
relink-requires-clause-live g c =
    if_live g.P.Inx.PtrInxCore.number (g.K.NodeStore.nodes c.write-2.new.self)
    c.read-above.result.parent (λ i e.
    write-lives _ _ _ _ c.write-2.ensures.written i
    (reparent-lives _ _ _ _ c.reparent.ensures.does i
    (write-lives _ _ _ _ c.write.ensures.written i
    (spot_holder _ _ _ _ _ _ c.read-below.ensures
    (ap (option_map g.P.Inx.PtrInxCore.number) c.in-Some.is) c.read-above.ensures
    c.requires.spot i e))))

pub returns-clause-does : goal.returns-clause-does
returns-clause-does g c = works g (goal.at.returns-clause-does g c).After-relink

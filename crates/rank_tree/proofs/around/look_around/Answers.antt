use Rattle.std.proofs.Common.{Option, ℕ, ◌∙◌, sym, ap}
use Rattle.std.specs.Option.{option_map}
use Rattle.rank_tree.proofs.NameLemmas.{not_some, if_live}
use Rattle.rank_tree.specs.Named.{named}
use Rattle.rank_tree.specs.Store.{child_of}
use Rattle.rank_tree.specs.Repair.{Spot}
use Rattle.rank_tree.specs.SpotLaws.{Reads, spotted, reads, rank_read, spot_low, spot_parent}
use Rattle.rank_tree.specs.SpotLaws.{spot_high, spot_child, spot_far}
use Rattle.rank_tree.proofs.around.look_around.Goals.{After-side_of-side}
use Rattle.rank_tree.proofs.around.look_around.Goals as goal

-- what was read is what stands there
read : (g : _) (c : After-side_of-side g) (root : Option ℕ)
    (spot : Spot (g.K.NodeStore.nodes c.args.nodes.now) root (g.P.Inx.PtrInxCore.number c.args.low))
    → Reads _ _ _ spot (named g.P.Inx.PtrInxCore.number c.read-below.result)
    (named g.P.Inx.PtrInxCore.number c.read-above.result)
    (g.P.Inx.PtrInxCore.number c.in-Some.high) c.side_of-side.result
read g c root spot =
    reads _ root _ spot _ _ _ _ c.read-below.ensures
    (ap (option_map g.P.Inx.PtrInxCore.number) c.in-Some.is) c.read-above.ensures
    c.side_of-side.ensures.left c.side_of-side.ensures.right

pub read-below-requires-clause-live : goal.read-below-requires-clause-live
read-below-requires-clause-live g c = spot_low _ _ _ c.requires.spot.1

pub unreached-unreachable-requires : goal.unreached-unreachable-requires
unreached-unreachable-requires g c =
    not_some g.P.Inx.PtrInxCore.number c.read-below.result.parent _
    (spot_parent _ _ _ _ c.read-below.ensures c.requires.spot.1) c.in_default.not-Some

pub read-above-requires-clause-live : goal.read-above-requires-clause-live
read-above-requires-clause-live g c =
    spot_high _ _ _ _ _ c.read-below.ensures
    (ap (option_map g.P.Inx.PtrInxCore.number) c.in-Some.is) c.requires.spot.1

pub rank_at-requires-clause-live : goal.rank_at-requires-clause-live
rank_at-requires-clause-live g c =
    if_live g.P.Inx.PtrInxCore.number (g.K.NodeStore.nodes c.args.nodes.now) c.child-outer.result
    (λ i e. spot_child _ _ _ _ _ c.read-below.ensures c.requires.spot.1 i
    (sym c.child-outer.ensures ∙ e))

pub rank_at-requires-2-clause-live : goal.rank_at-requires-2-clause-live
rank_at-requires-2-clause-live g c =
    if_live g.P.Inx.PtrInxCore.number (g.K.NodeStore.nodes c.args.nodes.now) c.child-inner.result
    (λ i e. spot_child _ _ _ _ _ c.read-below.ensures c.requires.spot.1 i
    (sym c.child-inner.ensures ∙ e))

pub rank_at-requires-3-clause-live : goal.rank_at-requires-3-clause-live
rank_at-requires-3-clause-live g c =
    let r = read g (goal.at.rank_at-requires-3-clause-live g c).After-side_of-side _
    c.requires.spot.1 in
    let away = ap (λ z. child_of z (named g.P.Inx.PtrInxCore.number c.read-above.result))
    c.other-away.ensures in
    if_live g.P.Inx.PtrInxCore.number (g.K.NodeStore.nodes c.args.nodes.now) c.child-far.result
    (λ i e. spot_far _ _ _ c.requires.spot.1 _ _ _ _ r i (sym away ∙ sym c.child-far.ensures ∙ e))

pub returns : goal.returns
returns g c = λ root spot.
    let r = read g (goal.at.returns g c).After-side_of-side root spot in
    let f = spotted _ _ _ spot in
    let below = named g.P.Inx.PtrInxCore.number c.read-below.result in
    let above = named g.P.Inx.PtrInxCore.number c.read-above.result in
    let outer_is = c.child-outer.ensures ∙ r.outer_is in
    let inner_is = c.child-inner.ensures ∙ ap (λ z. child_of z below) c.other-away.ensures
    ∙ r.inner_is in
    let far_is = c.child-far.ensures ∙ ap (λ z. child_of z above) c.other-away.ensures ∙ r.far_is in
    record {
      high_is = r.high_is;
      inner_is = inner_is;
      low_rank_is = r.low_rank_is;
      high_rank_is = r.high_rank_is;
      outer_rank_is = rank_read _ _ spot.outer _ _ outer_is f.outer_stands c.rank_at.ensures.some
          c.rank_at.ensures.none;
      inner_rank_is = rank_read _ _ spot.inner _ _ inner_is f.inner_stands c.rank_at-2.ensures.some
          c.rank_at-2.ensures.none;
      far_rank_is = rank_read _ _ spot.far _ _ far_is f.far_stands c.rank_at-3.ensures.some
          c.rank_at-3.ensures.none;
    }

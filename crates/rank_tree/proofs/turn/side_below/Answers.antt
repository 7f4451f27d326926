use Rattle.std.proofs.Common.{ap}
use Rattle.std.specs.Option.{option_map}
use Rattle.rank_tree.proofs.NameLemmas.{not_some}
use Rattle.rank_tree.specs.SpotLaws.{spot_low, spot_parent, spot_high, reads}
use Rattle.rank_tree.proofs.turn.side_below.Goals as goal

pub read-below-requires-clause-live : goal.read-below-requires-clause-live
read-below-requires-clause-live g c = spot_low _ _ _ c.requires.spot.1

pub unreached-unreachable-requires : goal.unreached-unreachable-requires
unreached-unreachable-requires g c =
    not_some g.P.Inx.PtrInxCore.number c.read-below.result.parent _
    (spot_parent _ _ _ _ c.read-below.ensures c.requires.spot.1) c.in_default.not-Some

pub read-above-requires-clause-live : goal.read-above-requires-clause-live
read-above-requires-clause-live g c =
    spot_high _ _ _ _ _ c.read-below.ensures (ap (option_map g.P.Inx.PtrInxCore.number)
    c.in-Some.is)
    c.requires.spot.1

pub returns : goal.returns
returns g c = λ root spot.
    (reads _ _ _ spot _ _ _ _ c.read-below.ensures
    (ap (option_map g.P.Inx.PtrInxCore.number) c.in-Some.is) c.read-above.ensures
    c.side_of.ensures.left c.side_of.ensures.right).side_is

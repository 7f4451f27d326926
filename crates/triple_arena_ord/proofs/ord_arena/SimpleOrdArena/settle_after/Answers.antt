use Rattle.std.proofs.Common.{◌≡◌, Some, refl}
use Rattle.std.specs.declared.cmp.Ordering.TheVariants.{Less}
use Rattle.rank_tree.specs.declared.side.Side.TheVariants.{Right}
use Rattle.triple_arena_ord.specs.Ordered.{Ordered, ordered_by}
use Rattle.triple_arena_ord.proofs.SettleLemmas.{Settled, settled_next, settled_at}
use Rattle.triple_arena_ord.proofs.ord_arena.SimpleOrdArena.settle_after.Given.{Over}
use Rattle.triple_arena_ord.proofs.ord_arena.SimpleOrdArena.settle_after.Goals.{After-neighbors_beside}
use Rattle.triple_arena_ord.proofs.ord_arena.SimpleOrdArena.settle_after.Goals as goal

module _ (g : Over) (c : After-neighbors_beside g) where
  abbrev inside : Ordered g.row.T.Denot
  inside = ordered_by g.P.Inx.PtrInxCore.number c.self.inside.chains c.self.inside.root

  -- the neighbor has a free side there
  neighbor : (j : _) × ((c.neighbors_beside.result.1 ≡ Some j)
      × Settled g.P.Inx.PtrInxCore.number inside Right (g.P.Inx.PtrInxCore.number c.args.i)
      (g.P.Inx.PtrInxCore.number j) Less)
  neighbor =
      settled_next g.P.Inx.PtrInxCore.number inside c.self.invariant.0
      (g.P.Inx.PtrInxCore.number c.args.i) _ c.read.ensures c.read.result.right
      c.if-is_none.ensures refl c.neighbors_beside.result.1 c.neighbors_beside.ensures.next

  settled : (j : _) → c.neighbors_beside.result.1 ≡ Some j
      → Settled g.P.Inx.PtrInxCore.number c.args.self.now Right
      (g.P.Inx.PtrInxCore.number c.args.i) (g.P.Inx.PtrInxCore.number j) Less
  settled j is =
      settled_at g.P.Inx.PtrInxCore.number inside c.args.self.now Right
      (g.P.Inx.PtrInxCore.number c.args.i) Less c.neighbors_beside.result.1 neighbor j is
      c.self.view_is

pub unreached-unreachable-requires : goal.unreached-unreachable-requires
unreached-unreachable-requires g c =
    let at = (goal.at.unreached-unreachable-requires g c).After-neighbors_beside in
    let here = c.in-None.is in
    let there = (neighbor g at).1.0 in
    absurd (cc)

pub returns-clause-free : goal.returns-clause-free
returns-clause-free g c =
    let at = (goal.at.returns-clause-free g c).After-neighbors_beside in
    (settled g at c.in-Some.next c.in-Some.is).free

pub returns-clause-same : goal.returns-clause-same
returns-clause-same g c =
    let at = (goal.at.returns-clause-same g c).After-neighbors_beside in
    (settled g at c.in-Some.next c.in-Some.is).same

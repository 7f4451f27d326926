use Rattle.std.proofs.Common.{◌≡◌, Some, refl}
use Rattle.std.specs.declared.cmp.Ordering.TheVariants.{Greater}
use Rattle.rank_tree.specs.declared.side.Side.TheVariants.{Left}
use Rattle.triple_arena_ord.specs.Ordered.{Ordered, ordered_by}
use Rattle.triple_arena_ord.proofs.SettleLemmas.{Settled, settled_prev, settled_at}
use Rattle.triple_arena_ord.proofs.ord_arena.SimpleOrdArena.settle_before.Given.{Over}
use Rattle.triple_arena_ord.proofs.ord_arena.SimpleOrdArena.settle_before.Goals.{After-neighbors_beside}
use Rattle.triple_arena_ord.proofs.ord_arena.SimpleOrdArena.settle_before.Goals as goal

module _ (g : Over) (c : After-neighbors_beside g) where
  abbrev inside : Ordered g.row.T.Denot
  inside = ordered_by g.P.Inx.PtrInxCore.number c.self.inside.chains c.self.inside.root

  -- the neighbor has a free side there
  neighbor : (j : _) × ((c.neighbors_beside.result.0 ≡ Some j)
      × Settled g.P.Inx.PtrInxCore.number inside Left (g.P.Inx.PtrInxCore.number c.args.i)
      (g.P.Inx.PtrInxCore.number j) Greater)
  neighbor =
      settled_prev g.P.Inx.PtrInxCore.number inside c.self.invariant.0
      (g.P.Inx.PtrInxCore.number c.args.i) _ c.read.ensures c.read.result.left
      c.if-is_none.ensures refl c.neighbors_beside.result.0 c.neighbors_beside.ensures.prev

  settled : (j : _) → c.neighbors_beside.result.0 ≡ Some j
      → Settled g.P.Inx.PtrInxCore.number c.args.self.now Left
      (g.P.Inx.PtrInxCore.number c.args.i) (g.P.Inx.PtrInxCore.number j) Greater
  settled j is =
      settled_at g.P.Inx.PtrInxCore.number inside c.args.self.now Left
      (g.P.Inx.PtrInxCore.number c.args.i) Greater c.neighbors_beside.result.0 neighbor j is
      c.self.view_is

pub unreached-unreachable-requires : goal.unreached-unreachable-requires
unreached-unreachable-requires g c =
    let at = (goal.at.unreached-unreachable-requires g c).After-neighbors_beside in
    let here = c.in-None.is in
    let there = (neighbor g at).1.0 in
    absurd (cc)

pub returns-clause-free : goal.returns-clause-free
returns-clause-free g c =
    let at = (goal.at.returns-clause-free g c).After-neighbors_beside in
    (settled g at c.in-Some.prev c.in-Some.is).free

pub returns-clause-same : goal.returns-clause-same
returns-clause-same g c =
    let at = (goal.at.returns-clause-same g c).After-neighbors_beside in
    (settled g at c.in-Some.prev c.in-Some.is).same

use Rattle.std.proofs.Common.{refl}
use Rattle.triple_arena_ord.specs.Ordered.{Ordered, ordered_by}
use Rattle.triple_arena_ord.proofs.SameListLemmas.{Reordered, still_whole}
use Rattle.triple_arena_ord.proofs.InsertLemmas.{renewed_ordered, replaced}
use Rattle.triple_arena_ord.proofs.ord_arena.SimpleOrdArena.replace_item.Given.{Over}
use Rattle.triple_arena_ord.proofs.ord_arena.SimpleOrdArena.replace_item.Goals.{After-renew}
use Rattle.triple_arena_ord.proofs.ord_arena.SimpleOrdArena.replace_item.Goals as goal

module _ (g : Over) (c : After-renew g) where
  abbrev inside : Ordered g.row.T.Denot
  inside = ordered_by g.P.Inx.PtrInxCore.number c.self.inside.chains c.self.inside.root

  abbrev renewed : Ordered g.row.T.Denot
  renewed = ordered_by g.P.Inx.PtrInxCore.number c.renew.new.chains c.self.inside.root

  same : Reordered inside renewed
  same = renewed_ordered inside renewed _ _ _ _ refl c.renew.ensures.renewed c.self.invariant.0

pub invariant_of-self : goal.invariant_of-self
invariant_of-self g c =
    still_whole (same g (goal.at.invariant_of-self g c).After-renew) c.self.invariant.1
    c.self.invariant.2

pub returns-clause-replaced : goal.returns-clause-replaced
returns-clause-replaced g c =
    let at = (goal.at.returns-clause-replaced g c).After-renew in
    replaced c.args.self.now (inside g at) (renewed g at) c.self.view_is _ _ _ _ refl
    c.renew.ensures.renewed c.self.invariant.0

pub returns-clause-ordered : goal.returns-clause-ordered
returns-clause-ordered g c =
    (same g (goal.at.returns-clause-ordered g c).After-renew).ordered

use Rattle.triple_arena_ord.specs.Ordered.{Ordered, ordered_by}
use Rattle.triple_arena_ord.proofs.SameListLemmas.{still_whole}
use Rattle.triple_arena_ord.proofs.KeptTreeLemmas.{recast_kept}
use Rattle.triple_arena_ord.proofs.ord_arena.recast.SimpleOrdArenaRecast.recast.Goals as goal

pub invariant_of-self : goal.invariant_of-self
invariant_of-self g c =
    let number = g.P.Inx.PtrInxCore.number in
    let image = g.R.Recaster.image c.args.recaster.now in
    let o : Ordered g.row.T.Denot =
    ordered_by number c.self.inside.chains c.self.inside.root in
    let r = recast_kept g.T.Recast.items image (g.T.Recast.recasted image) o
    c.recast.new.self c.recast.ensures.value c.self.invariant.0 in
    still_whole r c.self.invariant.1 c.self.invariant.2

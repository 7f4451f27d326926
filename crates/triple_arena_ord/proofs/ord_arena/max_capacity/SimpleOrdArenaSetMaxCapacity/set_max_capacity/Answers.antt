use Rattle.triple_arena_ord.specs.Ordered.{Ordered, ordered_by}
use Rattle.triple_arena_ord.proofs.SameListLemmas.{still_whole}
use Rattle.triple_arena_ord.proofs.KeptTreeLemmas.{limited}
use Rattle.triple_arena_ord.proofs.ord_arena.max_capacity.SimpleOrdArenaSetMaxCapacity.set_max_capacity.Goals as goal

pub invariant_of-self : goal.invariant_of-self
invariant_of-self g c =
    let number = g.P.Inx.PtrInxCore.number in
    let o : Ordered g.row.T.Denot =
    ordered_by number c.self.inside.chains c.self.inside.root in
    let call = c.set_max_capacity in
    let r = limited g.P.Inx.PtrInxCore.greatest o call.new.self c.args.max call.result
    call.ensures.ok call.ensures.err c.self.invariant.0 in
    still_whole r c.self.invariant.1 c.self.invariant.2

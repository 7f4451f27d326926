use Rattle.triple_arena_ord.specs.Ordered.{Ordered, ordered_by}
use Rattle.triple_arena_ord.proofs.SameListLemmas.{still_whole}
use Rattle.triple_arena_ord.proofs.StateLemmas.{lent_list}
use Rattle.triple_arena_ord.proofs.ord_arena.arena_calls.SimpleOrdArenaArenaTrait.get_inx_mut_unwrap.Goals as goal

pub invariant_of-self-lent : goal.invariant_of-self-lent
invariant_of-self-lent g c w =
    let number = g.P.Inx.PtrInxCore.number in
    let o : Ordered g.row.T.Denot =
    ordered_by number c.self.inside.chains c.self.inside.root in
    let r = lent_list o (number c.args.i) c.get_inx_mut_unwrap.result.now w
    c.get_inx_mut_unwrap.ensures.value c.self.invariant.0 in
    still_whole r c.self.invariant.1 c.self.invariant.2

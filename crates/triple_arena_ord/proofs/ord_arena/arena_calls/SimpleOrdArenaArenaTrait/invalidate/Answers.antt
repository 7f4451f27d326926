use Rattle.std.proofs.Common.{refl}
use Rattle.triple_arena_ord.specs.Ordered.{Ordered, ordered_by}
use Rattle.triple_arena_ord.proofs.SameListLemmas.{still_whole}
use Rattle.triple_arena_ord.proofs.StateLemmas.{invalidates_list}
use Rattle.triple_arena_ord.proofs.ord_arena.arena_calls.SimpleOrdArenaArenaTrait.invalidate.Goals as goal

pub invariant_of-self : goal.invariant_of-self
invariant_of-self g c =
    let number = g.P.Inx.PtrInxCore.number in
    let o : Ordered g.row.T.Denot =
    ordered_by number c.self.inside.chains c.self.inside.root in
    let p : Ordered g.row.T.Denot =
    ordered_by number c.invalidate.new.self c.self.inside.root in
    let r = invalidates_list g.P.Gen.PtrGenCore.last o p (g.P.PtrCore.index c.args.p) _ refl
    c.invalidate.ensures.exact c.invalidate.ensures.invalid c.self.invariant.0 in
    still_whole r c.self.invariant.1 c.self.invariant.2

pub returns-clause-formed : goal.returns-clause-formed
returns-clause-formed g c =
    record { ordered = (invariant_of-self g c).0; chained = c.invalidate.ensures.formed }

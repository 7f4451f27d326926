use Rattle.std.proofs.Common.{refl, sym}
use Rattle.triple_arena_ord.proofs.OrderedDrainLemmas.{none_last, last_taken}
use Rattle.triple_arena_ord.proofs.OrderedWalkLemmas.{last_node}
use Rattle.triple_arena_ord.proofs.ord_arena.SimpleOrdArena.pop_last.Goals as goal

pub returns-in_err-i : goal.returns-in_err-i
returns-in_err-i g c =
    let number = g.P.Inx.PtrInxCore.number in
    rw c.from_residual.ensures (none_last c.args.self.now (sym c.in_err-i.ensures.at), refl)

pub take_live-requires : goal.take_live-requires
take_live-requires g c =
    let number = g.P.Inx.PtrInxCore.number in
    last_node c.args.self.now c.last_index.ensures.ordered (number c.in_ok-i.i)
    (sym c.in_ok-i.ensures.at)

pub returns : goal.returns
returns g c =
    let number = g.P.Inx.PtrInxCore.number in
    last_taken g.P.Gen.PtrGenCore.last g.P.PtrCore.index g.P.PtrCore.generation
    c.args.self.now c.take_live.new.self (number c.in_ok-i.i) c.take_live.result
    c.last_index.ensures.ordered c.take_live.ensures (sym c.in_ok-i.ensures.at)

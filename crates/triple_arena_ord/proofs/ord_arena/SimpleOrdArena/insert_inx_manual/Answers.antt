use Rattle.triple_arena_chain.specs.Links.{values_in}
use Rattle.triple_arena_ord.proofs.LiveLemmas.{item-some}
use Rattle.triple_arena_ord.proofs.SettleLemmas.{numbered_ok, numbered_err}
use Rattle.triple_arena_ord.proofs.ord_arena.SimpleOrdArena.insert_inx_manual.Goals as goal

pub settle-place-requires-clause-live : goal.settle-place-requires-clause-live
settle-place-requires-clause-live g c =
    item-some
    (values_in c.args.self.now.chains (g.P.Inx.PtrInxCore.number c.args.p)) c.requires

pub returns-in-Ok : goal.returns-in-Ok
returns-in-Ok g c =
    numbered_ok g.P.PtrCore.index g.P.PtrCore.generation _ _ _ _ _ _ _ _
    c.in-Ok.replaced c.in-Ok.is c.settle-place.ensures.same c.insert_at_reallocating.ensures

pub returns-in-Err : goal.returns-in-Err
returns-in-Err g c =
    numbered_err g.P.PtrCore.index g.P.PtrCore.generation _ _ _ _ _ _ _
    c.in-Err.error c.in-Err.is c.settle-place.ensures.same c.insert_at_reallocating.ensures

use Rattle.triple_arena_ord.proofs.GrowthLemmas.{unlimited, adds_grown}
use Rattle.triple_arena_ord.proofs.ord_arena.SimpleOrdArena.add_at_reallocating.Goals as goal

pub returns-in-Ok : goal.returns-in-Ok
returns-in-Ok g c =
    adds_grown g.P.PtrCore.index g.P.PtrCore.generation _ _
    g.S.NonZeroInxGenericStack.takes_memory _ c.args.self.now c.make_room.new.self
    c.put_at.new.self
    (unlimited _ _ _ c.make_room.result _ c.make_room.ensures.refusal c.in-Ok.is)
    c.in-Ok.ensures.grown c.put_at.ensures

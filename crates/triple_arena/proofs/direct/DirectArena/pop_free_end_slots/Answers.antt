use Rattle.std.proofs.Common.{ap}
use Rattle.triple_arena.specs.ArenaRoom.{room_of}
use Rattle.triple_arena.proofs.DirectLemmas.{cut}
use Rattle.triple_arena.proofs.direct.DirectArena.pop_free_end_slots.Goals as goal

pub invariant_of-self : goal.invariant_of-self
invariant_of-self g c =
    cut c.self.invariant c.self.view_is c.last_index-last.ensures c.keep_first.ensures.slots
    (ap (room_of g.P.Inx.PtrInxCore.greatest) c.keep_first.ensures.room)

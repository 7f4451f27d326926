use Rattle.std.proofs.Common.{ap}
use Rattle.triple_arena.specs.ArenaRoom.{room_of}
use Rattle.triple_arena.proofs.FreeSlotsLemmas.{ordered}
use Rattle.triple_arena.proofs.arena.Arena.canonicalize_freelist.Goals as goal

pub invariant_of-self : goal.invariant_of-self
invariant_of-self g c =
    let linked = c.link_rising-self-inside.ensures in
    (ordered c.self.invariant c.self.view_is linked.entries linked.listed
    (ap (room_of g.P.Inx.PtrInxCore.greatest) linked.room)).sound

pub returns-clause-value : goal.returns-clause-value
returns-clause-value g c =
    let linked = c.link_rising-self-inside.ensures in
    (ordered c.self.invariant c.self.view_is linked.entries linked.listed
    (ap (room_of g.P.Inx.PtrInxCore.greatest) linked.room)).content

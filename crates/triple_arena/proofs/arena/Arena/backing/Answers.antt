use Rattle.std.proofs.Common.{arith}
use Rattle.triple_arena.proofs.FreeSlotsLemmas.{shown_links}
use Rattle.triple_arena.proofs.arena.Arena.backing.Goals as goal

pub returns-clause-links : goal.returns-clause-links
returns-clause-links g c i slot positive found =
    let e = c.own_capacity.ensures in
    shown_links g.P.Inx.PtrInxCore.greatest i slot c.self.invariant c.self.view_is
    (omega (arith, e.value, e.bounded)) positive found

use Rattle.triple_arena.proofs.FreeListLemmas.{formed}
use Rattle.triple_arena.proofs.arena.Arena.own_capacity.Goals as goal

pub returns-clause-formed : goal.returns-clause-formed
returns-clause-formed g c = formed c.self.invariant c.self.view_is

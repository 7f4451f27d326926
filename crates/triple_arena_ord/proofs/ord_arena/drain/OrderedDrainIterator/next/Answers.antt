use Rattle.std.proofs.Common.{refl}
use Rattle.triple_arena_ord.proofs.OrderedDrainLemmas.{drain_steps}
use Rattle.triple_arena_ord.proofs.ord_arena.drain.OrderedDrainIterator.next.Goals as goal

pub returns-clause-steps : goal.returns-clause-steps
returns-clause-steps g c =
    drain_steps g.P.Gen.PtrGenCore.last g.P.PtrCore.index
    g.P.PtrCore.generation c.pop_first.result c.args.self.now _ c.pop_first.ensures refl

use Rattle.triple_arena_ord.proofs.OrderedDrainLemmas.{keeps_along}
use Rattle.triple_arena_ord.proofs.ord_arena.SimpleOrdArena.drain_ordered.Goals as goal

pub returns-clause-stays : goal.returns-clause-stays
returns-clause-stays g c =
    keeps_along g.P.Gen.PtrGenCore.last g.P.PtrCore.index
    g.P.PtrCore.generation _

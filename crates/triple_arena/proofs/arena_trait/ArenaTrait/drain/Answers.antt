use Rattle.triple_arena.specs.DrainLaws.{left-is_given_up}
use Rattle.triple_arena.proofs.DrainLemmas.{keeps_along}
use Rattle.triple_arena.proofs.arena_trait.ArenaTrait.drain.Goals as goal

pub returns-clause-stays : goal.returns-clause-stays
returns-clause-stays g c =
    keeps_along g.Self.ArenaTrait.entry_at g.Self.ArenaTrait.walk g.Self.ArenaTrait.counter
    g.Self.ArenaTrait.live_entries g.Self.ArenaTrait.is_removed
    g.Self.ArenaTrait.drained g.P.Gen.PtrGenCore.last g.P.PtrCore.index g.P.PtrCore.generation _

pub returns-clause-left : goal.returns-clause-left
returns-clause-left g c = left-is_given_up g.Self.ArenaTrait.drained g.met.Self.ArenaTrait.drains _

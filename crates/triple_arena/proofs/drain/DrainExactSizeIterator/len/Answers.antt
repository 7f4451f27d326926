use Rattle.std.proofs.Common.{sym, ◌∙◌}
use Rattle.triple_arena.specs.Drains.{drain_arena}
use Rattle.triple_arena.specs.DrainLaws.{removals-length}
use Rattle.triple_arena.proofs.drain.DrainExactSizeIterator.len.Goals as goal

pub returns-clause-value : goal.returns-clause-value
returns-clause-value g c =
    let arena = drain_arena c.args.self.now in
    c.len.ensures.value
    ∙ sym (removals-length g.P.Gen.PtrGenCore.last (g.A.ArenaTrait.counter arena)
    (g.A.ArenaTrait.live_entries arena)
    ∙ g.met.A.ArenaTrait.live_entries_counted arena)

use Rattle.std.proofs.Common.{◌≡◌, length, ◌∙◌, arith}
use Rattle.triple_arena.specs.Drains.{drain_arena, drain_rest}
use Rattle.triple_arena.specs.DrainLaws.{removals-length}
use Rattle.triple_arena.proofs.drain.DrainIterator.size_hint.Goals as goal

-- a removal is left for each live entry
counted : (g : _) (c : goal.After-len-len g)
    → length (drain_rest g.A.ArenaTrait.counter g.A.ArenaTrait.live_entries g.P.Gen.PtrGenCore.last
    c.args.self.now)
    ≡ g.A.ArenaTrait.live_count (drain_arena c.args.self.now)
counted g c =
    let arena = drain_arena c.args.self.now in
    removals-length g.P.Gen.PtrGenCore.last (g.A.ArenaTrait.counter arena)
    (g.A.ArenaTrait.live_entries arena) ∙ g.met.A.ArenaTrait.live_entries_counted arena

pub returns-clause-lower : goal.returns-clause-lower
returns-clause-lower g c = λ _. omega (arith, c.len-len.ensures.value, counted g c)

pub returns-clause-upper : goal.returns-clause-upper
returns-clause-upper g c = (tt, omega (arith, c.len-len.ensures.value, counted g c))

use Rattle.std.proofs.Common.{arith}
use Rattle.triple_arena.specs.ContentLaws.{live-within}
use Rattle.triple_arena.proofs.arena.calls.ArenaArenaTrait.capacity.Goals as goal

pub returns-clause-indexes : goal.returns-clause-indexes
returns-clause-indexes g c j some =
    let e = c.own_capacity.ensures in
    let within = live-within _ e.formed j some in
    omega (arith, within, e.value)

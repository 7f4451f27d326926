use Rattle.std.proofs.Common.{◌≡◌, length}
use Rattle.triple_arena.proofs.RecastingLemmas.{Partly}
use Rattle.triple_arena.proofs.arena.recast.recast_values.Given as goal

abbrev pub invariant-loop-before : goal.invariant-loop-before
invariant-loop-before g l =
    let content = g.A.RecastByIndex.content in
    Partly g.T.Recast.items (g.R.Recaster.image l.recaster)
    (g.T.Recast.recasted (g.R.Recaster.image l.recaster)) (content l.fn.arena)
    (content l.arena) l.before
    × (length (content l.arena).slots ≡ length (content l.fn.arena).slots)

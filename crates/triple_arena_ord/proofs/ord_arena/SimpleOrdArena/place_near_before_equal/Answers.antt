use Rattle.std.proofs.Common.{ap, ◌∙◌}
use Rattle.triple_arena_ord.specs.Placing.{before_equal}
use Rattle.triple_arena_ord.proofs.ord_arena.SimpleOrdArena.place_near_before_equal.Goals as goal

pub returns-clause-ends : goal.returns-clause-ends
returns-clause-ends g c = λ end ends.
    c.before_equal.ensures ∙ ap before_equal (c.place_near.ensures.ends end ends)

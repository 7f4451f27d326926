use Rattle.triple_arena.proofs.WalkLemmas.{none_at_all}
use Rattle.triple_arena.proofs.advancer.LivePointers.first_of_all.Goals as goal

pub returns-clause-none : goal.returns-clause-none
returns-clause-none g c =
    none_at_all (g.Self.LivePointers.content c.args.self.now)
    (λ p. (g.P.PtrCore.index p, g.P.PtrCore.generation p)) _ _
    c.first_live.result c.slots_len.ensures c.first_live.ensures.found

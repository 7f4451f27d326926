use Rattle.triple_arena.proofs.WalkLemmas.{none_after, none_at_all}
use Rattle.triple_arena.proofs.advancer.LivePointers.last_of_all.Goals as goal

pub returns-clause-last : goal.returns-clause-last
returns-clause-last g c =
    none_after (g.Self.LivePointers.content c.args.self.now)
    (λ p. (g.P.PtrCore.index p, g.P.PtrCore.generation p)) _
    c.last_live.result c.slots_len.ensures c.last_live.ensures.found

pub returns-clause-none : goal.returns-clause-none
returns-clause-none g c =
    none_at_all (g.Self.LivePointers.content c.args.self.now)
    (λ p. (g.P.PtrCore.index p, g.P.PtrCore.generation p)) _ _
    c.last_live.result c.slots_len.ensures c.last_live.ensures.found

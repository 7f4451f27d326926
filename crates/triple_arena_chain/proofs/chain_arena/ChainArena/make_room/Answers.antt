use Rattle.std.proofs.Common.{rules}
use Rattle.triple_arena_chain.proofs.GrowthLemmas.{chained-grown}
use Rattle.triple_arena_chain.proofs.chain_arena.ChainArena.make_room.Goals as goal

pub invariant_of-self-2 : goal.invariant_of-self-2
invariant_of-self-2 g c =
    chained-grown c.self.inside.arena _ c.self.invariant (search rules)

pub returns-clause-formed : goal.returns-clause-formed
returns-clause-formed g c =
    chained-grown c.self.inside.arena _ c.self.invariant (search rules)

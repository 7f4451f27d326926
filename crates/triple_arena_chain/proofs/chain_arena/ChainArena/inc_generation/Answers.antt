use Rattle.std.proofs.Common.{ap}
use Rattle.triple_arena_chain.proofs.SameLinksLemmas.{chained-same_slots}
use Rattle.triple_arena_chain.proofs.chain_arena.ChainArena.inc_generation.Goals as goal

pub invariant_of-self : goal.invariant_of-self
invariant_of-self g c =
    chained-same_slots c.self.inside.arena c.inc_generation.new.self
    c.self.invariant c.inc_generation.ensures.formed
    (ap (λ d. d.slots) c.inc_generation.ensures.exact)

pub returns-clause-formed : goal.returns-clause-formed
returns-clause-formed g c =
    chained-same_slots c.self.inside.arena c.inc_generation.new.self
    c.self.invariant c.inc_generation.ensures.formed
    (ap (λ d. d.slots) c.inc_generation.ensures.exact)

use Rattle.std.proofs.Common.{ap}
use Rattle.triple_arena_chain.proofs.SameLinksLemmas.{chained-same_slots}
use Rattle.triple_arena_chain.proofs.chain_arena.ChainArena.set_generation.Goals as goal

pub invariant_of-self : goal.invariant_of-self
invariant_of-self g c =
    chained-same_slots c.self.inside.arena c.set_generation.new.self
    c.self.invariant c.set_generation.ensures.formed
    (ap (λ d. d.slots) c.set_generation.ensures.value)

pub returns-clause-formed : goal.returns-clause-formed
returns-clause-formed g c =
    chained-same_slots c.self.inside.arena c.set_generation.new.self
    c.self.invariant c.set_generation.ensures.formed
    (ap (λ d. d.slots) c.set_generation.ensures.value)

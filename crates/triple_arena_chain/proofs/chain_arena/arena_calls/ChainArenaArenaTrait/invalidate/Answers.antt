use Rattle.triple_arena_ptr.specs.InvalidationOption.{value_of}
use Rattle.triple_arena_ptr.specs.InvalidationResult.{answer_of}
use Rattle.triple_arena_chain.proofs.SameLinksLemmas.{invalidated_chained}
use Rattle.triple_arena_chain.proofs.chain_arena.arena_calls.ChainArenaArenaTrait.invalidate.Goals as goal

pub invariant_of-self : goal.invariant_of-self
invariant_of-self g c =
    invalidated_chained g.P.Gen.PtrGenCore.last
    (λ a. g.P.PtrCore.generation (value_of a)) c.self.inside.arena c.invalidate.new.self
    (g.P.PtrCore.index c.args.p) (answer_of c.invalidate.result) c.self.invariant
    c.invalidate.ensures.formed
    c.invalidate.ensures.invalidated c.invalidate.ensures.invalid

pub returns-clause-formed : goal.returns-clause-formed
returns-clause-formed g c = invariant_of-self g c

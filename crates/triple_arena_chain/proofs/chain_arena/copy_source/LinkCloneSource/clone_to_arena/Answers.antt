use Rattle.std.proofs.Common.{inl, inr}
use Rattle.triple_arena_chain.proofs.chain_arena.copy_source.LinkCloneSource.clone_to_arena.Goals as goal

pub returns-clause-unmade : goal.returns-clause-unmade
returns-clause-unmade g c =
    rw (← c.links.ensures.same)
    (λ failed. elim (c.clone_from_with.ensures.unmade failed) [
      | inl memory ↦ inl memory
      | inr left ↦ inr (left.0, left.1, left.2)
    ])

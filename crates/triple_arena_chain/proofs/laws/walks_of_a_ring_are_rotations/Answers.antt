use Rattle.std.proofs.Common.{[], ◌∷◌, ◌++◌, refl}
use Rattle.triple_arena_chain.specs.Walks.{around}
use Rattle.triple_arena_chain.specs.DrainLaws.{rotated}
use Rattle.triple_arena_chain.proofs.laws.walks_of_a_ring_are_rotations.Goals as goal

pub returns : goal.returns
returns c ends i next rest r =
    (around (next ∷ rest) r refl, around (rest ++ i ∷ []) (rotated ends i next rest r) refl)

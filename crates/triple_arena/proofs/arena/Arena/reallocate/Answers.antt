use Rattle.std.proofs.Common.{rules}
use Rattle.triple_arena.proofs.FreeListLemmas.{resized}
use Rattle.triple_arena.proofs.arena.Arena.reallocate.Goals as goal

pub invariant_of-self : goal.invariant_of-self
invariant_of-self g c =
    let fits = c.self.invariant.fits in
    resized c.self.invariant c.reallocate_over.ensures.items (Prim.search rules)

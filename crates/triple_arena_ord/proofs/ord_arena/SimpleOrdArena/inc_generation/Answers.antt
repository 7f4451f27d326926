use Rattle.std.proofs.Common.{refl, ap}
use Rattle.triple_arena_ord.specs.Ordered.{ordered_by}
use Rattle.triple_arena_ord.proofs.SameListLemmas.{Reordered, still_whole}
use Rattle.triple_arena_ord.proofs.StateLemmas.{same_slots_list}
use Rattle.triple_arena_ord.proofs.ord_arena.SimpleOrdArena.inc_generation.Goals.{After-inc_generation}
use Rattle.triple_arena_ord.proofs.ord_arena.SimpleOrdArena.inc_generation.Goals as goal

same : (g : _) (c : After-inc_generation g)
    → Reordered
    (ordered_by g.P.Inx.PtrInxCore.number c.self.inside.chains c.self.inside.root)
    (ordered_by g.P.Inx.PtrInxCore.number c.inc_generation.new.self c.self.inside.root)
same g c =
    same_slots_list _ _ refl (ap (λ c. c.slots) c.inc_generation.ensures.exact)
    c.self.invariant.0

pub invariant_of-self : goal.invariant_of-self
invariant_of-self g c =
    still_whole (same g (goal.at.invariant_of-self g c).After-inc_generation)
    c.self.invariant.1 c.self.invariant.2

pub returns-clause-ordered : goal.returns-clause-ordered
returns-clause-ordered g c =
    (same g (goal.at.returns-clause-ordered g c).After-inc_generation).ordered

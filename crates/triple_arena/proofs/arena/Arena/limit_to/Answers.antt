use Rattle.std.proofs.Common.{ap, ◌∙◌, rules}
use Rattle.triple_arena.proofs.FreeListLemmas.{resized}
use Rattle.triple_arena.proofs.arena.Arena.limit_to.Goals as goal

pub invariant_of-self : goal.invariant_of-self
invariant_of-self g c =
    let fits = c.self.invariant.fits in
    resized c.self.invariant
    (ap g.S.NonZeroInxGenericStack.items c.in-Ok.ensures.ok
    ∙ g.met.S.NonZeroInxLimitedStack.items_with_limit c.self.inside.slots c.args.max)
    (Prim.search rules)

use Rattle.std.proofs.Common.{rules, ◌≡◌}
use Rattle.triple_arena_ord.specs.OrderedWalks.{walk_at}
use Rattle.triple_arena_ord.proofs.OrderedWalkLemmas.{begins}
use Rattle.triple_arena_ord.proofs.ord_arena.SimpleOrdArena.advancer_ordered.Goals as goal

pub returns-then-finds-clause-along : goal.returns-then-finds-clause-along
returns-then-finds-clause-along g c =
    let starts : c.from.result ≡ walk_at (g.P.PtrCore.index c.args.p) c.args.rev = search rules in
    begins c.args.self.now c.finds.ensures.ordered c.from.result
    (g.P.PtrCore.index c.args.p) (g.P.PtrCore.generation c.args.p) c.args.rev
    (c.finds.ensures.found.0 c.if-finds.true) starts

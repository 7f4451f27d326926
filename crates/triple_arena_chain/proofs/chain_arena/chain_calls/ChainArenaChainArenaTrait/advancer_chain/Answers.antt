use Rattle.std.proofs.Common.{rules, IsSome, subst}
use Rattle.triple_arena.specs.Content.{get}
use Rattle.triple_arena_chain.specs.Links.{IsChained}
use Rattle.triple_arena_chain.proofs.WalkLemmas.{walk_along}
use Rattle.triple_arena_chain.proofs.chain_arena.chain_calls.ChainArenaChainArenaTrait.advancer_chain.Goals as goal

pub returns-in-Some-clause-along : goal.returns-in-Some-clause-along
returns-in-Some-clause-along g c =
    let live : IsSome (get c.args.self.now (g.P.PtrCore.index c.args.p)
    (g.P.PtrCore.generation c.args.p)) = search rules in
    walk_along c.args.self.now (g.P.PtrCore.index c.args.p)
    (g.P.PtrCore.generation c.args.p) _
    (subst IsChained c.self.view_is c.self.invariant) live
    c.from.ensures

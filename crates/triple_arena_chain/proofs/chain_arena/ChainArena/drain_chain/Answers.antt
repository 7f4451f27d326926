use Rattle.std.proofs.Common.{rules, Some, IsSome, ap, refl}
use Rattle.triple_arena.specs.Content.{get}
use Rattle.triple_arena_chain.proofs.DrainLemmas.{walk_from, keeps_along, goes_along}
use Rattle.triple_arena_chain.proofs.chain_arena.ChainArena.drain_chain.Goals as goal

pub returns : goal.returns
returns g c =
    let some : IsSome (get c.args.self.now (g.P.PtrCore.index c.args.p)
    (g.P.PtrCore.generation c.args.p)) = search rules in
    let walk = walk_from g.P.Gen.PtrGenCore.last c.args.self.now
    (g.P.Inx.PtrInxCore.number c.inx.result) (g.P.PtrCore.index c.args.p)
    (g.P.PtrCore.generation c.args.p)
    c.recall_chained.ensures c.inx.ensures some in (
      (refl, λ w. refl, tt),
      record {
        variant = (λ is. some, λ is. refl);
        same_reference = refl;
        chains = refl;
        start = ap Some c.inx.ensures;
        ready = walk;
        stays = keeps_along g.P.Inx.PtrInxCore.number g.P.Gen.PtrGenCore.last g.P.PtrCore.index
            g.P.PtrCore.generation _;
        in_order = goes_along g.P.Inx.PtrInxCore.number g.P.Gen.PtrGenCore.last g.P.PtrCore.index
            g.P.PtrCore.generation _;
        none = tt;
      },
    )

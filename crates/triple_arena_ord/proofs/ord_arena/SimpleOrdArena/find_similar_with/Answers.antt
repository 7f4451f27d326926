use Rattle.std.proofs.Common.{subst, arith}
use Rattle.triple_arena_ord.specs.Asked.{IsAsked}
use Rattle.triple_arena_ord.specs.Ordered.{order_in, entry_in}
use Rattle.triple_arena_ord.proofs.ord_arena.SimpleOrdArena.find_similar_with.Goals as goal

pub returns-clause-asked : goal.returns-clause-asked
returns-clause-asked g c =
    let none = c.new.ensures in
    let rank = c.find_similar_with_counted.ensures.rank in
    let bound = c.find_similar_with_counted.ensures.bound in (
      c.find_similar_with_counted.new.probes,
      subst (λ z. IsAsked g.P.PtrCore.index g.P.PtrCore.generation (goal.F-step g)
          (entry_in c.args.self.now) (order_in c.args.self.now) c.args.f
          c.find_similar_with_counted.result z c.find_similar_with_counted.new.probes)
          none c.find_similar_with_counted.ensures.asked,
      (omega (arith, none, rank), omega (arith, none, bound)),
    )

use Rattle.std.proofs.Common.{arith}
use Rattle.triple_arena_ord.specs.OrderedDrains.{drain_arena}
use Rattle.triple_arena_ord.proofs.OrderedDrainLemmas.{removals_left}
use Rattle.triple_arena_ord.proofs.ord_arena.drain.OrderedDrainIterator.size_hint.Goals as goal

pub returns-clause-lower : goal.returns-clause-lower
returns-clause-lower g c = λ _.
    omega (
      arith,
      c.len-len.ensures.value,
      removals_left
          (drain_arena c.args.self.now) c.len-len.ensures.formed.ordered g.P.Gen.PtrGenCore.last,
    )

pub returns-clause-upper : goal.returns-clause-upper
returns-clause-upper g c = (
  tt,
  omega (
    arith,
    c.len-len.ensures.value,
    removals_left
        (drain_arena c.args.self.now) c.len-len.ensures.formed.ordered g.P.Gen.PtrGenCore.last,
  ),
)

use Rattle.std.proofs.Common.{arith}
use Rattle.triple_arena_ord.specs.OrderedDrains.{drain_arena}
use Rattle.triple_arena_ord.proofs.OrderedDrainLemmas.{removals_left}
use Rattle.triple_arena_ord.proofs.ord_arena.drain.OrderedDrainExactSizeIterator.len.Goals as goal

pub returns-clause-value : goal.returns-clause-value
returns-clause-value g c =
    omega (
      arith,
      c.len.ensures.value,
      removals_left
          (drain_arena c.args.self.now) c.len.ensures.formed.ordered g.P.Gen.PtrGenCore.last,
    )

use Rattle.std.proofs.Common.{◌-◌, ap, ◌∙◌}
use Rattle.std.specs.Fn.{iterate}
use Rattle.triple_arena_ptr.specs.Generation.{next_generation}
use Rattle.triple_arena.specs.DrainLaws.{iterate_first}
use Rattle.triple_arena.proofs.arena.calls.ArenaArenaTrait.take_all.Goals as goal

pub loop-left-preserved : goal.loop-left-preserved
loop-left-preserved g c =
    let l = c.loop-left in (
      ap (λ x. iterate (next_generation g.P.Gen.PtrGenCore.last) (l.left - 1) x.counter)
          c.step.ensures.value
          ∙ iterate_first (next_generation g.P.Gen.PtrGenCore.last) l.left l.self.counter
          c.loop-left-test.true ∙ l.invariant.0,
      ap (λ x. x.room) c.step.ensures.value ∙ l.invariant.1,
    )

use Rattle.std.specs.Prelude.{◌≡◌}
use Rattle.std.specs.Fn.{iterate}
use Rattle.triple_arena_ptr.specs.Generation.{next_generation}
use Rattle.triple_arena.specs.Content.{live_count}
use Rattle.triple_arena.proofs.arena.calls.ArenaArenaTrait.take_all.Given as goal

-- the steps that are left end where all of them end
abbrev pub invariant-loop-left : goal.invariant-loop-left
invariant-loop-left g l =
    (iterate (next_generation g.P.Gen.PtrGenCore.last) l.left l.self.counter
    ≡ iterate (next_generation g.P.Gen.PtrGenCore.last) (live_count l.fn.self) l.fn.self.counter)
    × (l.self.room ≡ l.fn.self.room)

abbrev pub decreases-loop-left : goal.decreases-loop-left
decreases-loop-left g l = l.left

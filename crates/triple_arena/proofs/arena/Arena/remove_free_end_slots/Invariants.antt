use Rattle.std.specs.Prelude.{◌≡◌, length}
use Rattle.triple_arena.specs.Content.{without_free_end}
use Rattle.triple_arena.proofs.arena.Arena.remove_free_end_slots.Given as goal

-- what is left to be popped ends where all of it does
abbrev pub invariant-loop : goal.invariant-loop
invariant-loop g l = without_free_end l.self ≡ without_free_end l.fn.self

abbrev pub decreases-loop : goal.decreases-loop
decreases-loop g l = length l.self.slots

use Rattle.std.specs.Prelude.{◌≡◌}
use Rattle.triple_arena.specs.DirectContent.{live_entries}
use Rattle.triple_arena.specs.Iterators.{HasPassed}
use Rattle.promise_arena_users.proofs.searches.find_equal.Given as goal

-- each value that was passed differs
abbrev pub invariant-loop-p : goal.invariant-loop-p
invariant-loop-p g l =
    HasPassed (λ t b. b ≡ g.T.PartialEq.eq t l.wanted) (live_entries l.arena) l.p-iterator

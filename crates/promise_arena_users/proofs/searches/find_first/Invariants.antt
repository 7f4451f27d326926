use Rattle.std.specs.Fn.{FnReturnsAt}
use Rattle.triple_arena.specs.Iterators.{HasPassed}
use Rattle.triple_arena.specs.LiveEntries.{live_entries}
use Rattle.promise_arena_users.proofs.searches.find_first.Given as goal

-- each value that was passed fails the test
abbrev pub invariant-loop-p : goal.invariant-loop-p
invariant-loop-p g l =
    HasPassed (λ t b. FnReturnsAt g.F.Fn l.test t b) (live_entries l.arena) l.p-iterator

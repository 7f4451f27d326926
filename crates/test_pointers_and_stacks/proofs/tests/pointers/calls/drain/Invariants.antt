use Rattle.std.proofs.Common.{[], length}
use Rattle.std.specs.Prelude.{IsSome, unwrap_or}
use Rattle.test_pointers_and_stacks.proofs.tests.pointers.calls.drain.Given as goal

abbrev pub invariant-loop-item : goal.invariant-loop-item
invariant-loop-item g l = IsSome (g.A.Advancer.remaining l.advancer l.collection)

abbrev pub decreases-loop-item : goal.decreases-loop-item
decreases-loop-item g l = length (unwrap_or (g.A.Advancer.remaining l.advancer l.collection) [])

use Rattle.std.specs.Prelude.{◌≡◌, ◌+◌, length}
use Rattle.promise_by_value.proofs.ordered.count.Given as goal

abbrev pub invariant-loop-entry : goal.invariant-loop-entry
invariant-loop-entry g l =
    l.count + length l._entry-iterator ≡ l.len

use Rattle.std.specs.Prelude.{◌≡◌, ◌++◌, map}
use Rattle.triple_arena_ord.specs.Ordered.{ordered_entries}
use Rattle.promise_by_value.proofs.ordered.listed.Given as goal

abbrev pub invariant-loop-entry : goal.invariant-loop-entry
invariant-loop-entry g l =
    map (λ e. (g.P.PtrCore.index e.0, (g.P.PtrCore.generation e.0, e.1)))
    l.entries.items ++ l.entry-iterator ≡ ordered_entries l.fn.arena

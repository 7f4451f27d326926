use Rattle.std.specs.Prelude.{◌≡◌, ◌++◌, map}
use Rattle.triple_arena_chain.specs.Listed.{listed_values}
use Rattle.promise_by_value.proofs.chains.listed.Given as goal

abbrev pub invariant-loop-entry : goal.invariant-loop-entry
invariant-loop-entry g l =
    map (λ e. (g.P.PtrCore.index e.0, (g.P.PtrCore.generation e.0, e.1)))
    l.entries.items ++ l.entry-iterator ≡ listed_values l.fn.chains

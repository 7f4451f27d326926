use Rattle.std.specs.Prelude.{ℕ, ◌<◌, All, Contains}
use Rattle.triple_arena.specs.Compression.{value_of}
use Rattle.triple_arena_chain.specs.Listed.{listed_values}
use Rattle.promise_by_value.proofs.chains.find.Given as goal

abbrev pub invariant-loop-p : goal.invariant-loop-p
invariant-loop-p g l =
    (All (λ e. value_of e < l.least) l.p-iterator
    → All (λ e. value_of e < l.least) (listed_values l.fn.chains))
    × ((e : ℕ × (ℕ × ℕ)) → Contains l.p-iterator e → Contains (listed_values l.fn.chains) e)

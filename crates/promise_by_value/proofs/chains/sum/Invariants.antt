use Rattle.std.specs.Prelude.{◌≡◌, ◌+◌, ◌%◌, ◌^◌, map}
use Rattle.std.specs.List.{sum}
use Rattle.triple_arena.specs.Compression.{value_of}
use Rattle.triple_arena_chain.specs.Listed.{listed_values}
use Rattle.promise_by_value.proofs.chains.sum.Given as goal

abbrev pub invariant-loop-value : goal.invariant-loop-value
invariant-loop-value g l =
    (l.total + sum (map value_of l.value-iterator)) % 2 ^ 64
    ≡ sum (map value_of (listed_values l.fn.chains)) % 2 ^ 64

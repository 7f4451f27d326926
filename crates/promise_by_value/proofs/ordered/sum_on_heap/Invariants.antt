use Rattle.std.specs.Prelude.{◌≡◌, ◌+◌, ◌%◌, ◌^◌, map}
use Rattle.std.specs.List.{sum}
use Rattle.triple_arena.specs.Compression.{value_of}
use Rattle.triple_arena_ord.specs.Ordered.{ordered_entries}
use Rattle.promise_by_value.proofs.ordered.sum_on_heap.Given as goal

abbrev pub invariant-loop-value : goal.invariant-loop-value
invariant-loop-value l =
    (l.total + sum (map value_of l.value-iterator)) % 2 ^ 64
    ≡ sum (map value_of (ordered_entries l.fn.arena)) % 2 ^ 64

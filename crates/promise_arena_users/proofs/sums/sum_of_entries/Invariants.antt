use Rattle.std.specs.Prelude.{◌≡◌, ◌+◌, ◌%◌, ◌^◌, map}
use Rattle.std.specs.List.{sum}
use Rattle.triple_arena.specs.Compression.{value_of}
use Rattle.triple_arena.specs.LiveEntries.{live_entries}
use Rattle.promise_arena_users.proofs.sums.sum_of_entries.Given as goal

-- what is added and what is left make up the sum
abbrev pub invariant-loop-value : goal.invariant-loop-value
invariant-loop-value g l =
    (l.total + sum (map value_of l.value-iterator)) % 2 ^ 64
    ≡ sum (map value_of (live_entries l.arena)) % 2 ^ 64

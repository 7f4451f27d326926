use Rattle.std.specs.Prelude.{◌≡◌, ◌+◌, ◌%◌, ◌^◌, map}
use Rattle.std.specs.List.{sum}
use Rattle.triple_arena.specs.Compression.{value_of}
use Rattle.triple_arena_chain.specs.Listed.{listed_value, listed_values}
use Rattle.promise_by_value.proofs.made.sum_links.Given as goal

abbrev pub invariant-loop-link : goal.invariant-loop-link
invariant-loop-link g l =
    (l.total + sum (map value_of (map listed_value l.link-iterator))) % 2 ^ 64
    ≡ sum (map value_of (listed_values l.fn.links)) % 2 ^ 64

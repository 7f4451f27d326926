use Rattle.std.specs.Prelude.{ℕ, ◌<◌, All, Contains}
use Rattle.triple_arena.specs.Compression.{value_of}
use Rattle.triple_arena_ord.specs.Ordered.{ordered_entries}
use Rattle.promise_by_value.proofs.ordered.find.Given as goal

abbrev pub invariant-loop-p : goal.invariant-loop-p
invariant-loop-p g l =
    (All (λ e. value_of e < l.least) l.p-iterator
    → All (λ e. value_of e < l.least) (ordered_entries l.fn.arena))
    × ((e : ℕ × (ℕ × ℕ)) → Contains l.p-iterator e
    → Contains (ordered_entries l.fn.arena) e)

use Rattle.std.proofs.Common.{◌≡◌, length}
use Rattle.std.specs.Cmp.Lexicographic.{pointwise}
use Rattle.triple_arena_ord.specs.Canonical.{by_item}
use Rattle.triple_arena_ord.proofs.ord_arena.canonical.same.Given as goal

abbrev pub invariant-pairs : goal.invariant-pairs
invariant-pairs g l =
    pointwise (by_item g.T.PartialEq.eq) l.left l.right
    ≡ pointwise (by_item g.T.PartialEq.eq) l.initial.left l.initial.right

abbrev pub decreases-pairs : goal.decreases-pairs
decreases-pairs g l = length l.left

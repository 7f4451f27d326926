use Rattle.std.proofs.Common.{◌≡◌, length}
use Rattle.std.specs.Cmp.Lexicographic.{slice_partial_cmp}
use Rattle.triple_arena_ord.specs.Canonical.{by_item}
use Rattle.triple_arena_ord.proofs.ord_arena.canonical.partial_order.Given as goal

abbrev pub invariant-pairs : goal.invariant-pairs
invariant-pairs g l =
    slice_partial_cmp (by_item g.T.PartialOrd.partial_cmp) l.left l.right
    ≡ slice_partial_cmp (by_item g.T.PartialOrd.partial_cmp) l.initial.left l.initial.right

abbrev pub decreases-pairs : goal.decreases-pairs
decreases-pairs g l = length l.left

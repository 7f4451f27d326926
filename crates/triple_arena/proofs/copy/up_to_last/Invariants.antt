use Rattle.std.proofs.Common.{◌≡◌, ◌≤◌, length, map}
use Rattle.triple_arena.specs.LiveEntries.{listed_from}
use Rattle.triple_arena.proofs.copy.up_to_last.Given as goal

-- what is cut off held no entry
abbrev pub invariant-loop-last : goal.invariant-loop-last
invariant-loop-last g l =
    (listed_from 1 (map g.E.LentEntry.shown l.left)
    ≡ listed_from 1 (map g.E.LentEntry.shown l.fn.slots))
    × (length l.left ≤ length l.fn.slots)

abbrev pub decreases-loop-last : goal.decreases-loop-last
decreases-loop-last g l = length l.left

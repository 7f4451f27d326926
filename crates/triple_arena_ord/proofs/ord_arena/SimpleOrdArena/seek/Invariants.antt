use Rattle.std.proofs.Common.{◌≡◌, ℕ, ◌+◌}
use Rattle.rank_tree.specs.Store.{rank_or_link}
use Rattle.triple_arena_ord.specs.Node.{nodes_in}
use Rattle.triple_arena_ord.specs.Ordered.{tree_in, asked_at}
use Rattle.triple_arena_ord.specs.Found.{place_by}
use Rattle.rank_tree.specs.DescentLaws.{Descent}
use Rattle.triple_arena_ord.proofs.ord_arena.SimpleOrdArena.seek.Given as goal

abbrev pub invariant-down : goal.invariant-down
invariant-down g l =
    (asked : ℕ) × ((l.count ≡ l.initial.count + asked)
    × Descent (nodes_in l.self.chains)
    (asked_at g.T.Key.Ord.cmp g.T.SimpleOrdItem.key_of l.k l.self)
    (tree_in l.self) l.link
    (place_by g.P.Inx.PtrInxCore.number l.place) asked)

abbrev pub decreases-down : goal.decreases-down
decreases-down g l = rank_or_link (nodes_in l.self.chains)
    l.link

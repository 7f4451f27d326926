use Rattle.std.specs.Option.{option_map}
use Rattle.rank_tree.specs.Store.{rank_or_link}
use Rattle.rank_tree.specs.Whole.{tree_of}
use Rattle.triple_arena_ord.specs.Node.{nodes_among}
use Rattle.triple_arena_ord.proofs.AskedLemmas.{Asking}
use Rattle.triple_arena_ord.proofs.asks.ask_down.Given as goal

abbrev pub invariant-down : goal.invariant-down
invariant-down g l =
    goal.F-IsAlwaysCallable g l.f
    × Asking g.P.PtrCore.index g.P.PtrCore.generation (goal.F-step g)
    (g.A.ArenaTrait.entry_at l.arena)
    (tree_of (nodes_among (g.A.ArenaTrait.entry_at l.arena))
    (option_map g.P.Inx.PtrInxCore.number l.fn.root))
    l.fn.f l.link l.place l.f l.fn.probes l.probes

abbrev pub decreases-down : goal.decreases-down
decreases-down g l = rank_or_link
    (nodes_among (g.A.ArenaTrait.entry_at l.arena))
    l.link

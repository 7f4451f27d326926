use Rattle.std.proofs.Common.{◌≡◌, ℕ, List, ◌-◌}
use Rattle.rank_tree.specs.Store.{rank_in}
use Rattle.std.specs.Option.{option_map}
use Rattle.rank_tree.specs.Repair.{Grown, KeptOff}
use Rattle.rank_tree.proofs.insertion_repair.repair_inserted.Given as goal

abbrev pub invariant-climb : goal.invariant-climb
invariant-climb g l =
    ((w : List ℕ) → Grown (g.K.NodeStore.nodes l.initial.nodes)
    (option_map g.P.Inx.PtrInxCore.number l.initial.root)
    (g.P.Inx.PtrInxCore.number l.initial.low) w → Grown
    (g.K.NodeStore.nodes l.nodes) (option_map g.P.Inx.PtrInxCore.number l.root)
    (g.P.Inx.PtrInxCore.number l.low) w)
    × (g.K.NodeStore.rest l.nodes ≡ g.K.NodeStore.rest l.initial.nodes)
    × ((w : List ℕ) → Grown (g.K.NodeStore.nodes l.initial.nodes)
    (option_map g.P.Inx.PtrInxCore.number l.initial.root)
    (g.P.Inx.PtrInxCore.number l.initial.low) w
    → KeptOff w (g.K.NodeStore.nodes l.initial.nodes) (g.K.NodeStore.nodes l.nodes))

abbrev pub decreases-climb : goal.decreases-climb
decreases-climb g l = 255 - rank_in (g.K.NodeStore.nodes l.nodes) (g.P.Inx.PtrInxCore.number l.low)

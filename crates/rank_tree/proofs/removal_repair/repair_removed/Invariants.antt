use Rattle.std.proofs.Common.{◌≡◌, ℕ, List}
use Rattle.std.specs.Option.{option_map}
use Rattle.rank_tree.specs.Store.{ahead}
use Rattle.rank_tree.specs.Repair.{Pending, KeptOff}
use Rattle.rank_tree.proofs.removal_repair.repair_removed.Given as goal

abbrev pub invariant-climb : goal.invariant-climb
invariant-climb g l =
    ((w : List ℕ)
    → Pending (g.K.NodeStore.nodes l.initial.nodes)
    (option_map g.P.Inx.PtrInxCore.number l.initial.root)
    (option_map g.P.Inx.PtrInxCore.number l.initial.at)
    (option_map g.P.Inx.PtrInxCore.number l.initial.near) w
    → Pending (g.K.NodeStore.nodes l.nodes) (option_map g.P.Inx.PtrInxCore.number l.root)
    (option_map g.P.Inx.PtrInxCore.number l.at) (option_map g.P.Inx.PtrInxCore.number l.near) w)
    × (g.K.NodeStore.rest l.nodes ≡ g.K.NodeStore.rest l.initial.nodes)
    × ((w : List ℕ)
    → Pending (g.K.NodeStore.nodes l.initial.nodes)
    (option_map g.P.Inx.PtrInxCore.number l.initial.root)
    (option_map g.P.Inx.PtrInxCore.number l.initial.at)
    (option_map g.P.Inx.PtrInxCore.number l.initial.near) w
    → KeptOff w (g.K.NodeStore.nodes l.initial.nodes) (g.K.NodeStore.nodes l.nodes))

abbrev pub decreases-climb : goal.decreases-climb
decreases-climb g l =
    ahead (g.K.NodeStore.nodes l.nodes) (option_map g.P.Inx.PtrInxCore.number l.at)

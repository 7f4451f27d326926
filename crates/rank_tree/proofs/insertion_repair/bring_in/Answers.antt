use Rattle.std.proofs.Common.{refl, arith}
use Rattle.std.specs.Option.{option_map}
use Rattle.rank_tree.specs.Tree.{walk}
use Rattle.rank_tree.specs.Repair.{Grown, FreeSide, filled}
use Rattle.rank_tree.specs.FrameLaws.{both_kept}
use Rattle.rank_tree.specs.ClimbLaws.{Climbing, grown_under, parent_lives, climb_ranks, climb_write}
use Rattle.rank_tree.specs.ClimbLaws.{climb_ends, climb_up, climb_kept}
use Rattle.rank_tree.proofs.insertion_repair.bring_in.Goals.{After-attach, After-set_rank}
use Rattle.rank_tree.proofs.insertion_repair.bring_in.Goals as goal

-- the new leaf below its holder
climbing : (g : _) (c : After-attach g)
    (free : FreeSide (g.K.NodeStore.nodes c.args.nodes.now) (option_map g.P.Inx.PtrInxCore.number
    c.args.root.now)
    (g.P.Inx.PtrInxCore.number c.args.holder) c.args.side (g.P.Inx.PtrInxCore.number c.args.new))
    → Climbing (g.K.NodeStore.nodes c.attach.new.nodes)
    (option_map g.P.Inx.PtrInxCore.number c.args.root.now)
    (g.P.Inx.PtrInxCore.number c.args.new) (walk (filled free))
    (g.P.Inx.PtrInxCore.number c.args.holder)
climbing g c free = grown_under _ _ _ _ _ _ c.attach.ensures.slot refl (c.attach.ensures.does free)

-- the holder was a leaf, and rises
risen : (g : _) (c : After-set_rank g)
    (free : FreeSide (g.K.NodeStore.nodes c.args.nodes.now) (option_map g.P.Inx.PtrInxCore.number
    c.args.root.now)
    (g.P.Inx.PtrInxCore.number c.args.holder) c.args.side (g.P.Inx.PtrInxCore.number c.args.new))
    → Grown (g.K.NodeStore.nodes c.set_rank.new.self) (option_map g.P.Inx.PtrInxCore.number
    c.args.root.now)
    (g.P.Inx.PtrInxCore.number c.args.holder) (walk (filled free))
risen g c free =
    let h = climbing g (goal.at.After-set_rank g c).After-attach free in
    let e = climb_ranks _ _ _ _ _ _ c.attach.ensures.slot c.read-above.ensures _ h in
    climb_up _ _ _ _ _ _ h (omega arith) (omega arith)
    (climb_write _ _ _ _ _ _ c.read-above.ensures (c.set_rank.ensures.does _ c.read-above.ensures)
    _ h)

pub read-above-requires-clause-live : goal.read-above-requires-clause-live
read-above-requires-clause-live g c =
    parent_lives _ _ _ _ _ (climbing g (goal.at.read-above-requires-clause-live g c).After-attach
    c.requires.free)

pub repair_inserted-requires-clause-grown : goal.repair_inserted-requires-clause-grown
repair_inserted-requires-clause-grown g c = (
  walk (filled c.requires.free),
  risen g (goal.at.repair_inserted-requires-clause-grown g c).After-set_rank c.requires.free,
)

pub returns-then-above-eq1-clause-does : goal.returns-then-above-eq1-clause-does
returns-then-above-eq1-clause-does g c = λ free.
    let at = goal.at.returns-then-above-eq1-clause-does g c in
    let repaired = c.repair_inserted.ensures.does _ (risen g at.After-set_rank free) in (
      repaired.0,
      both_kept _ _ _ _ (c.attach.ensures.elsewhere free)
          (both_kept _ _ _ _
          (climb_kept _ _ _ _ _ _ _ (climbing g at.After-attach free)
          (c.set_rank.ensures.does _ c.read-above.ensures)) repaired.1),
    )

pub returns-else-above-eq1-clause-does : goal.returns-else-above-eq1-clause-does
returns-else-above-eq1-clause-does g c = λ free.
    let h = climbing g (goal.at.returns-else-above-eq1-clause-does g c).After-attach free in
    let e = climb_ranks _ _ _ _ _ _ c.attach.ensures.slot c.read-above.ensures _ h in
    let f = h.high_fits in let one_more = h.one_more in
    (climb_ends _ _ _ _ _ h (omega arith), c.attach.ensures.elsewhere free)

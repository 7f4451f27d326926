use Rattle.std.specs.Option.{IsSome, option_map}
use Rattle.rank_tree.specs.SpotLaws.{reparent-lives}
use Rattle.rank_tree.proofs.NameLemmas.{if_live, if_named}
use Rattle.rank_tree.specs.EdgeLaws.{loose_lives, loose_reads, detach_works}
use Rattle.rank_tree.specs.Repair.{Loose, Pending, KeptOff, walk_without}
use Rattle.rank_tree.proofs.edges.detach.Goals.{After-relink}
use Rattle.rank_tree.proofs.edges.detach.Goals as goal

-- the two changes, one after another
works : (g : _) (c : After-relink g)
    (h : Loose (g.K.NodeStore.nodes c.args.nodes.now)
    (option_map g.P.Inx.PtrInxCore.number c.args.root.now)
    (g.P.Inx.PtrInxCore.number c.args.gone))
    → Pending (g.K.NodeStore.nodes c.relink.new.nodes)
    (option_map g.P.Inx.PtrInxCore.number c.relink.new.root)
    (option_map g.P.Inx.PtrInxCore.number c.read-links.result.parent)
    (option_map g.P.Inx.PtrInxCore.number c.first_child-child.result) (walk_without h)
    × KeptOff (walk_without h) (g.K.NodeStore.nodes c.args.nodes.now)
    (g.K.NodeStore.nodes c.relink.new.nodes)
works g c h =
    let r = loose_reads _ _ _ _ _ c.read-links.ensures c.first_child-child.ensures.left
    c.first_child-child.ensures.right h in
    detach_works _ _ _ _ _ _ _ _ c.reparent.ensures.does c.relink.ensures.does h r

pub read-links-requires-clause-live : goal.read-links-requires-clause-live
read-links-requires-clause-live g c = loose_lives _ _ _ c.requires

pub reparent-requires-clause-live : goal.reparent-requires-clause-live
reparent-requires-clause-live g c =
    if_named g.P.Inx.PtrInxCore.number (λ i. IsSome (g.K.NodeStore.nodes c.args.nodes.now i))
    c.first_child-child.result
    ((loose_reads _ _ _ _ _ c.read-links.ensures c.first_child-child.ensures.left
    c.first_child-child.ensures.right c.requires).sub_lives)

pub relink-requires-clause-live : goal.relink-requires-clause-live
relink-requires-clause-live g c =
    let r = loose_reads _ _ _ _ _ c.read-links.ensures c.first_child-child.ensures.left
    c.first_child-child.ensures.right c.requires in
    if_live g.P.Inx.PtrInxCore.number (g.K.NodeStore.nodes c.reparent.new.nodes)
    c.read-links.result.parent
    (λ i e. reparent-lives _ _ _ _ c.reparent.ensures.does i (r.holder_lives i e))

pub returns-clause-does : goal.returns-clause-does
returns-clause-does g c = λ h. (works g (goal.at.returns-clause-does g c).After-relink h).0

pub returns-clause-elsewhere : goal.returns-clause-elsewhere
returns-clause-elsewhere g c =
    λ h. (works g (goal.at.returns-clause-elsewhere g c).After-relink h).1

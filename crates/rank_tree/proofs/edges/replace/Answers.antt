use Rattle.std.specs.Option.{option_map}
use Rattle.rank_tree.specs.SpotLaws.{write-lives, reparent-lives}
use Rattle.rank_tree.proofs.NameLemmas.{if_live}
use Rattle.rank_tree.proofs.ChangeLemmas.{replacement_lives, replacement_links, replacement_works}
use Rattle.rank_tree.specs.Repair.{Replacement, Becomes, substituted}
use Rattle.rank_tree.proofs.edges.replace.Goals.{After-relink}
use Rattle.rank_tree.proofs.edges.replace.Goals as goal

-- the four changes, one after another
works : (g : _) (c : After-relink g)
    (h : Replacement (g.K.NodeStore.nodes c.args.nodes.now)
    (option_map g.P.Inx.PtrInxCore.number c.args.root.now)
    (g.P.Inx.PtrInxCore.number c.args.old)
    (g.P.Inx.PtrInxCore.number c.args.new))
    → Becomes g.P.Inx.PtrInxCore.number (substituted h) (g.K.NodeStore.nodes c.args.nodes.now)
    (g.K.NodeStore.nodes c.relink.new.nodes) c.relink.new.root
works g c h =
    replacement_works _ _ _ _ _ _ _ _ _ _ c.read-links.ensures c.write.ensures.written
    c.reparent.ensures.does c.reparent-2.ensures.does c.relink.ensures.does h

pub read-links-requires-clause-live : goal.read-links-requires-clause-live
read-links-requires-clause-live g c = replacement_lives _ _ _ _ c.requires.place

pub reparent-requires-clause-live : goal.reparent-requires-clause-live
reparent-requires-clause-live g c =
    let links = replacement_links _ _ _ _ c.requires.place _ c.read-links.ensures in
    if_live g.P.Inx.PtrInxCore.number (g.K.NodeStore.nodes c.write.new.self)
    c.read-links.result.left
    (λ i e. write-lives _ _ _ _ c.write.ensures.written i (links.left i e))

pub reparent-requires-2-clause-live : goal.reparent-requires-2-clause-live
reparent-requires-2-clause-live g c =
    let links = replacement_links _ _ _ _ c.requires.place _ c.read-links.ensures in
    if_live g.P.Inx.PtrInxCore.number (g.K.NodeStore.nodes c.reparent.new.nodes)
    c.read-links.result.right
    (λ i e. reparent-lives _ _ _ _ c.reparent.ensures.does i
    (write-lives _ _ _ _ c.write.ensures.written i (links.right i e)))

pub relink-requires-clause-live : goal.relink-requires-clause-live
relink-requires-clause-live g c =
    let links = replacement_links _ _ _ _ c.requires.place _ c.read-links.ensures in
    if_live g.P.Inx.PtrInxCore.number (g.K.NodeStore.nodes c.reparent-2.new.nodes)
    c.read-links.result.parent
    (λ i e. reparent-lives _ _ _ _ c.reparent-2.ensures.does i
    (reparent-lives _ _ _ _ c.reparent.ensures.does i
    (write-lives _ _ _ _ c.write.ensures.written i (links.parent i e))))

pub returns-clause-does : goal.returns-clause-does
returns-clause-does g c = works g (goal.at.returns-clause-does g c).After-relink

use Rattle.std.proofs.Common.{ap}
use Rattle.std.specs.Option.{option_map}
use Rattle.rank_tree.specs.Named.{named}
use Rattle.rank_tree.proofs.LinkLemmas.{relinked}
use Rattle.rank_tree.proofs.node_store.relink.Goals as goal

pub returns-in-Some-clause-does : goal.returns-in-Some-clause-does
returns-in-Some-clause-does g c =
    let number = g.P.Inx.PtrInxCore.number in
    relinked (g.K.NodeStore.nodes c.args.nodes.now) (g.K.NodeStore.nodes c.set_child.new.self)
    (option_map number c.args.root.now) (option_map number c.args.holder)
    (number c.in-Some.i) (number c.args.from) (option_map number c.args.to)
    (named number c.read.result) c.side_of-side.result
    (ap (option_map number) c.in-Some.is) c.read.ensures c.side_of-side.ensures.left
    c.side_of-side.ensures.right c.set_child.ensures.does

use Rattle.std.specs.Option.{option_map}
use Rattle.triple_arena_ord.proofs.LeafLemmas.{cut_found, cut_gap}
use Rattle.triple_arena_ord.proofs.leaf.gap_beside.Goals as goal
use Rattle.triple_arena_ord.specs.Ordered.{ordered_by}

pub returns-clause-gap : goal.returns-clause-gap
returns-clause-gap g c =
    let number = g.P.Inx.PtrInxCore.number in
    cut_gap (ordered_by number c.args.chains.now c.args.root)
    c.requires.ordered (number c.args.holder) c.args.side
    (option_map number c.neighbors_beside.result.0) (option_map number c.neighbors_beside.result.1)
    (cut_found _ c.requires.ordered _ _ _ _ c.requires.lives c.requires.free
    c.neighbors_beside.ensures.prev c.neighbors_beside.ensures.next)

use Rattle.std.proofs.Common.{refl}
use Rattle.triple_arena_ord.proofs.KeptTreeLemmas.{recast_kept}
use Rattle.triple_arena_ord.proofs.laws.recasts_keep_the_list.Goals as goal

pub returns-clause-ordered : goal.returns-clause-ordered
returns-clause-ordered g c =
    λ f o is. (recast_kept g.T.Recast.items f (g.T.Recast.recasted f) o _
    refl is).ordered

pub returns-clause-tree : goal.returns-clause-tree
returns-clause-tree g c =
    λ f o is. (recast_kept g.T.Recast.items f (g.T.Recast.recasted f) o _
    refl is).tree

use Rattle.std.proofs.Common.{refl}
use Rattle.triple_arena_ord.proofs.KeptTreeLemmas.{limit_kept}
use Rattle.triple_arena_ord.proofs.laws.limits_keep_the_list.Goals as goal

pub returns-clause-ordered : goal.returns-clause-ordered
returns-clause-ordered g c =
    λ o max is. (limit_kept g.P.Inx.PtrInxCore.greatest o max _ refl
    is).ordered

pub returns-clause-tree : goal.returns-clause-tree
returns-clause-tree g c =
    λ o max is. (limit_kept g.P.Inx.PtrInxCore.greatest o max _ refl
    is).tree

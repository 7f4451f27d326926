use Rattle.std.proofs.Common.{◌≡◌, ◌+◌, ◌*◌, ◌^◌, ◌<◌, ◌≤◌, sym, ◌∙◌, subst}
use Rattle.triple_arena_ord.specs.Ordered.{tree_in, size_in}
use Rattle.rank_tree.specs.Tree.{size, rank_of}
use Rattle.rank_tree.specs.BoundLaws.{size_bound, height-le-rank}
use Rattle.rank_tree.specs.ClimbLaws.{size-walk}
use Rattle.triple_arena_ord.proofs.laws.paths_are_short.Goals as goal

pub returns-clause-high : goal.returns-clause-high
returns-clause-high g c =
    λ o is. height-le-rank (tree_in o) is.whole.ranked

pub returns-clause-low : goal.returns-clause-low
returns-clause-low g c = λ o is some.
    let t = tree_in o in
    let size_is : size t ≡ size_in o = size-walk t ∙ is.counted in
    subst (λ n. 2 ^ (rank_of t + 1) ≤ (n + 1) * (n + 1)) size_is
    (size_bound t is.whole.ranked (subst (λ n. 0 < n) (sym size_is) some))

use Rattle.std.proofs.Common.{◌+◌, ◌*◌}
use Rattle.rank_tree.specs.ComparisonLaws.{within_bound, most_comparisons-greatest}
use Rattle.rank_tree.proofs.laws.the_bound_is_the_greatest.Goals as goal

pub returns-clause-bound : goal.returns-clause-bound
returns-clause-bound c n some = within_bound n ((n + 1) * (n + 1)) some

pub returns-clause-greatest : goal.returns-clause-greatest
returns-clause-greatest c = most_comparisons-greatest

use Rattle.rank_tree.specs.BoundLaws.{height-le-rank, size_bound}
use Rattle.rank_tree.proofs.laws.paths_are_short.Goals as goal

pub returns-clause-high : goal.returns-clause-high
returns-clause-high c = height-le-rank

pub returns-clause-low : goal.returns-clause-low
returns-clause-low c = size_bound

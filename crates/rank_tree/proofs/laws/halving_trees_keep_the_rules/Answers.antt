use Rattle.rank_tree.specs.HalvingLaws.{halving_ranked, halving_unique}
use Rattle.rank_tree.proofs.laws.halving_trees_keep_the_rules.Goals as goal

pub returns-clause-ranked : goal.returns-clause-ranked
returns-clause-ranked c = halving_ranked

pub returns-clause-one : goal.returns-clause-one
returns-clause-one c = halving_unique

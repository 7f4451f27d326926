use Rattle.rank_tree.specs.UniqueLaws.{whole_unique}
use Rattle.rank_tree.proofs.laws.nodes_determine_the_tree.Goals as goal

pub returns : goal.returns
returns c = whole_unique

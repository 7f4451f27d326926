use Rattle.linked_lists.specs.ChainLaws.{shares, linear_same}
use Rattle.triple_arena_chain.proofs.laws.chains_that_share_are_one.Goals as goal

pub returns-clause-members : goal.returns-clause-members
returns-clause-members c = shares

pub returns-clause-linear : goal.returns-clause-linear
returns-clause-linear c = linear_same

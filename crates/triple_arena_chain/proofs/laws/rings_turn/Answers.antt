use Rattle.linked_lists.specs.ChainLaws.{turned}
use Rattle.triple_arena_chain.proofs.laws.rings_turn.Goals as goal

pub returns : goal.returns
returns c = turned

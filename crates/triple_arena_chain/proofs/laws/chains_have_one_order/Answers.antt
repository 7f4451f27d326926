use Rattle.triple_arena_chain.specs.CanonicalTransferLaws.{in_order_once}
use Rattle.triple_arena_chain.proofs.laws.chains_have_one_order.Goals as goal

pub returns : goal.returns
returns c = in_order_once

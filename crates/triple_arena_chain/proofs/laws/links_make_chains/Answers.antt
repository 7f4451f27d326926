use Rattle.triple_arena_chain.proofs.LawLemmas.{in_chains}
use Rattle.triple_arena_chain.proofs.laws.links_make_chains.Goals as goal

pub returns : goal.returns
returns g c content chained = in_chains content chained

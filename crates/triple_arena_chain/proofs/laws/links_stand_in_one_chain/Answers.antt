use Rattle.triple_arena_chain.proofs.LawLemmas.{in_one_chain}
use Rattle.triple_arena_chain.proofs.laws.links_stand_in_one_chain.Goals as goal

pub returns : goal.returns
returns g c content i chained live = in_one_chain content i chained live

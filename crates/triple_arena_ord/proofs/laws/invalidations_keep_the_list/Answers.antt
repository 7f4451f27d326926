use Rattle.triple_arena_ord.proofs.StateLemmas.{order-invalidated}
use Rattle.triple_arena_ord.proofs.laws.invalidations_keep_the_list.Goals as goal

pub returns : goal.returns
returns g c = λ last o i. order-invalidated last o i

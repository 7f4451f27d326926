use Rattle.triple_arena_ord.proofs.LawLemmas.{stands}
use Rattle.triple_arena_ord.proofs.laws.entries_stand_in_the_list.Goals as goal

pub returns : goal.returns
returns g c = λ o i ordered live. stands o ordered i live

use Rattle.triple_arena_ord.proofs.OrderedDrainLemmas.{all_listed}
use Rattle.triple_arena_ord.proofs.laws.the_list_has_as_many_entries_as_are_live.Goals as goal

pub returns : goal.returns
returns g c = λ o ordered. all_listed o ordered

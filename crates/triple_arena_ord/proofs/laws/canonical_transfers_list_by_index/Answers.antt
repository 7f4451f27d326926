use Rattle.triple_arena_ord.proofs.CompactListLemmas.{compact_list}
use Rattle.triple_arena_ord.proofs.laws.canonical_transfers_list_by_index.Goals as goal

pub returns : goal.returns
returns g c = λ n generation own old new filled order. compact_list n
    generation own old new filled order

use Rattle.triple_arena_ord.proofs.StateLemmas.{written, written_ordered}
use Rattle.triple_arena_ord.proofs.laws.writes_keep_the_list.Goals as goal

pub returns-clause-replaced : goal.returns-clause-replaced
returns-clause-replaced g c =
    λ o i stamp t u is at. (written o i stamp t u is at).replaced

pub returns-clause-ordered : goal.returns-clause-ordered
returns-clause-ordered g c =
    λ o i t is live. written_ordered o i t is live

use Rattle.triple_arena_ord.proofs.AscendingLemmas.{keyed_ascending, replaced_ascending}
use Rattle.triple_arena_ord.proofs.laws.keys_that_stay_ascend.Goals as goal

pub returns-clause-same : goal.returns-clause-same
returns-clause-same g c = λ old new order keys ascending.
    keyed_ascending g.T.Key.Ord.cmp g.T.SimpleOrdItem.key_of g.met.T.Key.Ord.total
    old new order keys ascending

pub returns-clause-replaced : goal.returns-clause-replaced
returns-clause-replaced g c = λ i stamp t u old new replaced equal ascending.
    replaced_ascending g.T.Key.Ord.cmp g.T.SimpleOrdItem.key_of g.met.T.Key.Ord.total
    old new i stamp t u equal replaced ascending

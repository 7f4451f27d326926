use Rattle.triple_arena_ord.proofs.AscendingLemmas.{added_ascending}
use Rattle.triple_arena_ord.proofs.PlacedLemmas.{placed_ascending, placed_before_ascending}
use Rattle.triple_arena_ord.proofs.laws.insertions_keep_keys_ascending.Goals as goal

pub returns-clause-by_key : goal.returns-clause-by_key
returns-clause-by_key g c = λ place t result old new growth is at put ascending.
    placed_ascending g.T.Key.Ord.cmp g.T.SimpleOrdItem.key_of
    g.met.T.Key.Ord.total old new g.P.PtrCore.index g.P.PtrCore.generation _ t place result is
    put.ordered at put.inserted ascending

pub returns-clause-before_equal : goal.returns-clause-before_equal
returns-clause-before_equal g c = λ place t result old new growth is at put ascending.
    placed_before_ascending g.T.Key.Ord.cmp g.T.SimpleOrdItem.key_of
    g.met.T.Key.Ord.total old new g.P.PtrCore.index g.P.PtrCore.generation _ t place result is
    put.ordered at put.inserted ascending

pub returns-clause-between : goal.returns-clause-between
returns-clause-between g c = λ i n t old new ordered added between ascending.
    added_ascending g.T.Key.Ord.cmp g.T.SimpleOrdItem.key_of g.met.T.Key.Ord.total
    old new i n t ordered between added ascending

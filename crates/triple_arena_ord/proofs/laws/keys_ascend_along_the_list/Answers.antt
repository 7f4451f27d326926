use Rattle.triple_arena_ord.proofs.LawLemmas.{not_greater_before, not_less_after}
use Rattle.triple_arena_ord.proofs.laws.keys_ascend_along_the_list.Goals as goal

pub returns-clause-before : goal.returns-clause-before
returns-clause-before g c = λ o front back i entry ordered ascending is at.
    not_greater_before g.T.Key.Ord.cmp g.T.SimpleOrdItem.key_of
    g.met.T.Key.Ord.total o ordered ascending front back i entry is at

pub returns-clause-after : goal.returns-clause-after
returns-clause-after g c = λ o front back i entry ordered ascending is at.
    not_less_after g.T.Key.Ord.cmp g.T.SimpleOrdItem.key_of
    g.met.T.Key.Ord.total o ordered ascending front back i entry is at

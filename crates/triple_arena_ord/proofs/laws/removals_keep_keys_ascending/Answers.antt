use Rattle.triple_arena_ord.proofs.AscendingLemmas.{removed_ascending}
use Rattle.triple_arena_ord.proofs.laws.removals_keep_keys_ascending.Goals as goal

pub returns : goal.returns
returns g c = λ last i old new removed ascending.
    removed_ascending g.T.Key.Ord.cmp g.T.SimpleOrdItem.key_of g.met.T.Key.Ord.total
    last i old new removed ascending

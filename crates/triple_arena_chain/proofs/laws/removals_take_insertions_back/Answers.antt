use Rattle.triple_arena_chain.proofs.RestoredLemmas.{restored_after, restored_before}
use Rattle.triple_arena_chain.proofs.laws.removals_take_insertions_back.Goals as goal

pub returns-clause-after : goal.returns-clause-after
returns-clause-after g c before between after p i n t chained formed placed taken =
    restored_after g.P.PtrCore.index g.P.PtrCore.generation g.P.Inx.PtrInxCore.number before between
    after p i n t g.P.Gen.PtrGenCore.last chained formed placed.0 placed.1 taken

pub returns-clause-before : goal.returns-clause-before
returns-clause-before g c before between after p i n t chained formed placed taken =
    restored_before g.P.PtrCore.index g.P.PtrCore.generation g.P.Inx.PtrInxCore.number before
    between after p i n t g.P.Gen.PtrGenCore.last chained formed placed.0 placed.1 taken

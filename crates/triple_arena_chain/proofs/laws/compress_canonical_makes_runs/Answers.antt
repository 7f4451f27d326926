use Rattle.triple_arena_chain.proofs.RunLawLemmas.{canonical_run}
use Rattle.triple_arena_chain.proofs.laws.compress_canonical_makes_runs.Goals as goal

pub returns : goal.returns
returns g c = λ before after reset list canonical linear. canonical_run
    g.P.Gen.PtrGenCore.last reset before after list canonical linear

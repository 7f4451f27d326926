use Rattle.triple_arena_chain.proofs.CanonicalLayoutLemmas.{canonical_twice}
use Rattle.triple_arena_chain.proofs.laws.compress_canonical_stays.Goals as goal

pub returns : goal.returns
returns g c = λ before between after reset again first second i some.
    canonical_twice g.P.Gen.PtrGenCore.last reset again before between
    after first second i some

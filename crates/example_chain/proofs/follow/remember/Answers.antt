use Rattle.std.proofs.Common.{rules}
use Rattle.example_chain.proofs.FollowLemmas.{kept_by, values_kept}
use Rattle.example_chain.proofs.follow.remember.Goals as goal

pub returns-clause-kept : goal.returns-clause-kept
returns-clause-kept g c =
    kept_by g.P.PtrCore.index g.P.PtrCore.generation (λ m. m.was) (λ m. m.value)
    c.compress_with.ensures.mapped (λ h from t to u k s. search rules)

pub returns-clause-values : goal.returns-clause-values
returns-clause-values g c =
    values_kept g.P.PtrCore.index g.P.PtrCore.generation (λ m. m.was) (λ m. m.value) _ _
    (returns-clause-kept g c)

use Rattle.std.proofs.Common.{subst, rules}
use Rattle.triple_arena.proofs.CompressionLemmas.{values_kept}
use Rattle.triple_arena.proofs.arena_trait.ArenaTrait.compress.Goals as goal

pub returns-clause-values : goal.returns-clause-values
returns-clause-values g c =
    values_kept _ _ _ (λ h k from to t u s. search rules) c.compress_with.ensures.mapped

pub returns-clause-exact : goal.returns-clause-exact
returns-clause-exact g c =
    subst (λ values. g.Self.ArenaTrait.is_compressed c.args.self.now c.args.reset values
    c.compress_with.new.self) (returns-clause-values g c)
    c.compress_with.ensures.exact

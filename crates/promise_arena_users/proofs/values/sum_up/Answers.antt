use Rattle.std.proofs.Common.{◌+◌, ◌%◌, ◌^◌, rules}
use Rattle.triple_arena.specs.CompressionLaws.{values_in_turn}
use Rattle.promise_arena_users.proofs.values.sum_up.Goals as goal

pub returns-clause-values : goal.returns-clause-values
returns-clause-values g c =
    values_in_turn c.compress_with.ensures.mapped (λ h. h.0.now) (λ sum v. (sum + v) % 2 ^ 64)
    (λ sum v. (sum + v) % 2 ^ 64) (λ h from t to u k s. search rules)

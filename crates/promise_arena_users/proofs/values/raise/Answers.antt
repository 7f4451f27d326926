use Rattle.std.proofs.Common.{◌+◌, ◌%◌, ◌^◌, rules}
use Rattle.triple_arena.specs.CompressionLaws.{values_same}
use Rattle.promise_arena_users.proofs.values.raise.Goals as goal

pub returns-clause-values : goal.returns-clause-values
returns-clause-values g c =
    values_same c.compress_with.ensures.mapped (λ v. (v + c.args.by) % 2 ^ 64)
    (λ from t to u k s. search rules)

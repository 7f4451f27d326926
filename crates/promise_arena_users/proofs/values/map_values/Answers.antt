use Rattle.std.proofs.Common.{rules, of_calls}
use Rattle.triple_arena.specs.CompressionLaws.{values_related_same}
use Rattle.promise_arena_users.proofs.values.map_values.Goals as goal

pub returns-clause-values : goal.returns-clause-values
returns-clause-values g c =
    values_related_same c.compress_with.ensures.mapped _
    (λ from t to u k s. search (rules, of_calls))

use Rattle.std.proofs.Common.{rules}
use Rattle.promise_arena_users.proofs.MirrorLemmas.{holds_itself}
use Rattle.promise_arena_users.proofs.mirrors.reflect.Goals as goal

pub returns-clause-itself : goal.returns-clause-itself
returns-clause-itself g c = holds_itself _ _ _ (λ f p u t h k. search rules) c.in-Ok.ensures.mapped

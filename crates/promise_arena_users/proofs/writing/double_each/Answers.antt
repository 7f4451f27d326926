use Rattle.triple_arena.specs.IterMutLaws.{rewritten}
use Rattle.promise_arena_users.proofs.writing.double_each.Goals as goal

pub returns-clause-rewritten : goal.returns-clause-rewritten
returns-clause-rewritten g c = rewritten _ _

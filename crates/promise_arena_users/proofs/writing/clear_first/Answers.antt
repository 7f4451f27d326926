use Rattle.triple_arena.specs.IterMutLaws.{rewritten}
use Rattle.promise_arena_users.proofs.writing.clear_first.Goals as goal

pub returns-after-loop : goal.returns-after-loop
returns-after-loop g c = rewritten _ _

pub returns-in-None : goal.returns-in-None
returns-in-None g c = rewritten _ _

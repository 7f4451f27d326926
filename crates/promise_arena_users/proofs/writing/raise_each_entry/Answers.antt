use Rattle.triple_arena.specs.IterMutLaws.{direct_rewritten}
use Rattle.promise_arena_users.proofs.writing.raise_each_entry.Goals as goal

pub returns : goal.returns
returns g c = direct_rewritten _ _

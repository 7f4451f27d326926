use Rattle.triple_arena_ord.specs.AskedLaws.{way_ends}
use Rattle.triple_arena_ord.proofs.laws.questions_end_at_the_gap.Goals as goal

pub returns : goal.returns
returns c = λ asked w way all. way_ends asked w way all

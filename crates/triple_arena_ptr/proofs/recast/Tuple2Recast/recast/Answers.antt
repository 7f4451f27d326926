use Rattle.std.proofs.Common.{◌∙◌, Ok, Err, ap}
use Rattle.std.proofs.lemmas.Result.{err_from_is_err_and}
use Rattle.triple_arena_ptr.specs.RecastLaws.{answer_of_parts}
use Rattle.triple_arena_ptr.proofs.recast.Tuple2Recast.recast.Goals as goal

pub returns-in_err-recast-clause-answer : goal.returns-in_err-recast-clause-answer
returns-in_err-recast-clause-answer g c =
    let passed_on = err_from_is_err_and c.from_residual.result c.from_residual.ensures.1 in
    passed_on.1 ∙ ap Err passed_on.2
    ∙ answer_of_parts (g.R.Recaster.image c.args.recaster.now) (g.A.Recast.items c.args.self.now.0)
    (g.B.Recast.items c.args.self.now.1)
    (Err c.in_err-recast.field-0.0) c.in_err-recast.ensures.answer

pub returns-clause-answer : goal.returns-clause-answer
returns-clause-answer g c =
    c.recast-2.ensures.answer
    ∙ answer_of_parts (g.R.Recaster.image c.args.recaster.now) (g.A.Recast.items c.args.self.now.0)
    (g.B.Recast.items c.args.self.now.1)
    (Ok tt) c.in_ok-recast.ensures.answer

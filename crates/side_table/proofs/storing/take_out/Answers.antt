use Rattle.std.proofs.Common.{◌∙◌, subst, ap}
use Rattle.std.specs.Option.{option_map}
use Rattle.triple_arena.specs.DirectContent.{entry_at}
use Rattle.triple_arena_ptr.specs.InvalidationResult.{answer_of}
use Rattle.side_table.specs.SideTable.{IsEntryTaken}
use Rattle.side_table.proofs.SideTableLemmas.{taken, value_taken}
use Rattle.side_table.proofs.storing.take_out.Goals as goal

pub returns-clause-taken : goal.returns-clause-taken
returns-clause-taken g c =
    subst (λ n. IsEntryTaken n c.args.table.now c.remove_inx.new.self) c.inx.ensures
    (taken g.P.Gen.PtrGenCore.number (answer_of c.remove_inx.result) g.P.Gen.PtrGenCore.last
    (g.P.Inx.PtrInxCore.number c.inx.result) c.args.table.now c.remove_inx.new.self
    c.remove_inx.ensures.value c.remove_inx.ensures.removed c.remove_inx.ensures.invalid)

pub returns-clause-value : goal.returns-clause-value
returns-clause-value g c =
    c.value_alone.ensures ∙ ap (option_map (λ e. e.1)) c.allow.ensures
    ∙ value_taken g.P.Gen.PtrGenCore.number (answer_of c.remove_inx.result)
    (entry_at c.args.table.now (g.P.Inx.PtrInxCore.number c.inx.result)) c.remove_inx.ensures.value
    ∙ ap (λ i. option_map (λ e. e.1) (entry_at c.args.table.now i)) c.inx.ensures

use Rattle.std.proofs.Common.{sym, ap, ◌∙◌}
use Rattle.std.specs.Option.{option_map}
use Rattle.triple_arena_ord.proofs.InsertLemmas.{renewed_at}
use Rattle.triple_arena_ord.proofs.ord_arena.insertion.renew.Goals as goal

pub returns-clause-renewed : goal.returns-clause-renewed
returns-clause-renewed g c =
    let number = g.P.Inx.PtrInxCore.number in
    renewed_at c.args.chains.now (number c.args.i) _ _ _ _ _ _ _ _
    (sym c.get_inx.ensures
    ∙ ap (option_map (λ e. (g.P.Gen.PtrGenCore.number e.0, e.1.now))) c.in-Some.is)
    c.get_inx_mut_unwrap-node.ensures.value c.replace-old.ensures.value c.replace-old.ensures.after
    c._from_raw.ensures.has_index c._from_raw.ensures.has_generation

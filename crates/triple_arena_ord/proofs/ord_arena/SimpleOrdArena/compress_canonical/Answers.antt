use Rattle.std.proofs.Common.{◌≡◌, None, sym, ap, subst, ◌∙◌}
use Rattle.std.specs.List.{range_with_len}
use Rattle.linked_lists.specs.LinkedLists.{first_or, last_or}
use Rattle.triple_arena_ord.specs.Ordered.{Ordered, size_in, ordered_by}
use Rattle.triple_arena_ord.specs.CanonicalLayout.{IsLaidInOrder}
use Rattle.triple_arena_ord.proofs.CanonicalLayoutLemmas.{Laid, laid_by, run_linear}
use Rattle.triple_arena_ord.proofs.ord_arena.SimpleOrdArena.compress_canonical.Goals as goal

pub rebuild_run-self-inside-requires-clause-linear :
    goal.rebuild_run-self-inside-requires-clause-linear
rebuild_run-self-inside-requires-clause-linear g c =
    let number = g.P.Inx.PtrInxCore.number in
    let o : Ordered g.row.T.Denot =
    ordered_by number c.self.inside.chains c.self.inside.root in
    run_linear g.P.Gen.PtrGenCore.last c.args.reset o c.compress_canonical-answer.new.self
    c.self.invariant.0
    c.compress_canonical-answer.ensures.canonical

done : (g : _) (c : goal.After-self-3-1 g)
    → Laid g.P.Gen.PtrGenCore.last c.args.reset
    (ordered_by g.P.Inx.PtrInxCore.number c.self.inside.chains c.self.inside.root)
    c.compress_canonical-answer.new.self c.self.invariant.0
    c.compress_canonical-answer.ensures.canonical
    (ordered_by g.P.Inx.PtrInxCore.number c.rebuild_run-self-inside.new.chains
    c.rebuild_run-self-inside.result)
done g c =
    let number = g.P.Inx.PtrInxCore.number in
    let last = g.P.Gen.PtrGenCore.last in
    let o : Ordered g.row.T.Denot =
    ordered_by number c.self.inside.chains c.self.inside.root in
    laid_by last c.args.reset o c.compress_canonical-answer.new.self c.self.invariant.0
    c.compress_canonical-answer.ensures.canonical _
    c.rebuild_run-self-inside.ensures.keeps c.rebuild_run-self-inside.ensures.rebuilt

pub invariant_of-self : goal.invariant_of-self
invariant_of-self g c =
    let number = g.P.Inx.PtrInxCore.number in
    let o : Ordered g.row.T.Denot =
    ordered_by number c.self.inside.chains c.self.inside.root in
    let d = done g c in
    let size : c.len.result ≡ size_in o = c.len.ensures.value
    ∙ c.compress_canonical-answer.ensures.canonical.live in (
      d.ordered,
      c.ends_of_run-first.ensures.first ∙ ap (λ n. first_or (range_with_len 1 n) None) size
          ∙ ap (λ l. first_or l None) (sym d.laid.runs),
      c.ends_of_run-first.ensures.last ∙ ap (λ n. last_or None (range_with_len 1 n)) size
          ∙ ap (last_or None) (sym d.laid.runs),
    )

pub returns-clause-laid : goal.returns-clause-laid
returns-clause-laid g c =
    let number = g.P.Inx.PtrInxCore.number in
    let p : Ordered g.row.T.Denot =
    ordered_by number c.rebuild_run-self-inside.new.chains c.rebuild_run-self-inside.result in
    subst (λ z. IsLaidInOrder g.P.Gen.PtrGenCore.last c.args.reset z p) c.self.view_is
    (done g c).laid

pub returns-clause-ordered : goal.returns-clause-ordered
returns-clause-ordered g c = (done g c).ordered

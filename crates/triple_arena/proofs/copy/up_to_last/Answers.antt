use Rattle.std.proofs.Common.{arith, ◌∙◌, sym}
use Rattle.triple_arena.proofs.CopyLemmas.{ends_free, ends_live}
use Rattle.triple_arena.proofs.copy.up_to_last.Goals as goal

pub returns-then-is_some-clause-last : goal.returns-then-is_some-clause-last
returns-then-is_some-clause-last g c =
    ends_live g.E.LentEntry.shown _ c.lent_entry.result _ _ _ _ c.in-Some.ensures.cases.0
    c.lent_entry.ensures
    (sym c.is_some.ensures ∙ c.if-is_some.true) c.loop-last.invariant.0

pub loop-last-preserved : goal.loop-last-preserved
loop-last-preserved g c = (
  ends_free g.E.LentEntry.shown _ c.lent_entry.result _ _ _ _ c.in-Some.ensures.cases.0
      c.lent_entry.ensures
      (sym c.is_some.ensures ∙ c.if-is_some.false) c.loop-last.invariant.0,
  omega (arith, c.in-Some.ensures.cases, c.loop-last.invariant),
)

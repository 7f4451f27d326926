use Rattle.std.proofs.Common.{None, arith, sym, inl, inr, ◌∙◌}
use Rattle.std.proofs.lemmas.Bool.{false≢true}
use Rattle.std.proofs.lemmas.Bool.Decides.{nat_tests}
use Rattle.route_lines.proofs.NumberLemmas.{IfNone-number_of, IfSome-number_of, unreadable, stopped}
use Rattle.route_lines.proofs.NumberLemmas.{finished}
use Rattle.route_lines.proofs.number.read_number.Goals as goal
use Rattle.route_lines.proofs.number.read_number.Goals.{then-is_empty-via-then-is_empty}
use Rattle.route_lines.proofs.number.read_number.Goals.{then-is_empty-via-else-is_empty+then-has_leading_zero}

pub returns-then-is_empty-clause-exact : goal.returns-then-is_empty-clause-exact
returns-then-is_empty-clause-exact c =
    sym (unreadable c.args.bytes.now (elim c.then-is_empty.branch [
      | then-is_empty-via-then-is_empty w ↦ inl (grind (arith, nat_tests, w.if-is_empty.ensures))
      | then-is_empty-via-else-is_empty+then-has_leading_zero w ↦
          inr (w.has_leading_zero.ensures.0 w.if-has_leading_zero.true)
    ]))

pub returns-then-is_empty-clause-none : goal.returns-then-is_empty-clause-none
returns-then-is_empty-clause-none c =
    IfNone-number_of c.args.bytes.now None (returns-then-is_empty-clause-exact c)

pub returns-in_err-number-clause-exact : goal.returns-in_err-number-clause-exact
returns-in_err-number-clause-exact c =
    c.from_residual.ensures
    ∙ sym (stopped _ _ _ c.loop-byte.invariant.read (omega arith) c.in_err-number.ensures)

pub returns-in_err-number-clause-none : goal.returns-in_err-number-clause-none
returns-in_err-number-clause-none c = IfNone-number_of _ _ (returns-in_err-number-clause-exact c)

pub returns-clause-exact : goal.returns-clause-exact
returns-clause-exact c =
    sym (finished _ _ _ c.loop-byte.invariant.read (omega arith)
    (grind (arith, nat_tests, c.if-is_empty.ensures))
    (λ first more. false≢true (c.if-has_leading_zero.ensures.1 (first, more)))
    (omega arith))

pub returns-clause-found : goal.returns-clause-found
returns-clause-found c = IfSome-number_of _ _ (returns-clause-exact c)

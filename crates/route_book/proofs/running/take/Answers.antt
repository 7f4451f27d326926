use Rattle.std.proofs.Common.{◌∙◌, refl}
use Rattle.route_lines.specs.UnfinishedLaws.{Takes-none, Takes-line, Stops-at_line, Takes-rest}
use Rattle.route_lines.specs.WrittenLaws.{on_err}
use Rattle.route_book.proofs.LookLemmas.{line_looks}
use Rattle.route_book.proofs.running.take.Goals as goal

pub loop-line-init : goal.loop-line-init
loop-line-init g c = record {
  taken = λ begun none stands. Takes-none begun c.args.piece.now _ _ _ _ none stands;
  failed = refl;
}

pub loop-line-preserved : goal.loop-line-preserved
loop-line-preserved g c =
    let done = c.in_ok-carry_out.ensures in
    record {
      taken = λ begun none stands. Takes-line _ _ _ _ _ _ c.finish-command.result _ _ _ _ _ _ _ _ _
          (c.loop-line.invariant.taken begun none stands) c.in-Some.ensures.found.0
          c.in-Some.ensures.found.1 c.finish-command.ensures.command
          c.finish-command.ensures.cleared done.state done.ok done.counts
          (line_looks g.P.Gen.PtrGenCore.last _ _ _ _ _ done.steps);
      failed = done.ok_failed ∙ c.loop-line.invariant.failed;
    }

pub returns-in_err-carry_out-clause-err : goal.returns-in_err-carry_out-clause-err
returns-in_err-carry_out-clause-err g c =
    let broken = c.in_err-carry_out.ensures in
    on_err c.from_residual.result
    (λ begun none stands. Stops-at_line _ _ _ _ _ c.finish-command.result _ _ _ _ _ _ _ _ _
    (c.loop-line.invariant.taken begun none stands) c.in-Some.ensures.found.0
    c.in-Some.ensures.found.1 c.finish-command.ensures.command broken.state broken.err broken.counts
    (line_looks g.P.Gen.PtrGenCore.last _ _ _ _ _ broken.steps))

pub returns-clause-ok : goal.returns-clause-ok
returns-clause-ok g c begun none stands =
    Takes-rest _ _ _ _ _ _ _ _ _ _ (c.loop-line.invariant.taken begun none stands)
    c.in_default.ensures.none c.extend.ensures

use Rattle.std.proofs.Common.{[], ◌<◌, ◌≤◌, arith}
use Rattle.std.proofs.lemmas.List.Elements.{All-nil, All-same}
use Rattle.triple_arena.specs.Compression.{value_of}
use Rattle.promise_by_value.proofs.FindLemmas.{passes, later, now}
use Rattle.promise_by_value.proofs.ordered.find.Goals as goal

pub returns-then-value-least-clause-some : goal.returns-then-value-least-clause-some
returns-then-value-least-clause-some g c =
    let enough : c.args.least ≤ c.in-Some.value = let yes = c.if-value-least.true in
    omega (arith, yes) in
    (enough, c.loop-p.invariant.1 _ (now _ _ _ c.in-Some.ensures.steps))

pub loop-p-preserved : goal.loop-p-preserved
loop-p-preserved g c =
    let less : c.in-Some.value < c.args.least = let no = c.if-value-least.false in
    omega (arith, no) in (
      (λ others. c.loop-p.invariant.0
          (passes _ _ _ c.in-Some.ensures.steps (λ e. value_of e < c.args.least) less others)),
      (λ e held. c.loop-p.invariant.1 e (later _ _ _ c.in-Some.ensures.steps e held)),
    )

pub returns-clause-none : goal.returns-clause-none
returns-clause-none g c =
    c.loop-p.invariant.0
    (All-same (λ e. value_of e < c.args.least) _ [] c.in-None.ensures.steps.0
    (All-nil (λ e. value_of e < c.args.least)))

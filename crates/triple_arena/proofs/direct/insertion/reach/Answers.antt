use Rattle.std.proofs.Common.{ap, length, arith, ◌∙◌}
use Rattle.std.proofs.lemmas.List.{length_push}
use Rattle.triple_arena.proofs.DirectLemmas.{reaching_more}
use Rattle.triple_arena.proofs.direct.insertion.reach.Goals as goal

pub loop-slots-preserved : goal.loop-slots-preserved
loop-slots-preserved g c =
    let l = c.loop-slots.invariant in
    let more = c.in-Ok.ensures.items in
    let longer = ap length more ∙ length_push _ _ in
    let below = c.loop-slots-test.true in
    let counted = c.len.ensures.value in (
      reaching_more (g.S.NonZeroInxGenericStack.items c.args.slots.now) l.0 l.2 more c.free.ensures,
      omega (arith, longer, below, counted, l.1),
      omega (arith, longer, l.2),
      l.3,
      c.push_within_capacity.ensures.room ∙ l.4,
    )

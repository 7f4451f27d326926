use Rattle.std.proofs.Common.{◌≡◌, ◌+◌, ◌<◌, length, Err, refl, sym, ap, ◌∙◌, arith}
use Rattle.std.proofs.lemmas.Result.{err_from_is_err_and}
use Rattle.std.specs.Int.NonZero.{non_zero_usize_get}
use Rattle.triple_arena.specs.Content.{with_value}
use Rattle.triple_arena.specs.ContentLaws.{slots-with_value}
use Rattle.triple_arena.proofs.RecastingLemmas.{partly_none, partly_free, partly_live, partly_same}
use Rattle.triple_arena.proofs.RecastingLemmas.{recasts_to, recasts_all, no_entry_there}
use Rattle.triple_arena.proofs.arena.recast.recast_values.Goals.{then-is_live_at+in_ok-recast}
use Rattle.triple_arena.proofs.arena.recast.recast_values.Goals.{else-is_live_at}
use Rattle.triple_arena.proofs.arena.recast.recast_values.Goals.{After-saturating_add-i}
use Rattle.triple_arena.proofs.arena.recast.recast_values.Goals as goal

-- the slot that is looked at
placed : (g : _) (c : After-saturating_add-i g)
    → (c.loop-before.before < length (g.A.RecastByIndex.content c.loop-before.arena).slots)
    × (non_zero_usize_get c.saturating_add-i.result ≡ c.loop-before.before + 1)
placed g c =
    let long = c.loop-before.invariant.1 in
    let fits = c.loop-before.auto.before-end in (
      omega (arith, c.indexes-before-end.ensures, c.loop-before-test.true, long),
      omega (arith, c.saturating_add-i.ensures),
    )

pub value_at_mut-requires-clause-used : goal.value_at_mut-requires-clause-used
value_at_mut-requires-clause-used g c =
    g.met.A.RecastByIndex.has_its_value _ _ (c.is_live_at.ensures.0 c.if-is_live_at.true)

pub loop-before-init : goal.loop-before-init
loop-before-init g c = (partly_none (g.A.RecastByIndex.content c.args.arena.now), refl)

pub loop-before-preserved : goal.loop-before-preserved
loop-before-preserved g c =
    let content = g.A.RecastByIndex.content in
    let law = g.met.A.RecastByIndex in
    let l = c.loop-before in
    let i = non_zero_usize_get c.saturating_add-i.result in
    let place = placed g (goal.at.loop-before-preserved g c).After-saturating_add-i in
    elim c.if-is_live_at.branch [
      | then-is_live_at+in_ok-recast w ↦
          let left = ap content w.arena-is ∙ law.content_written l.arena i w.recast.new.self in (
            partly_same left (partly_live l.invariant.0 place.1 place.0
                (sym (law.value_of_entry l.arena i) ∙ w.value_at_mut.ensures.value)
                (ap (with_value (content l.arena) i) w.recast.ensures.value)
                w.in_ok-recast.ensures.answer),
            ap (λ d. length d.slots) left ∙ slots-with_value (content l.arena) i w.recast.new.self
                ∙ l.invariant.1,
          )
      | else-is_live_at w ↦ (
        partly_same (ap content w.arena-is)
            (partly_free l.invariant.0 place.1 place.0
            (no_entry_there w.if-is_live_at.false c.is_live_at.ensures)),
        ap (λ d. length (content d).slots) w.arena-is ∙ l.invariant.1,
      )
    ]

pub returns-in_err-recast-clause-value : goal.returns-in_err-recast-clause-value
returns-in_err-recast-clause-value g c =
    let content = g.A.RecastByIndex.content in
    let law = g.met.A.RecastByIndex in
    let l = c.loop-before in
    let i = non_zero_usize_get c.saturating_add-i.result in
    let place = placed g (goal.at.returns-in_err-recast-clause-value g c).After-saturating_add-i in
    (recasts_to l.invariant.0 place.1 place.0
    (sym (law.value_of_entry l.arena i) ∙ c.value_at_mut.ensures.value)
    (law.content_written l.arena i _ ∙ ap (with_value (content l.arena) i) c.recast.ensures.value)
    c.in_err-recast.ensures.answer).content

pub returns-in_err-recast-clause-answer : goal.returns-in_err-recast-clause-answer
returns-in_err-recast-clause-answer g c =
    let content = g.A.RecastByIndex.content in
    let law = g.met.A.RecastByIndex in
    let l = c.loop-before in
    let i = non_zero_usize_get c.saturating_add-i.result in
    let place = placed g (goal.at.returns-in_err-recast-clause-answer g c).After-saturating_add-i in
    let passed_on = err_from_is_err_and c.from_residual.result c.from_residual.ensures.1 in
    passed_on.1 ∙ ap Err passed_on.2
    ∙ (recasts_to l.invariant.0 place.1 place.0
    (sym (law.value_of_entry l.arena i) ∙ c.value_at_mut.ensures.value)
    (law.content_written l.arena i _ ∙ ap (with_value (content l.arena) i) c.recast.ensures.value)
    c.in_err-recast.ensures.answer).answer

pub returns-clause-value : goal.returns-clause-value
returns-clause-value g c =
    let long = c.loop-before.invariant.1 in
    (recasts_all c.loop-before.invariant.0
    (omega (arith, c.indexes-before-end.ensures, c.loop-before-test.false, long))).content

pub returns-clause-answer : goal.returns-clause-answer
returns-clause-answer g c =
    let long = c.loop-before.invariant.1 in
    (recasts_all c.loop-before.invariant.0
    (omega (arith, c.indexes-before-end.ensures, c.loop-before-test.false, long))).answer

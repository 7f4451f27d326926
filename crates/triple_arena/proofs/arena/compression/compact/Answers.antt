use Rattle.std.proofs.Common.{◌≡◌, ◌+◌, ◌<◌, ◌≤◌, ◌||◌, map, length, ap, sym, refl, ◌∙◌, subst}
use Rattle.std.proofs.Common.{arith, of_calls}
use Rattle.std.proofs.lemmas.List.{length-map, take-map}
use Rattle.std.specs.Int.NonZero.{non_zero_usize_get}
use Rattle.triple_arena.proofs.CompressionLemmas.{partly_none, partly_free, partly_live, partly_all}
use Rattle.triple_arena.proofs.CompressionLemmas.{partly_told, partly_same, stood_some, stood_none}
use Rattle.triple_arena.proofs.arena.compression.compact.Goals.{in-Some, in_default}
use Rattle.triple_arena.proofs.arena.compression.compact.Goals as goal

pub loop-at-init : goal.loop-at-init
loop-at-init g c = (search of_calls, partly_none _ _ _, refl)

pub loop-at-preserved : goal.loop-at-preserved
loop-at-preserved g c =
    let at = c.loop-at in
    let p = at.invariant.1 in
    let below = c.loop-at-test.true in
    let sized = c.len-at-end.ensures.value in
    let whole = p.whole in
    let counted = length-map (g.S.NonZeroInxGenericStack.items c.args.slots.now) g.L.EntrySlot.entry
    in
    let passed = p.passed in
    let fits = c.loop-at.auto.at-end in
    let within : at.at < length
    (map g.L.EntrySlot.entry (g.S.NonZeroInxGenericStack.items at.slots)) = omega arith in
    let old_is : non_zero_usize_get c.saturating_add-old.result ≡ at.at + 1 =
    omega (arith, c.saturating_add-old.ensures) in
    elim c.match-take_entry.branch [
      | in-Some w ↦
          let new_is : non_zero_usize_get w.saturating_add-new.result ≡ at.live + 1 =
          omega (arith, w.saturating_add-new.ensures) in
          let stood = stood_some _ _ _ c.take_entry.ensures.entry old_is w.in-Some.is in (
            subst (λ f. goal.F-IsAlwaysCallable g f) (sym w.map-is) (search of_calls),
            partly_same _ _ _ w.map-is
                (ap (λ s. map g.L.EntrySlot.entry (g.S.NonZeroInxGenericStack.items s)) w.slots-is)
                w.live-is w.wrapped-is
                (partly_live _ _ _ p stood within old_is c.take_entry.ensures.slots
                new_is w.put_entry.ensures.slots w.pointer_at-from.ensures.has_index
                w.pointer_at-from.ensures.has_generation
                w.pointer_at-to.ensures.has_index w.pointer_at-to.ensures.has_generation
                w.renewal_of_entry-wraps.ensures.next
                (ap (λ b. at.wrapped || b) w.renewal_of_entry-wraps.ensures.wraps)
                w.map-value.ensures),
            ap g.S.NonZeroInxGenericStack.room w.slots-is ∙ w.put_entry.ensures.room
                ∙ c.take_entry.ensures.room ∙ at.invariant.2,
          )
      | in_default w ↦
          let stood = stood_none _ _ _ c.take_entry.ensures.entry old_is w.in_default.is in (
            subst (λ f. goal.F-IsAlwaysCallable g f) (sym w.map-is) (search of_calls),
            partly_same _ _ _ w.map-is
                (ap (λ s. map g.L.EntrySlot.entry (g.S.NonZeroInxGenericStack.items s)) w.slots-is)
                w.live-is w.wrapped-is
                (partly_free _ _ _ p stood within old_is c.take_entry.ensures.slots),
            ap g.S.NonZeroInxGenericStack.room w.slots-is ∙ c.take_entry.ensures.room
                ∙ at.invariant.2,
          )
    ]

pub returns-clause-moved : goal.returns-clause-moved
returns-clause-moved g c =
    let p = c.loop-at.invariant.1 in
    let whole = p.whole in
    let sized = c.len-at-end.ensures.value in
    let counted = length-map (g.S.NonZeroInxGenericStack.items c.args.slots.now) g.L.EntrySlot.entry
    in
    let past : length (map g.L.EntrySlot.entry (g.S.NonZeroInxGenericStack.items c.loop-at.slots))
    ≤ c.loop-at.at = omega (arith, c.loop-at-test.false) in
    partly_all _ _ _ p past (ap (map g.L.EntrySlot.entry) c.keep_first.ensures.slots ∙ sym
    (take-map g.L.EntrySlot.entry c.loop-at.live
    (g.S.NonZeroInxGenericStack.items c.loop-at.slots)))

pub returns-clause-wraps : goal.returns-clause-wraps
returns-clause-wraps g c =
    let p = c.loop-at.invariant.1 in
    let whole = p.whole in
    let sized = c.len-at-end.ensures.value in
    let counted = length-map (g.S.NonZeroInxGenericStack.items c.args.slots.now) g.L.EntrySlot.entry
    in
    partly_told _ _ _ p (omega (arith, c.loop-at-test.false))

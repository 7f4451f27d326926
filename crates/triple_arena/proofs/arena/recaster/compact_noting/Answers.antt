use Rattle.std.proofs.Common.{◌≡◌, ◌+◌, ◌<◌, ◌≤◌, map, length, ap, sym, refl, ◌∙◌, arith}
use Rattle.std.proofs.lemmas.List.{length-map, take-map}
use Rattle.std.specs.Int.NonZero.{non_zero_usize_get}
use Rattle.triple_arena_stack.specs.Room.{capacity}
use Rattle.triple_arena.specs.Copy.{last_listed}
use Rattle.triple_arena.specs.DirectContent.{live_entries}
use Rattle.triple_arena.specs.DirectLaws.{slots-inserted}
use Rattle.triple_arena.specs.LiveEntries.{listed_from}
use Rattle.triple_arena.specs.Slot.{entry_of}
use Rattle.triple_arena.proofs.CompressionLemmas.{partly_none, partly_free, partly_live, partly_all}
use Rattle.triple_arena.proofs.CompressionLemmas.{partly_last, partly_same, stood_some, stood_none}
use Rattle.triple_arena.proofs.RecasterLemmas.{listed_more, place_past, ends_none, ends_more}
use Rattle.triple_arena.proofs.RecasterLemmas.{noted_one, reached}
use Rattle.triple_arena.proofs.arena.recaster.compact_noting.Goals.{in-Some, in_default}
use Rattle.triple_arena.proofs.arena.recaster.compact_noting.Goals as goal

pub loop-at-init : goal.loop-at-init
loop-at-init g c =
    let none = ap length c.requires.empty in (
      partly_same _ _ _ (ap (listed_from 1) c.requires.empty) refl refl refl (partly_none _ _ _),
      omega arith,
      refl,
      refl,
      ends_none c.requires.empty,
    )

pub insert_at-requires-clause-place : goal.insert_at-requires-clause-place
insert_at-requires-clause-place g c =
    let at = c.loop-at in
    let p = at.invariant.0 in
    let whole = p.whole in
    let counted = length-map (g.S.NonZeroInxGenericStack.items c.args.slots.now) entry_of in
    let fits = at.auto.at-end in
    let below : at.at < length (map entry_of (g.S.NonZeroInxGenericStack.items at.slots)) =
    omega (arith, c.loop-at-test.true, c.len-at-end.ensures.value) in
    let old_is : non_zero_usize_get c.saturating_add-old.result ≡ at.at + 1 =
    omega (arith, c.saturating_add-old.ensures) in
    let stood = stood_some _ _ _ c.take_entry.ensures.entry old_is c.in-Some.is in
    let far = reached _ _ (capacity c.args.map.now.room) p stood below c.requires.reaches in
    let room = ap capacity at.invariant.2 in
    place_past at.map at.invariant.1 old_is (omega (arith, far, room))

pub loop-at-preserved : goal.loop-at-preserved
loop-at-preserved g c =
    let at = c.loop-at in
    let p = at.invariant.0 in
    let whole = p.whole in
    let passed = p.passed in
    let counted = length-map (g.S.NonZeroInxGenericStack.items c.args.slots.now) entry_of in
    let fits = at.auto.at-end in
    let below : at.at < length (map entry_of (g.S.NonZeroInxGenericStack.items at.slots)) =
    omega (arith, c.loop-at-test.true, c.len-at-end.ensures.value) in
    let i = non_zero_usize_get c.saturating_add-old.result in
    let old_is : i ≡ at.at + 1 = omega (arith, c.saturating_add-old.ensures) in
    elim c.match-take_entry.branch [
      | in-Some w ↦
          let new_is : non_zero_usize_get w.saturating_add-new.result ≡ at.live + 1 =
          omega (arith, w.saturating_add-new.ensures) in
          let stood = stood_some _ _ _ c.take_entry.ensures.entry old_is w.in-Some.is in
          let stored = w.map-is ∙ w.insert_at.ensures.value in
          let noted = ap live_entries stored ∙ listed_more at.map _ _ at.invariant.1 old_is in
          let longer = slots-inserted at.map i (g.P.Gen.PtrGenCore.number w.generation.result)
          w.pointer_at-to.result in
          let long = ap (λ d. length d.slots) stored in (
            partly_same _ _ _ refl
                (ap (λ s. map entry_of (g.S.NonZeroInxGenericStack.items s)) w.slots-is) w.live-is
                refl
                (partly_live _ _ _ p stood below old_is c.take_entry.ensures.slots
                new_is w.put_entry.ensures.slots w.pointer_at-from.ensures.has_index
                w.pointer_at-from.ensures.has_generation
                w.pointer_at-to.ensures.has_index w.pointer_at-to.ensures.has_generation refl refl
                (noted_one g.P.PtrCore.index g.P.PtrCore.generation _ w.pointer_at-from.result _
                noted w.pointer_at-from.ensures.has_index w.generation.ensures)),
            omega (arith, long, longer, at.invariant.1, old_is),
            ap (λ d. d.room) stored ∙ at.invariant.2,
            ap g.S.NonZeroInxGenericStack.room w.slots-is ∙ w.put_entry.ensures.room
                ∙ c.take_entry.ensures.room ∙ at.invariant.3,
            ends_more (live_entries at.map)
                (i, (g.P.Gen.PtrGenCore.number w.generation.result, w.pointer_at-to.result)) _ noted
                (omega (arith, long, longer, at.invariant.1, old_is)),
          )
      | in_default w ↦
          let stood = stood_none _ _ _ c.take_entry.ensures.entry old_is w.in_default.is in
          let long = ap (λ d. length d.slots) w.map-is in (
            partly_same _ _ _ (ap live_entries w.map-is)
                (ap (λ s. map entry_of (g.S.NonZeroInxGenericStack.items s)) w.slots-is) w.live-is
                refl
                (partly_free _ _ _ p stood below old_is c.take_entry.ensures.slots),
            omega (arith, long, at.invariant.1),
            ap (λ d. d.room) w.map-is ∙ at.invariant.2,
            ap g.S.NonZeroInxGenericStack.room w.slots-is ∙ c.take_entry.ensures.room
                ∙ at.invariant.3,
            long ∙ at.invariant.4 ∙ sym (ap (λ d. last_listed (live_entries d)) w.map-is),
          )
    ]

pub returns-clause-moved : goal.returns-clause-moved
returns-clause-moved g c =
    let p = c.loop-at.invariant.0 in
    let whole = p.whole in
    let sized = c.len-at-end.ensures.value in
    let counted = length-map (g.S.NonZeroInxGenericStack.items c.args.slots.now) entry_of in
    let past : length (map entry_of (g.S.NonZeroInxGenericStack.items c.loop-at.slots))
    ≤ c.loop-at.at = omega (arith, c.loop-at-test.false) in
    let front = ap (map entry_of) c.keep_first.ensures.slots
    ∙ sym (take-map entry_of c.loop-at.live (g.S.NonZeroInxGenericStack.items c.loop-at.slots))
    in
    record { moved = partly_all _ _ _ p past front; all = partly_last _ _ _ p past front }

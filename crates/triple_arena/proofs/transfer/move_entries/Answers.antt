use Rattle.std.proofs.Common.{◌≡◌, ◌+◌, ◌<◌, map, length, is_some, ap, refl, ◌∙◌, arith, of_calls}
use Rattle.std.proofs.lemmas.List.{length-map}
use Rattle.std.proofs.lemmas.List.Sums.{count_by-le-length}
use Rattle.std.specs.Int.NonZero.{non_zero_usize_get}
use Rattle.triple_arena_stack.specs.Room.{capacity}
use Rattle.triple_arena.proofs.CompressionLemmas.{stood_some, stood_none}
use Rattle.triple_arena.proofs.TransferLemmas.{partly_none, partly_free, partly_live, partly_all}
use Rattle.triple_arena.proofs.TransferLemmas.{partly_stepped, fits_one}
use Rattle.triple_arena.proofs.transfer.move_entries.Goals as goal

pub loop-at-init : goal.loop-at-init
loop-at-init g c = (
  search of_calls,
  partly_none _ _ _ _ _ (ap (map g.L.EntrySlot.entry) c.requires.empty),
  refl,
  refl,
)

pub pointer_at-after-requires-clause-fits : goal.pointer_at-after-requires-clause-fits
pointer_at-after-requires-clause-fits g c =
    let at = c.loop-at in
    let p = at.invariant.1 in
    let whole = p.whole in
    let counted = length-map (g.R.NonZeroInxGenericStack.items c.args.from.now) g.K.EntrySlot.entry
    in
    let below : at.at < length
    (map g.K.EntrySlot.entry (g.R.NonZeroInxGenericStack.items at.from)) =
    omega (arith, c.loop-at-test.true, c.len-at-end.ensures.value) in
    let fits = at.auto.at-end in
    let old_is : non_zero_usize_get c.saturating_add-old.result ≡ at.at + 1 =
    omega (arith, c.saturating_add-old.ensures) in
    let stood = stood_some _ _ _ c.take_entry.ensures.entry old_is c.in-Some.is in
    let room = fits_one _ _ _ _ _ p stood below in
    let sized = length-map (g.S.NonZeroInxGenericStack.items at.to) g.L.EntrySlot.entry in
    omega (
      arith,
      c.len.ensures.value,
      c.saturating_add-new.ensures,
      c.requires.indexes,
      room,
      sized,
    )

pub loop-at-preserved-in_default : goal.loop-at-preserved-in_default
loop-at-preserved-in_default g c =
    let at = c.loop-at in
    let p = at.invariant.1 in
    let counted = length-map (g.R.NonZeroInxGenericStack.items c.args.from.now) g.K.EntrySlot.entry
    in
    let below : at.at < length
    (map g.K.EntrySlot.entry (g.R.NonZeroInxGenericStack.items at.from)) =
    let whole = p.whole in
    let fits = at.auto.at-end in
    omega (arith, c.loop-at-test.true, c.len-at-end.ensures.value) in
    let old_is : non_zero_usize_get c.saturating_add-old.result ≡ at.at + 1 =
    let whole = p.whole in
    let fits = at.auto.at-end in
    omega (arith, c.saturating_add-old.ensures) in
    let stood = stood_none _ _ _ c.take_entry.ensures.entry old_is c.in_default.is in (
      search of_calls,
      partly_free _ _ _ _ _ p stood below old_is c.take_entry.ensures.slots,
      c.take_entry.ensures.room ∙ at.invariant.2,
      at.invariant.3,
    )

pub loop-at-preserved : goal.loop-at-preserved
loop-at-preserved g c =
    let at = c.loop-at in
    let p = at.invariant.1 in
    let counted = length-map (g.R.NonZeroInxGenericStack.items c.args.from.now) g.K.EntrySlot.entry
    in
    let below : at.at < length
    (map g.K.EntrySlot.entry (g.R.NonZeroInxGenericStack.items at.from)) =
    let whole = p.whole in
    let fits = at.auto.at-end in
    omega (arith, c.loop-at-test.true, c.len-at-end.ensures.value) in
    let old_is : non_zero_usize_get c.saturating_add-old.result ≡ at.at + 1 =
    let whole = p.whole in
    let fits = at.auto.at-end in
    omega (arith, c.saturating_add-old.ensures) in
    let whole = p.whole in
    let fits = at.auto.at-end in
    let sized = length-map (g.S.NonZeroInxGenericStack.items at.to) g.L.EntrySlot.entry in
    let stood = stood_some _ _ _ c.take_entry.ensures.entry old_is c.in-Some.is in
    let room = fits_one _ _ _ _ _ p stood below in
    let free : length (g.S.NonZeroInxGenericStack.items at.to) < capacity
    (g.S.NonZeroInxGenericStack.room at.to) =
    rw (at.invariant.3) (omega (arith, c.requires.fits, room, sized)) in
    let few = count_by-le-length is_some
    (map g.K.EntrySlot.entry (g.R.NonZeroInxGenericStack.items c.args.from.now)) in
    let new_is : non_zero_usize_get c.saturating_add-new.result
    ≡ length (map g.L.EntrySlot.entry (g.S.NonZeroInxGenericStack.items at.to)) + 1 =
    omega (
      arith,
      c.saturating_add-new.ensures,
      c.len.ensures.value,
      room,
      few,
      counted,
      c.len-at-end.ensures.value,
    ) in (
      search of_calls,
      partly_live _ _ _ _ _ p stood below old_is c.take_entry.ensures.slots new_is
          (c.append_entry.ensures.slots free)
          c.pointer_at-before.ensures.has_index c.pointer_at-before.ensures.has_generation
          c.removal-stepped.ensures.value c.removal-stepped.ensures.wraps
          c.removal-stepped.ensures.counter
          c.pointer_at-after.ensures.has_index c.pointer_at-after.ensures.has_generation
          c.map-value.ensures,
      c.take_entry.ensures.room ∙ at.invariant.2,
      c.append_entry.ensures.room ∙ at.invariant.3,
    )

pub returns-clause-moved : goal.returns-clause-moved
returns-clause-moved g c =
    let p = c.loop-at.invariant.1 in
    let whole = p.whole in
    let counted = length-map (g.R.NonZeroInxGenericStack.items c.args.from.now) g.K.EntrySlot.entry
    in
    partly_all _ _ _ _ _ p (omega (arith, c.loop-at-test.false, c.len-at-end.ensures.value))

pub returns-clause-counter : goal.returns-clause-counter
returns-clause-counter g c =
    let p = c.loop-at.invariant.1 in
    let whole = p.whole in
    let counted = length-map (g.R.NonZeroInxGenericStack.items c.args.from.now) g.K.EntrySlot.entry
    in
    partly_stepped _ _ _ _ _ p (omega (arith, c.loop-at-test.false, c.len-at-end.ensures.value))

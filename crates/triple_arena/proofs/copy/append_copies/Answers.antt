use Rattle.std.proofs.Common.{map, ap, refl, ◌∙◌, arith, of_calls}
use Rattle.std.proofs.lemmas.List.{length-map}
use Rattle.triple_arena.proofs.CopyLemmas.{copying_none, copying_free, copying_live}
use Rattle.triple_arena.proofs.CopyLemmas.{copying_refused, copying_all, first_shown, first_free}
use Rattle.triple_arena.proofs.CopyLemmas.{pushed_slot}
use Rattle.triple_arena.proofs.copy.append_copies.Goals as goal

pub loop-slot-init : goal.loop-slot-init
loop-slot-init g c = (
  search of_calls,
  copying_none _ _ _ _ _ (ap (map g.L.EntrySlot.entry) c.requires.empty),
  refl,
)

pub returns-in_err-value-in-Some-lent_entry-clause-refused :
    goal.returns-in_err-value-in-Some-lent_entry-clause-refused
returns-in_err-value-in-Some-lent_entry-clause-refused g c _ =
    let counted = length-map (g.S.NonZeroInxGenericStack.items c.loop-slot.slots)
    g.L.EntrySlot.entry in
    let passed = length-map c.loop-slot.left.now g.E.LentEntry.shown in
    let all = length-map c.args.source.now g.E.LentEntry.shown in
    let whole = c.loop-slot.invariant.1.whole in
    let bound = c.requires.indexes in
    let split = c.in-Some.ensures.cases.1 in
    copying_refused _ _ _ c.loop-slot.invariant.1
    (first_shown g.E.LentEntry.shown _ c.in-Some.ensures.cases.0 c.lent_entry.ensures
    c.in-Some-lent_entry.is)
    (omega (arith, c.saturating_add-index.ensures, c.len.ensures.value))
    c.pointer_at.ensures.has_index c.pointer_at.ensures.has_generation
    c.map.ensures c.in_err-value-in-Some-lent_entry.was

pub loop-slot-preserved-in_ok-value-in-Some-lent_entry :
    goal.loop-slot-preserved-in_ok-value-in-Some-lent_entry
loop-slot-preserved-in_ok-value-in-Some-lent_entry g c =
    let counted = length-map (g.S.NonZeroInxGenericStack.items c.loop-slot.slots)
    g.L.EntrySlot.entry in
    let passed = length-map c.loop-slot.left.now g.E.LentEntry.shown in
    let all = length-map c.args.source.now g.E.LentEntry.shown in
    let whole = c.loop-slot.invariant.1.whole in
    let bound = c.requires.indexes in
    let split = c.in-Some.ensures.cases.1 in (
      search of_calls,
      copying_live _ _ _ c.loop-slot.invariant.1
          (first_shown g.E.LentEntry.shown _ c.in-Some.ensures.cases.0 c.lent_entry.ensures
          c.in-Some-lent_entry.is)
          (omega (arith, c.saturating_add-index.ensures, c.len.ensures.value))
          c.pointer_at.ensures.has_index c.pointer_at.ensures.has_generation
          c.map.ensures c.in_ok-value-in-Some-lent_entry.was
          (pushed_slot g.L.EntrySlot.entry _ c.append.ensures.items c.holding.ensures),
      c.append.ensures.room ∙ c.loop-slot.invariant.2,
    )

pub loop-slot-preserved : goal.loop-slot-preserved
loop-slot-preserved g c = (
  search of_calls,
  copying_free _ _ _ c.loop-slot.invariant.1
      (first_free g.E.LentEntry.shown _ c.in-Some.ensures.cases.0 c.lent_entry.ensures c.in-None.is)
      (pushed_slot g.L.EntrySlot.entry _ c.append-in-None.ensures.items c.vacant.ensures),
  c.append-in-None.ensures.room ∙ c.loop-slot.invariant.2,
)

pub returns-clause-live : goal.returns-clause-live
returns-clause-live g c =
    (copying_all _ _ _ _ (length-map c.loop-slot.left.now g.E.LentEntry.shown
    ∙ c.in_default.ensures.cases) c.loop-slot.invariant.1).lives

pub returns-clause-mapped : goal.returns-clause-mapped
returns-clause-mapped g c =
    (copying_all _ _ _ _ (length-map c.loop-slot.left.now g.E.LentEntry.shown
    ∙ c.in_default.ensures.cases) c.loop-slot.invariant.1).mapped

pub returns-clause-slots : goal.returns-clause-slots
returns-clause-slots g c =
    let counted = length-map (g.S.NonZeroInxGenericStack.items c.loop-slot.slots)
    g.L.EntrySlot.entry in
    let all = length-map c.args.source.now g.E.LentEntry.shown in
    let whole = (copying_all _ _ _ _
    (length-map c.loop-slot.left.now g.E.LentEntry.shown ∙ c.in_default.ensures.cases)
    c.loop-slot.invariant.1).whole in
    omega arith

pub returns-clause-room : goal.returns-clause-room
returns-clause-room g c = c.loop-slot.invariant.2

pub pointer_at-requires-clause-fits : goal.pointer_at-requires-clause-fits
pointer_at-requires-clause-fits g c =
    let counted = length-map (g.S.NonZeroInxGenericStack.items c.loop-slot.slots)
    g.L.EntrySlot.entry in
    let passed = length-map c.loop-slot.left.now g.E.LentEntry.shown in
    let all = length-map c.args.source.now g.E.LentEntry.shown in
    let whole = c.loop-slot.invariant.1.whole in
    let bound = c.requires.indexes in
    let split = c.in-Some.ensures.cases.1 in
    omega (arith, c.saturating_add-index.ensures, c.len.ensures.value)

pub append-requires-clause-room : goal.append-requires-clause-room
append-requires-clause-room g c =
    let counted = length-map (g.S.NonZeroInxGenericStack.items c.loop-slot.slots)
    g.L.EntrySlot.entry in
    let passed = length-map c.loop-slot.left.now g.E.LentEntry.shown in
    let all = length-map c.args.source.now g.E.LentEntry.shown in
    let whole = c.loop-slot.invariant.1.whole in
    let split = c.in-Some.ensures.cases.1 in
    rw c.loop-slot.invariant.2 (omega (arith, c.requires.fits))

pub append-requires-in-None-clause-room : goal.append-requires-in-None-clause-room
append-requires-in-None-clause-room g c =
    let counted = length-map (g.S.NonZeroInxGenericStack.items c.loop-slot.slots)
    g.L.EntrySlot.entry in
    let passed = length-map c.loop-slot.left.now g.E.LentEntry.shown in
    let all = length-map c.args.source.now g.E.LentEntry.shown in
    let whole = c.loop-slot.invariant.1.whole in
    let split = c.in-Some.ensures.cases.1 in
    rw c.loop-slot.invariant.2 (omega (arith, c.requires.fits))

pub overflow_add-live : goal.overflow_add-live
overflow_add-live g c =
    let counted = length-map (g.S.NonZeroInxGenericStack.items c.loop-slot.slots)
    g.L.EntrySlot.entry in
    let all = length-map c.args.source.now g.E.LentEntry.shown in
    let whole = c.loop-slot.invariant.1.whole in
    let few = c.loop-slot.invariant.1.few in
    let bound = c.requires.indexes in
    let split = c.in-Some.ensures.cases.1 in
    let passed = length-map c.loop-slot.left.now g.E.LentEntry.shown in
    omega arith

use Rattle.std.proofs.Common.{◌-◌, map, set, refl, ap, sym, ◌∙◌, true≢false}
use Rattle.std.specs.Int.NonZero.{non_zero_usize_get}
use Rattle.triple_arena_stack.specs.Stack.{with_item}
use Rattle.triple_arena.specs.Layout.{links_at}
use Rattle.triple_arena.specs.Slot.{entry_of}
use Rattle.triple_arena.proofs.FreeSlotsLemmas.{risen_first, risen_free, risen_used, risen_within}
use Rattle.triple_arena.proofs.arena.free_slots.link_rising.Goals.{then-relink, else-relink}
use Rattle.triple_arena.proofs.arena.free_slots.link_rising.Goals as goal

pub free_at-first-requires-clause-fits : goal.free_at-first-requires-clause-fits
free_at-first-requires-clause-fits g c =
    rw c.in-Some.ensures (risen_within c.loop-i.invariant.0 c.requires.fits)

pub set_prev_at-requires-clause-free : goal.set_prev_at-requires-clause-free
set_prev_at-requires-clause-free g c =
    risen_first c.relink.new.self c.loop-i.invariant.0 c.in-Some.ensures c.in-Some.i.ok
    c.item_mut.ensures.value
    (g.met.S.NonZeroInxGenericStack.items_with_items c.loop-i.slots
    (with_item (g.S.NonZeroInxGenericStack.items c.loop-i.slots) (non_zero_usize_get c.in-Some.i)
    c.relink.new.self))

pub loop-i-preserved : goal.loop-i-preserved
loop-i-preserved g c =
    let l = c.loop-i in
    let i = c.in-Some.i in
    let written =
    g.met.S.NonZeroInxGenericStack.items_with_items l.slots
    (with_item (g.S.NonZeroInxGenericStack.items l.slots) (non_zero_usize_get i) c.relink.new.self)
    ∙ ap (set (g.S.NonZeroInxGenericStack.items l.slots) (non_zero_usize_get i - 1))
    c.relink.ensures.value in
    let room =
    g.met.S.NonZeroInxGenericStack.room_with_items l.slots
    (with_item (g.S.NonZeroInxGenericStack.items l.slots) (non_zero_usize_get i) c.relink.new.self)
    ∙ l.invariant.1 in
    elim c.if-relink.branch [
      | then-relink w ↦ (
        risen_free l.invariant.0 c.in-Some.ensures i.ok c.item_mut.ensures.value
            (c.relink.ensures.free.0 w.if-relink.true) written w.free_at-first.ensures
            (λ j. ap (λ s. links_at (g.S.NonZeroInxGenericStack.items s) j) w.slots-is
            ∙ w.set_prev_at.ensures.links j)
            (ap (λ s. map entry_of (g.S.NonZeroInxGenericStack.items s)) w.slots-is
            ∙ w.set_prev_at.ensures.entries)
            w.head-is refl,
        ap g.S.NonZeroInxGenericStack.room w.slots-is ∙ w.set_prev_at.ensures.room ∙ room,
      )
      | else-relink w ↦ (
        risen_used l.invariant.0 c.in-Some.ensures i.ok c.item_mut.ensures.value
            (λ none. true≢false (sym (c.relink.ensures.free.1 none) ∙ w.if-relink.false))
            (ap g.S.NonZeroInxGenericStack.items w.slots-is ∙ written)
            w.head-is refl,
        ap g.S.NonZeroInxGenericStack.room w.slots-is ∙ room,
      )
    ]

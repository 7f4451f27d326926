use Rattle.std.proofs.Common.{sym, ap, ◌∙◌}
use Rattle.std.specs.Int.NonZero.{non_zero_usize_get}
use Rattle.std.specs.Option.{option_map}
use Rattle.triple_arena_stack.specs.Stack.{with_item}
use Rattle.triple_arena.proofs.FreeListLemmas.{free_within, slot_free, place_fits}
use Rattle.triple_arena.proofs.FreeSlotsLemmas.{prev_written, entries-prev}
use Rattle.triple_arena.proofs.arena.free_slots.set_prev_at.Goals as goal

pub place_of-requires-clause-fits : goal.place_of-requires-clause-fits
place_of-requires-clause-fits g c =
    place_fits c.args.at
    (g.S.NonZeroInxGenericStack.items c.args.slots.now) c.len.ensures.value c.len.type_inv
    c.requires.free

pub item_mut-requires : goal.item_mut-requires
item_mut-requires g c =
    free_within (g.S.NonZeroInxGenericStack.items c.args.slots.now) (non_zero_usize_get c.in-Some.i)
    (c.requires.free (non_zero_usize_get c.in-Some.i)
    (sym c.place_of.ensures ∙ ap (option_map non_zero_usize_get) c.in-Some.is))

pub set_prev-requires-clause-free : goal.set_prev-requires-clause-free
set_prev-requires-clause-free g c =
    slot_free (g.S.NonZeroInxGenericStack.items c.args.slots.now) (non_zero_usize_get c.in-Some.i)
    c.item_mut.result.now c.in-Some.i.ok c.item_mut.ensures.value
    (c.requires.free (non_zero_usize_get c.in-Some.i)
    (sym c.place_of.ensures ∙ ap (option_map non_zero_usize_get) c.in-Some.is))

pub returns-in-Some-clause-links : goal.returns-in-Some-clause-links
returns-in-Some-clause-links g c =
    prev_written _ _ (sym c.place_of.ensures ∙ ap (option_map non_zero_usize_get) c.in-Some.is)
    c.in-Some.i.ok c.item_mut.ensures.value c.set_prev.ensures
    (g.met.S.NonZeroInxGenericStack.items_with_items c.args.slots.now
    (with_item (g.S.NonZeroInxGenericStack.items c.args.slots.now) (non_zero_usize_get c.in-Some.i)
    c.set_prev.new.self))

pub returns-in-Some-clause-entries : goal.returns-in-Some-clause-entries
returns-in-Some-clause-entries g c =
    entries-prev _ (non_zero_usize_get c.in-Some.i) _ c.item_mut.ensures.value c.set_prev.ensures
    (g.met.S.NonZeroInxGenericStack.items_with_items c.args.slots.now
    (with_item (g.S.NonZeroInxGenericStack.items c.args.slots.now) (non_zero_usize_get c.in-Some.i)
    c.set_prev.new.self))

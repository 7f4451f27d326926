use Rattle.std.proofs.Common.{sym, ap, refl, ◌∙◌}
use Rattle.std.specs.Int.NonZero.{non_zero_usize_get}
use Rattle.std.specs.Option.{option_map}
use Rattle.triple_arena_stack.specs.Stack.{with_item}
use Rattle.triple_arena.specs.ArenaRoom.{room_of}
use Rattle.triple_arena.specs.Slot.{with_slot_value}
use Rattle.triple_arena.proofs.FreeListLemmas.{rewritten, the_some, entry_of_slot, value_some}
use Rattle.triple_arena.proofs.FreeListLemmas.{live_within}
use Rattle.triple_arena.proofs.FreeListLemmas.{value_of_entry}
use Rattle.triple_arena.proofs.arena.reading.ArenaValueAtMut.value_at_mut.Goals as goal

pub item_mut-requires : goal.item_mut-requires
item_mut-requires g c = live_within _ _ c.self.view_is c.requires.used

pub value_mut-requires-clause-used : goal.value_mut-requires-clause-used
value_mut-requires-clause-used g c =
    value_some _ (rw (entry_of_slot _ _ c.self.view_is c.args.i.ok (sym c.item_mut.ensures.value))
    at c.requires.used)

pub invariant_of-self-lent : goal.invariant_of-self-lent
invariant_of-self-lent g c w =
    let live = the_some _ c.requires.used in
    (rewritten _ w c.self.invariant c.self.view_is live.1 (sym c.item_mut.ensures.value)
    (g.met.S.NonZeroInxGenericStack.items_with_items c.self.inside.slots
    (with_item (g.S.NonZeroInxGenericStack.items c.self.inside.slots) (non_zero_usize_get c.args.i)
    (with_slot_value c.item_mut.result.now w)))
    (ap (room_of g.P.Inx.PtrInxCore.greatest)
    (g.met.S.NonZeroInxGenericStack.room_with_items c.self.inside.slots
    (with_item (g.S.NonZeroInxGenericStack.items c.self.inside.slots) (non_zero_usize_get c.args.i)
    (with_slot_value c.item_mut.result.now w))))).sound

pub returns : goal.returns
returns g c =
    let live = the_some _ c.requires.used in (
      (
        refl,
        λ w.
            (rewritten _ w c.self.invariant c.self.view_is live.1 (sym c.item_mut.ensures.value)
            (g.met.S.NonZeroInxGenericStack.items_with_items c.self.inside.slots
            (with_item (g.S.NonZeroInxGenericStack.items c.self.inside.slots)
            (non_zero_usize_get c.args.i) (with_slot_value c.item_mut.result.now w)))
            (ap (room_of g.P.Inx.PtrInxCore.greatest)
            (g.met.S.NonZeroInxGenericStack.room_with_items c.self.inside.slots
            (with_item (g.S.NonZeroInxGenericStack.items c.self.inside.slots)
            (non_zero_usize_get c.args.i)
            (with_slot_value c.item_mut.result.now w))))).content,
      ),
      record {
        writes_back = tt;
        value = ap (option_map (λ e. e.1))
            (entry_of_slot _ _ c.self.view_is c.args.i.ok (sym c.item_mut.ensures.value))
            ∙ value_of_entry _
            ∙ c.value_mut.ensures.value;
      },
    )

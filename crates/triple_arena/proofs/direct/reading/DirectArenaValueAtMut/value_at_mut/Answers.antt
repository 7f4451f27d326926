use Rattle.std.proofs.Common.{ap, refl, ◌∙◌}
use Rattle.std.specs.Int.NonZero.{non_zero_usize_get}
use Rattle.std.specs.Option.{option_map}
use Rattle.triple_arena_stack.specs.Stack.{with_item}
use Rattle.triple_arena.specs.ArenaRoom.{room_of}
use Rattle.triple_arena.specs.DirectSlot.{with_slot_value}
use Rattle.triple_arena.proofs.DirectLemmas.{written, held_at, value_some, live_within}
use Rattle.triple_arena.proofs.direct.reading.DirectArenaValueAtMut.value_at_mut.Goals as goal

pub item_mut-requires : goal.item_mut-requires
item_mut-requires g c = live_within _ c.self.view_is c.requires.used

pub value_mut-requires-clause-used : goal.value_mut-requires-clause-used
value_mut-requires-clause-used g c =
    value_some _ (rw (held_at _ c.self.view_is c.args.i.ok c.item_mut.ensures.value) at
    c.requires.used)

pub invariant_of-self-lent : goal.invariant_of-self-lent
invariant_of-self-lent g c w =
    (written _ w c.self.invariant c.self.view_is c.args.i.ok c.item_mut.ensures.value
    (g.met.S.NonZeroInxGenericStack.items_with_items c.self.inside.slots
    (with_item (g.S.NonZeroInxGenericStack.items c.self.inside.slots) (non_zero_usize_get c.args.i)
    (with_slot_value c.item_mut.result.now w)))
    (ap (room_of g.P.Inx.PtrInxCore.greatest)
    (g.met.S.NonZeroInxGenericStack.room_with_items c.self.inside.slots
    (with_item (g.S.NonZeroInxGenericStack.items c.self.inside.slots) (non_zero_usize_get c.args.i)
    (with_slot_value c.item_mut.result.now w))))).sound

pub returns : goal.returns
returns g c = (
  (
    refl,
    λ w.
        (written _ w c.self.invariant c.self.view_is c.args.i.ok c.item_mut.ensures.value
        (g.met.S.NonZeroInxGenericStack.items_with_items c.self.inside.slots
        (with_item (g.S.NonZeroInxGenericStack.items c.self.inside.slots)
        (non_zero_usize_get c.args.i) (with_slot_value c.item_mut.result.now w)))
        (ap (room_of g.P.Inx.PtrInxCore.greatest)
        (g.met.S.NonZeroInxGenericStack.room_with_items c.self.inside.slots
        (with_item (g.S.NonZeroInxGenericStack.items c.self.inside.slots)
        (non_zero_usize_get c.args.i)
        (with_slot_value c.item_mut.result.now w))))).content,
  ),
  record {
    writes_back = tt;
    value = ap (option_map (λ e. e.1))
        (held_at _ c.self.view_is c.args.i.ok c.item_mut.ensures.value) ∙ c.value_mut.ensures.value;
  },
)

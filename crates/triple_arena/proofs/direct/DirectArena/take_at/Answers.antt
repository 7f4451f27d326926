use Rattle.std.proofs.Common.{IsSome, sym, ap, subst, ◌∙◌}
use Rattle.std.specs.Int.NonZero.{non_zero_usize_get}
use Rattle.triple_arena_stack.specs.Stack.{with_item}
use Rattle.triple_arena.specs.ArenaRoom.{room_of}
use Rattle.triple_arena.proofs.DirectLemmas.{freed, held_at, live_within}
use Rattle.triple_arena.proofs.direct.DirectArena.take_at.Goals as goal

pub item_mut-requires : goal.item_mut-requires
item_mut-requires g c = live_within _ c.self.view_is c.requires

pub into_entry-requires-clause-used : goal.into_entry-requires-clause-used
into_entry-requires-clause-used g c =
    subst IsSome (held_at _ c.self.view_is c.args.i.ok c.item_mut.ensures.value
    ∙ sym c.replace-slot.ensures.value) c.requires

pub invariant_of-self : goal.invariant_of-self
invariant_of-self g c =
    (freed _ c.self.invariant c.self.view_is c.requires
    (c.replace-slot.ensures.after ∙ c.free.ensures)
    (g.met.S.NonZeroInxGenericStack.items_with_items c.self.inside.slots
    (with_item (g.S.NonZeroInxGenericStack.items c.self.inside.slots) (non_zero_usize_get c.args.i)
    c.replace-slot.new.dest))
    (ap (room_of g.P.Inx.PtrInxCore.greatest)
    (g.met.S.NonZeroInxGenericStack.room_with_items c.self.inside.slots
    (with_item (g.S.NonZeroInxGenericStack.items c.self.inside.slots) (non_zero_usize_get c.args.i)
    c.replace-slot.new.dest)))).sound

pub returns-clause-entry : goal.returns-clause-entry
returns-clause-entry g c =
    c.into_entry.ensures ∙ c.replace-slot.ensures.value
    ∙ sym (held_at _ c.self.view_is c.args.i.ok c.item_mut.ensures.value)

use Rattle.std.proofs.Common.{ap}
use Rattle.std.specs.Int.NonZero.{non_zero_usize_get}
use Rattle.triple_arena_stack.specs.Stack.{with_item}
use Rattle.triple_arena.specs.ArenaRoom.{room_of}
use Rattle.triple_arena.proofs.DirectLemmas.{renewed, live_within}
use Rattle.triple_arena.proofs.direct.DirectArena.renew_at.Goals as goal

pub item_mut-requires : goal.item_mut-requires
item_mut-requires g c = live_within _ c.self.view_is c.requires

pub invariant_of-self : goal.invariant_of-self
invariant_of-self g c =
    (renewed _ _ c.self.invariant c.self.view_is c.args.i.ok c.item_mut.ensures.value
    c.set_generation.ensures
    (g.met.S.NonZeroInxGenericStack.items_with_items c.self.inside.slots
    (with_item (g.S.NonZeroInxGenericStack.items c.self.inside.slots) (non_zero_usize_get c.args.i)
    c.set_generation.new.self))
    (ap (room_of g.P.Inx.PtrInxCore.greatest)
    (g.met.S.NonZeroInxGenericStack.room_with_items c.self.inside.slots
    (with_item (g.S.NonZeroInxGenericStack.items c.self.inside.slots) (non_zero_usize_get c.args.i)
    c.set_generation.new.self)))).sound

pub returns-clause-value : goal.returns-clause-value
returns-clause-value g c =
    (renewed _ _ c.self.invariant c.self.view_is c.args.i.ok c.item_mut.ensures.value
    c.set_generation.ensures
    (g.met.S.NonZeroInxGenericStack.items_with_items c.self.inside.slots
    (with_item (g.S.NonZeroInxGenericStack.items c.self.inside.slots) (non_zero_usize_get c.args.i)
    c.set_generation.new.self))
    (ap (room_of g.P.Inx.PtrInxCore.greatest)
    (g.met.S.NonZeroInxGenericStack.room_with_items c.self.inside.slots
    (with_item (g.S.NonZeroInxGenericStack.items c.self.inside.slots) (non_zero_usize_get c.args.i)
    c.set_generation.new.self)))).content

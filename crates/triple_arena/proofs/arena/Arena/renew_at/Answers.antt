use Rattle.std.proofs.Common.{ap, ◌∙◌}
use Rattle.std.specs.Int.NonZero.{non_zero_usize_get}
use Rattle.triple_arena_stack.specs.Stack.{with_item}
use Rattle.triple_arena.specs.ArenaRoom.{room_of}
use Rattle.triple_arena.specs.Content.{with_generation}
use Rattle.triple_arena.proofs.FreeListLemmas.{renewed, the_some, live_within}
use Rattle.triple_arena.proofs.arena.Arena.renew_at.Goals as goal

pub item_mut-requires : goal.item_mut-requires
item_mut-requires g c = live_within _ _ c.self.view_is c.requires

pub invariant_of-self : goal.invariant_of-self
invariant_of-self g c =
    let live = the_some _ c.requires in
    (renewed _ _ c.self.invariant c.self.view_is live.1 c.item_mut.ensures.value
    c.set_generation.ensures
    (g.met.S.NonZeroInxGenericStack.items_with_items c.self.inside.slots
    (with_item (g.S.NonZeroInxGenericStack.items c.self.inside.slots) (non_zero_usize_get c.args.i)
    c.set_generation.new.self))
    (ap (room_of g.P.Inx.PtrInxCore.greatest)
    (g.met.S.NonZeroInxGenericStack.room_with_items c.self.inside.slots
    (with_item (g.S.NonZeroInxGenericStack.items c.self.inside.slots) (non_zero_usize_get c.args.i)
    c.set_generation.new.self)))).sound

pub returns-clause-value : goal.returns-clause-value
returns-clause-value g c =
    let live = the_some _ c.requires in
    (renewed _ _ c.self.invariant c.self.view_is live.1 c.item_mut.ensures.value
    c.set_generation.ensures
    (g.met.S.NonZeroInxGenericStack.items_with_items c.self.inside.slots
    (with_item (g.S.NonZeroInxGenericStack.items c.self.inside.slots) (non_zero_usize_get c.args.i)
    c.set_generation.new.self))
    (ap (room_of g.P.Inx.PtrInxCore.greatest)
    (g.met.S.NonZeroInxGenericStack.room_with_items c.self.inside.slots
    (with_item (g.S.NonZeroInxGenericStack.items c.self.inside.slots) (non_zero_usize_get c.args.i)
    c.set_generation.new.self)))).content
    ∙ ap (λ x. with_generation c.args.self.now (non_zero_usize_get c.args.i) x.counter)
    c.self.view_is

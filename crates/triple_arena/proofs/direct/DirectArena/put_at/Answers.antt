use Rattle.std.proofs.Common.{ap, sym, ◌∙◌, rules}
use Rattle.std.specs.Int.NonZero.{non_zero_usize_get}
use Rattle.triple_arena_stack.specs.Stack.{with_item}
use Rattle.triple_arena.specs.ArenaRoom.{room_of}
use Rattle.triple_arena.specs.DirectContent.{reaching}
use Rattle.triple_arena.proofs.DirectLemmas.{put, one_more}
use Rattle.triple_arena.proofs.direct.DirectArena.put_at.Goals as goal

pub overflow_add-self : goal.overflow_add-self
overflow_add-self g c =
    let room = ap (room_of g.P.Inx.PtrInxCore.greatest)
    (g.met.S.NonZeroInxGenericStack.room_with_items c.reach.new.slots
    (with_item (g.S.NonZeroInxGenericStack.items c.reach.new.slots) (non_zero_usize_get c.args.i)
    c.used.result)
    ∙ c.reach.ensures.room) in
    let left = put c.self.invariant c.self.view_is c.requires
    (c.reach.ensures.slots
    ∙ ap (λ n. reaching n (g.S.NonZeroInxGenericStack.items c.self.inside.slots))
    c.get.ensures.value) c.used.ensures
    (g.met.S.NonZeroInxGenericStack.items_with_items c.reach.new.slots
    (with_item (g.S.NonZeroInxGenericStack.items c.reach.new.slots) (non_zero_usize_get c.args.i)
    c.used.result)) room in
    let fits = one_more _ c.args.self.now left room c.own_capacity.ensures.value
    (ap (λ d. d.room) (sym c.self.view_is)) in
    Prim.search rules

pub invariant_of-self : goal.invariant_of-self
invariant_of-self g c =
    let room = ap (room_of g.P.Inx.PtrInxCore.greatest)
    (g.met.S.NonZeroInxGenericStack.room_with_items c.reach.new.slots
    (with_item (g.S.NonZeroInxGenericStack.items c.reach.new.slots) (non_zero_usize_get c.args.i)
    c.used.result)
    ∙ c.reach.ensures.room) in
    (put c.self.invariant c.self.view_is c.requires
    (c.reach.ensures.slots
    ∙ ap (λ n. reaching n (g.S.NonZeroInxGenericStack.items c.self.inside.slots))
    c.get.ensures.value) c.used.ensures
    (g.met.S.NonZeroInxGenericStack.items_with_items c.reach.new.slots
    (with_item (g.S.NonZeroInxGenericStack.items c.reach.new.slots) (non_zero_usize_get c.args.i)
    c.used.result)) room).sound

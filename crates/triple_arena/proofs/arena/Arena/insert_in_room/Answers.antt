use Rattle.std.proofs.Common.{◌+◌, Some, sym, ap, refl, ◌∙◌, rules}
use Rattle.std.specs.Int.NonZero.{non_zero_usize_get}
use Rattle.std.specs.Option.{option_map}
use Rattle.triple_arena_stack.specs.Stack.{with_item}
use Rattle.triple_arena.specs.ArenaRoom.{room_of}
use Rattle.triple_arena.specs.Content.{inserted}
use Rattle.linked_lists.specs.LinkedLists.{with_prev_if}
use Rattle.triple_arena.specs.Layout.{links_at}
use Rattle.triple_arena.proofs.FreeListLemmas.{filled, head_within, head_links, next_free, pushed}
use Rattle.triple_arena.proofs.FreeListLemmas.{room_behind, head_fits, Becomes}
use Rattle.triple_arena.proofs.arena.Arena.insert_in_room.Goals.{After-set_prev_at, In-Ok}
use Rattle.triple_arena.proofs.arena.Arena.insert_in_room.Goals as goal

pub place_of-requires-clause-fits : goal.place_of-requires-clause-fits
place_of-requires-clause-fits g c =
    head_fits c.self.inside.head c.len.ensures.value c.len.type_inv
    c.self.invariant

pub item_mut-requires : goal.item_mut-requires
item_mut-requires g c =
    head_within (sym c.place_of.ensures ∙ ap (option_map non_zero_usize_get) c.in-Some.is)
    c.self.invariant

pub into_next-next-requires-clause-free : goal.into_next-next-requires-clause-free
into_next-next-requires-clause-free g c =
    head_links (sym c.place_of.ensures ∙ ap (option_map non_zero_usize_get) c.in-Some.is)
    c.self.invariant
    (sym c.item_mut.ensures.value ∙ ap Some (sym c.replace-old.ensures.value))

pub set_prev_at-requires-clause-free : goal.set_prev_at-requires-clause-free
set_prev_at-requires-clause-free g c =
    next_free c.replace-old.new.dest
    (sym c.place_of.ensures ∙ ap (option_map non_zero_usize_get) c.in-Some.is) c.self.invariant
    (sym c.item_mut.ensures.value ∙ ap Some (sym c.replace-old.ensures.value))
    (c.into_next-next.ensures)
    (g.met.S.NonZeroInxGenericStack.items_with_items c.self.inside.slots
    (with_item (g.S.NonZeroInxGenericStack.items c.self.inside.slots)
    (non_zero_usize_get c.in-Some.index) c.replace-old.new.dest))

pub pointer_at-requires-clause-fits : goal.pointer_at-requires-clause-fits
pointer_at-requires-clause-fits g c =
    let within = head_within
    (sym c.place_of.ensures ∙ ap (option_map non_zero_usize_get) c.in-Some.is) c.self.invariant in
    let fits = c.self.invariant.fits in
    Prim.search rules

pub pointer_at-requires-in-Ok-clause-fits : goal.pointer_at-requires-in-Ok-clause-fits
pointer_at-requires-in-Ok-clause-fits g c =
    let room = room_behind
    (sym c.place_of.ensures ∙ ap (option_map non_zero_usize_get) c.in-None.is) c.self.invariant
    c.self.view_is c.requires in
    Prim.search rules

-- the entry is in the first free slot
in_place : (g : _) (c : After-set_prev_at g)
    → Becomes (g.S.NonZeroInxGenericStack.items c.set_prev_at.new.slots) (c.self.inside.len + 1)
    c.into_next-next.result
    (room_of g.P.Inx.PtrInxCore.greatest (g.S.NonZeroInxGenericStack.room c.set_prev_at.new.slots))
    (g.P.Gen.PtrGenCore.number c.self.inside.counter) (inserted c.args.self.now c.args.t)
in_place g c =
    let old = c.self.inside.slots in
    let items = with_item (g.S.NonZeroInxGenericStack.items old)
    (non_zero_usize_get c.in-Some.index) c.replace-old.new.dest in
    let written = g.S.NonZeroInxGenericStack.with_items old items in
    filled (sym c.place_of.ensures ∙ ap (option_map non_zero_usize_get) c.in-Some.is)
    c.self.invariant (sym c.item_mut.ensures.value ∙ ap Some (sym c.replace-old.ensures.value))
    (c.into_next-next.ensures) (g.met.S.NonZeroInxGenericStack.items_with_items old items)
    (c.replace-old.ensures.after ∙ c.used-slot.ensures)
    (λ j. c.set_prev_at.ensures.links j
    ∙ ap (λ o. with_prev_if (links_at (g.S.NonZeroInxGenericStack.items written))
    c.into_next-next.result o j)
    c.none.ensures)
    c.set_prev_at.ensures.entries refl
    (ap (room_of g.P.Inx.PtrInxCore.greatest)
    (c.set_prev_at.ensures.room ∙ g.met.S.NonZeroInxGenericStack.room_with_items old items))
    c.self.view_is

-- or in a new slot
behind : (g : _) (c : In-Ok g)
    → Becomes (g.S.NonZeroInxGenericStack.items c.push_within_capacity.new.self)
    (c.self.inside.len + 1) c.self.inside.head
    (room_of g.P.Inx.PtrInxCore.greatest
    (g.S.NonZeroInxGenericStack.room c.push_within_capacity.new.self))
    (g.P.Gen.PtrGenCore.number c.self.inside.counter) (inserted c.args.self.now c.args.t)
behind g c =
    pushed (sym c.place_of.ensures ∙ ap (option_map non_zero_usize_get) c.in-None.is)
    c.self.invariant c.requires c.in-Ok.ensures.items c.used-slot.ensures
    (ap (room_of g.P.Inx.PtrInxCore.greatest) c.push_within_capacity.ensures.room) c.self.view_is

pub invariant_of-self : goal.invariant_of-self
invariant_of-self g c = (in_place g (goal.at.invariant_of-self g c).After-set_prev_at).sound

pub invariant_of-self-in-Ok : goal.invariant_of-self-in-Ok
invariant_of-self-in-Ok g c = (behind g (goal.at.invariant_of-self-in-Ok g c).In-Ok).sound

pub returns-in-Some-clause-value : goal.returns-in-Some-clause-value
returns-in-Some-clause-value g c =
    (in_place g (goal.at.returns-in-Some-clause-value g c).After-set_prev_at).content

pub returns-in-Ok-clause-value : goal.returns-in-Ok-clause-value
returns-in-Ok-clause-value g c =
    (behind g (goal.at.returns-in-Ok-clause-value g c).In-Ok).content

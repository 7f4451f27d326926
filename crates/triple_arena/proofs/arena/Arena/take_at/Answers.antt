use Rattle.std.proofs.Common.{Some, ◌-◌, length, sym, ap, ◌∙◌, length-set}
use Rattle.std.specs.Int.NonZero.{non_zero_usize_get}
use Rattle.triple_arena_stack.specs.Stack.{with_item}
use Rattle.triple_arena.specs.ArenaRoom.{room_of}
use Rattle.triple_arena.specs.Slot.{free}
use Rattle.triple_arena.specs.Content.{vacated}
use Rattle.triple_arena.proofs.FreeListLemmas.{popped, freed, head_free, the_some, entry_of_slot}
use Rattle.triple_arena.proofs.FreeListLemmas.{live_within, Leaves}
use Rattle.triple_arena.proofs.arena.Arena.take_at.Given.{Over}
use Rattle.triple_arena.proofs.arena.Arena.take_at.Goals.{then-get-len, else-get-len}
use Rattle.triple_arena.proofs.arena.Arena.take_at.Goals as goal

pub item_mut-requires : goal.item_mut-requires
item_mut-requires g c = live_within _ _ c.self.view_is c.requires

pub set_prev_at-requires-clause-free : goal.set_prev_at-requires-clause-free
set_prev_at-requires-clause-free g c =
    head_free (non_zero_usize_get c.args.i) c.replace-slot.new.dest c.self.invariant c.self.view_is
    (the_some _ c.requires).1
    (g.met.S.NonZeroInxGenericStack.items_with_items c.self.inside.slots
    (with_item (g.S.NonZeroInxGenericStack.items c.self.inside.slots) (non_zero_usize_get c.args.i)
    c.replace-slot.new.dest))

pub into_entry-requires-clause-used : goal.into_entry-requires-clause-used
into_entry-requires-clause-used g c =
    rw (← entry_of_slot _ _ c.self.view_is c.args.i.ok
    (sym c.item_mut.ensures.value ∙ ap Some (sym c.replace-slot.ensures.value))) c.requires

-- on both ways the slots are sound, and seen as without the entry
left : (g : Over) (c : goal.After-into_entry g)
    → Leaves (g.S.NonZeroInxGenericStack.items c.if-get-len.self-inside.slots)
    (c.if-get-len.self-inside.len - 1)
    c.if-get-len.self-inside.head
    (room_of g.P.Inx.PtrInxCore.greatest
    (g.S.NonZeroInxGenericStack.room c.if-get-len.self-inside.slots))
    (g.P.Gen.PtrGenCore.number c.if-get-len.self-inside.counter)
    (vacated c.args.self.now (non_zero_usize_get c.args.i))
left g c =
    let live = the_some _ c.requires in
    let slots = c.self.inside.slots in
    let items = with_item (g.S.NonZeroInxGenericStack.items slots) (non_zero_usize_get c.args.i)
    c.replace-slot.new.dest in
    let written = g.met.S.NonZeroInxGenericStack.items_with_items slots items in
    let room = g.met.S.NonZeroInxGenericStack.room_with_items slots items in
    let count = c.len.ensures.value ∙ ap length written
    ∙ length-set (g.S.NonZeroInxGenericStack.items slots) (non_zero_usize_get c.args.i - 1)
    c.replace-slot.new.dest in
    elim c.if-get-len.branch [
      | then-get-len w ↦
          rw w.self-inside-is
          (popped c.replace-slot.new.dest w.pop.result c.self.invariant
          (sym c.get.ensures.value ∙ w.if-get-len.true ∙ count)
          c.self.view_is live.1 written w.pop.ensures.items w.pop.ensures.variant.1
          (ap (room_of g.P.Inx.PtrInxCore.greatest) (w.pop.ensures.room ∙ room)))
      | else-get-len w ↦
          rw w.self-inside-is
          (freed c.self.invariant
          (λ last. w.if-get-len.false (c.get.ensures.value ∙ last ∙ sym count))
          c.self.view_is live.1 written
          (c.replace-slot.ensures.after ∙ c.free-free.ensures
          ∙ ap (λ o. free o c.self.inside.head) c.none.ensures)
          w.free_at-first.ensures
          w.set_prev_at.ensures.links w.set_prev_at.ensures.entries
          (ap (room_of g.P.Inx.PtrInxCore.greatest) (w.set_prev_at.ensures.room ∙ room)))
    ]

pub invariant_of-self : goal.invariant_of-self
invariant_of-self g c = (left g c).sound

pub returns-clause-value : goal.returns-clause-value
returns-clause-value g c = (left g c).content

pub returns-clause-entry : goal.returns-clause-entry
returns-clause-entry g c =
    c.into_entry.ensures
    ∙ sym (entry_of_slot _ _ c.self.view_is c.args.i.ok
    (sym c.item_mut.ensures.value ∙ ap Some (sym c.replace-slot.ensures.value)))

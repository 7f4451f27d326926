use Rattle.std.proofs.Common.{sym, ap, ◌∙◌}
use Rattle.triple_arena.specs.ArenaRoom.{room_of}
use Rattle.triple_arena.specs.Layout.{without_last}
use Rattle.triple_arena.specs.Layout.{links_at}
use Rattle.triple_arena.proofs.FreeListLemmas.{Becomes}
use Rattle.triple_arena.proofs.FreeSlotsLemmas.{last_popped, last_live, last_vacant, prev_free}
use Rattle.triple_arena.proofs.FreeSlotsLemmas.{next_free, has_last}
use Rattle.triple_arena.proofs.arena.Arena.pop_free_slot.Goals.{After-pop}
use Rattle.triple_arena.proofs.arena.Arena.pop_free_slot.Goals as goal

pub returns-in_default-links_in-clause-live : goal.returns-in_default-links_in-clause-live
returns-in_default-links_in-clause-live g c _ =
    last_live _ _ c.self.view_is
    (ap (links_at (g.S.NonZeroInxGenericStack.items c.self.inside.slots))
    (sym (c.in-Some.ensures ∙ c.len.ensures.value))
    ∙ sym c.links_in.ensures
    ∙ c.in_default-links_in.is)

pub set_next_at-requires-clause-free : goal.set_next_at-requires-clause-free
set_next_at-requires-clause-free g c =
    prev_free _ c.self.invariant
    (sym c.in-Some-links_in.is ∙ c.links_in.ensures)

pub set_prev_at-requires-clause-free : goal.set_prev_at-requires-clause-free
set_prev_at-requires-clause-free g c =
    next_free _ _ c.self.invariant
    (sym c.in-Some-links_in.is ∙ c.links_in.ensures)
    c.set_next_at.ensures.links

-- what the last slot leaves
popped : (g : _) (c : After-pop g)
    → Becomes (g.S.NonZeroInxGenericStack.items c.pop.new.self) c.self.inside.len
    c.head_without-self-inside.result
    (room_of g.P.Inx.PtrInxCore.greatest (g.S.NonZeroInxGenericStack.room c.pop.new.self))
    (g.P.Gen.PtrGenCore.number c.self.inside.counter) (without_last c.args.self.now)
popped g c =
    last_popped (g.S.NonZeroInxGenericStack.items c.set_next_at.new.slots) c.pop.result
    c.self.invariant c.self.view_is (c.in-Some.ensures ∙ c.len.ensures.value)
    (sym c.in-Some-links_in.is ∙ c.links_in.ensures)
    c.set_next_at.ensures.links c.set_next_at.ensures.entries c.set_prev_at.ensures.links
    c.set_prev_at.ensures.entries
    c.head_without-self-inside.ensures
    (c.pop.ensures.variant.1
    (has_last _ _ _ (c.in-Some.ensures ∙ c.len.ensures.value) c.in-Some.last.ok
    c.set_next_at.ensures.entries c.set_prev_at.ensures.entries)) c.pop.ensures.items
    (ap (room_of g.P.Inx.PtrInxCore.greatest)
    (c.pop.ensures.room ∙ c.set_prev_at.ensures.room ∙ c.set_next_at.ensures.room))

pub invariant_of-self : goal.invariant_of-self
invariant_of-self g c = (popped g (goal.at.invariant_of-self g c).After-pop).sound

pub returns-clause-popped : goal.returns-clause-popped
returns-clause-popped g c _ = (popped g (goal.at.returns-clause-popped g c).After-pop).content

pub returns-clause-free : goal.returns-clause-free
returns-clause-free g c _ =
    last_vacant _ _ c.self.view_is (c.in-Some.ensures ∙ c.len.ensures.value)
    (sym c.in-Some-links_in.is ∙ c.links_in.ensures)

use Rattle.std.specs.Prelude.{OnOk}
use Rattle.std.proofs.Common.{ap, ◌∙◌, None, subst}
use Rattle.triple_arena_stack.specs.Room.{room_after}
use Rattle.linked_lists.specs.LinkedLists.{first_or, last_or}
use Rattle.triple_arena_ord.specs.Growth.{IsInRoom}
use Rattle.triple_arena_ord.specs.Ordered.{Ordered, size_in, ordered_by}
use Rattle.triple_arena_ord.proofs.GrowthLemmas.{still_ordered, same_order, ok_roomier}
use Rattle.triple_arena_ord.proofs.ord_arena.SimpleOrdArena.make_room.Goals as goal

pub invariant_of-self : goal.invariant_of-self
invariant_of-self g c =
    let number = g.P.Inx.PtrInxCore.number in
    let o : Ordered g.row.T.Denot =
    ordered_by number c.self.inside.chains c.self.inside.root in
    let d = c.make_room.new.self in
    let r = room_after (size_in o) o.chains.room in
    let order = same_order o d r c.make_room.result c.make_room.ensures.grown
    c.make_room.ensures.err in (
      still_ordered o d r c.make_room.result c.make_room.ensures.grown
          c.make_room.ensures.err c.self.invariant.0,
      c.self.invariant.1 ∙ ap (λ w. first_or w None) order,
      c.self.invariant.2 ∙ ap (last_or None) order,
    )

pub returns-clause-grown : goal.returns-clause-grown
returns-clause-grown g c =
    let number = g.P.Inx.PtrInxCore.number in
    let o : Ordered g.row.T.Denot =
    ordered_by number c.self.inside.chains c.self.inside.root in
    let d = c.make_room.new.self in
    subst (λ z. OnOk c.make_room.result
    (IsInRoom (room_after (size_in z) z.chains.room) z
    (record { chains = d; root = o.root }))) c.self.view_is
    (ok_roomier o d (room_after (size_in o) o.chains.room) c.make_room.result
    c.make_room.ensures.grown)

pub returns-clause-ordered : goal.returns-clause-ordered
returns-clause-ordered g c =
    let number = g.P.Inx.PtrInxCore.number in
    let o : Ordered g.row.T.Denot =
    ordered_by number c.self.inside.chains c.self.inside.root in
    still_ordered o c.make_room.new.self (room_after (size_in o) o.chains.room)
    c.make_room.result c.make_room.ensures.grown c.make_room.ensures.err c.self.invariant.0

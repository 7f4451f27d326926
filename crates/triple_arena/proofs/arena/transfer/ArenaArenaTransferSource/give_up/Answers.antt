use Rattle.std.proofs.Common.{sym, ap, ◌∙◌}
use Rattle.std.specs.Option.{option_map}
use Rattle.triple_arena.specs.ArenaRoom.{room_of}
use Rattle.triple_arena.specs.Drains.{drained}
use Rattle.triple_arena.specs.DrainLaws.{left-is_given_up, drained-leaves}
use Rattle.triple_arena.proofs.TakeOverLemmas.{given_up}
use Rattle.triple_arena.proofs.arena.transfer.ArenaArenaTransferSource.give_up.Goals as goal

pub returns-clause-moved : goal.returns-clause-moved
returns-clause-moved g c = rw (← c.self.view_is) c.move_entries-counter.ensures.moved

pub returns-clause-exact : goal.returns-clause-exact
returns-clause-exact g c =
    let moved = c.move_entries-counter.ensures in
    rw c.none-self-inside.ensures
    (given_up g.Q.Gen.PtrGenCore.last c.self.inside.head
    (g.R.NonZeroInxGenericStack.items c.self.inside.slots)
    c.self.view_is moved.emptied (ap (room_of g.Q.Inx.PtrInxCore.greatest) moved.from_room)
    (sym (ap (option_map g.Q.Gen.PtrGenCore.number) c.in-Some.is) ∙ moved.counter))

pub returns-clause-given_up : goal.returns-clause-given_up
returns-clause-given_up g c =
    let last = g.Q.Gen.PtrGenCore.last in
    rw (returns-clause-exact g c)
    (left-is_given_up (drained last) (drained-leaves _ last) c.args.self.now)

use Rattle.std.proofs.Common.{ap, ◌∙◌}
use Rattle.triple_arena.specs.ArenaRoom.{room_of}
use Rattle.triple_arena.proofs.DirectCopyLemmas.{copied_direct, mapped_direct}
use Rattle.triple_arena.proofs.direct.DirectArena.become_copy.Goals as goal

pub returns-in-Ok-clause-mapped : goal.returns-in-Ok-clause-mapped
returns-in-Ok-clause-mapped g c =
    mapped_direct _ _ _ (g.S.NonZeroInxGenericStack.items c.append_copies.new.slots)
    c.in-Ok.ensures.mapped

pub returns-in-Ok-clause-exact : goal.returns-in-Ok-clause-exact
returns-in-Ok-clause-exact g c =
    copied_direct _ _ _ g.E.LentEntry.shown c.args.source.now c.args.self.now _
    c.in-Ok.ensures.mapped c.in-Ok.ensures.slots c.requires.last
    c.requires.fits
    (ap (room_of g.P.Inx.PtrInxCore.greatest) c.append_copies.ensures.room
    ∙ ap (λ x. x.room) (c.self.view_is ∙ c.empty.ensures.value))

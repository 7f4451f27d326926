use Rattle.std.proofs.Common.{ap, ◌∙◌}
use Rattle.std.specs.Prelude.{unwrap_or}
use Rattle.std.specs.Option.{option_map}
use Rattle.triple_arena.specs.ArenaRoom.{room_of}
use Rattle.triple_arena.proofs.CopyLemmas.{copied_arena, number_or}
use Rattle.triple_arena.proofs.arena.Arena.become_copy.Goals as goal

pub invariant_of-self : goal.invariant_of-self
invariant_of-self g c =
    (copied_arena _ _ _ g.E.LentEntry.shown c.args.source.now c.args.self.now
    (option_map g.P.Gen.PtrGenCore.number c.args.counter) _ _
    c.in-Ok.ensures.mapped c.in-Ok.ensures.slots c.requires.last c.in-Ok.ensures.live
    c.link_free-self-inside.ensures.entries
    c.link_free-self-inside.ensures.listed c.requires.fits
    (ap (room_of g.P.Inx.PtrInxCore.greatest)
    (c.link_free-self-inside.ensures.room ∙ c.append_copies.ensures.room)
    ∙ ap (λ x. x.room) (c.self-2.view_is ∙ c.empty.ensures.value))
    (ap g.P.Gen.PtrGenCore.number c.unwrap_or-counter.ensures
    ∙ number_or g.P.Gen.PtrGenCore.number c.args.counter c.self.inside.counter
    ∙ ap (λ x. unwrap_or (option_map g.P.Gen.PtrGenCore.number c.args.counter) x.counter)
    c.self.view_is)).sound

pub returns-in-Ok-clause-mapped : goal.returns-in-Ok-clause-mapped
returns-in-Ok-clause-mapped g c = rw c.link_free-self-inside.ensures.entries c.in-Ok.ensures.mapped

pub returns-in-Ok-clause-exact : goal.returns-in-Ok-clause-exact
returns-in-Ok-clause-exact g c =
    (copied_arena _ _ _ g.E.LentEntry.shown c.args.source.now c.args.self.now
    (option_map g.P.Gen.PtrGenCore.number c.args.counter) _ _
    c.in-Ok.ensures.mapped c.in-Ok.ensures.slots c.requires.last c.in-Ok.ensures.live
    c.link_free-self-inside.ensures.entries
    c.link_free-self-inside.ensures.listed c.requires.fits
    (ap (room_of g.P.Inx.PtrInxCore.greatest)
    (c.link_free-self-inside.ensures.room ∙ c.append_copies.ensures.room)
    ∙ ap (λ x. x.room) (c.self-2.view_is ∙ c.empty.ensures.value))
    (ap g.P.Gen.PtrGenCore.number c.unwrap_or-counter.ensures
    ∙ number_or g.P.Gen.PtrGenCore.number c.args.counter c.self.inside.counter
    ∙ ap (λ x. unwrap_or (option_map g.P.Gen.PtrGenCore.number c.args.counter) x.counter)
    c.self.view_is)).exact

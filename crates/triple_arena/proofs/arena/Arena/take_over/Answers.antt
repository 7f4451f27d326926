use Rattle.std.proofs.Common.{ap, sym, ◌∙◌}
use Rattle.triple_arena.specs.ArenaRoom.{room_of}
use Rattle.triple_arena.proofs.TransferLemmas.{out_rowed}
use Rattle.triple_arena.proofs.TakeOverLemmas.{takes_over}
use Rattle.triple_arena.proofs.arena.Arena.take_over.Goals as goal

pub invariant_of-self : goal.invariant_of-self
invariant_of-self g c =
    let many = c.requires.counted
    ∙ sym (g.met.Source.ArenaTrait.live_entries_counted c.args.source.now) in
    let room = ap (room_of g.P.Inx.PtrInxCore.greatest)
    (c.give_up.ensures.room ∙ c.clear.ensures.room) ∙ ap (λ x. x.room) c.self.view_is in
    rw c.none-self-inside.ensures
    (takes_over c.args.self.now (out_rowed c.give_up.ensures.moved) room many
    c.requires.fits).sound

pub returns-clause-filled : goal.returns-clause-filled
returns-clause-filled g c =
    let many = c.requires.counted
    ∙ sym (g.met.Source.ArenaTrait.live_entries_counted c.args.source.now) in
    let room = ap (room_of g.P.Inx.PtrInxCore.greatest)
    (c.give_up.ensures.room ∙ c.clear.ensures.room) ∙ ap (λ x. x.room) c.self.view_is in
    rw (many, c.none-self-inside.ensures)
    (takes_over c.args.self.now (out_rowed c.give_up.ensures.moved) room many
    c.requires.fits).filled

pub returns-clause-exact : goal.returns-clause-exact
returns-clause-exact g c =
    let many = c.requires.counted
    ∙ sym (g.met.Source.ArenaTrait.live_entries_counted c.args.source.now) in
    let room = ap (room_of g.P.Inx.PtrInxCore.greatest)
    (c.give_up.ensures.room ∙ c.clear.ensures.room) ∙ ap (λ x. x.room) c.self.view_is in
    rw c.none-self-inside.ensures
    (takes_over c.args.self.now (out_rowed c.give_up.ensures.moved) room many
    c.requires.fits).exact

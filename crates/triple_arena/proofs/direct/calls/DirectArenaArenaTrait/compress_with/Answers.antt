use Rattle.std.proofs.Common.{ap, ◌∙◌}
use Rattle.triple_arena.specs.ArenaRoom.{room_of}
use Rattle.triple_arena.proofs.DirectCompressionLemmas.{compressed_arena, wraps_told}
use Rattle.triple_arena.proofs.direct.calls.DirectArenaArenaTrait.compress_with.Goals as goal

pub invariant_of-self : goal.invariant_of-self
invariant_of-self g c =
    (compressed_arena _ _ _ c.compact-wrapped.ensures.moved c.self.invariant c.self.view_is
    (ap (room_of g.P.Inx.PtrInxCore.greatest) c.compact-wrapped.ensures.room)).sound

pub returns-clause-overflow : goal.returns-clause-overflow
returns-clause-overflow g c = c.answer.ensures.overflow
    ∙ wraps_told _ c.compact-wrapped.ensures.wraps c.self.view_is

pub returns-clause-mapped : goal.returns-clause-mapped
returns-clause-mapped g c =
    (compressed_arena _ _ _ c.compact-wrapped.ensures.moved c.self.invariant c.self.view_is
    (ap (room_of g.P.Inx.PtrInxCore.greatest) c.compact-wrapped.ensures.room)).mapped

pub returns-clause-compressed : goal.returns-clause-compressed
returns-clause-compressed g c =
    (compressed_arena _ _ _ c.compact-wrapped.ensures.moved c.self.invariant c.self.view_is
    (ap (room_of g.P.Inx.PtrInxCore.greatest) c.compact-wrapped.ensures.room)).compressed

pub returns-clause-exact : goal.returns-clause-exact
returns-clause-exact g c =
    (compressed_arena _ _ _ c.compact-wrapped.ensures.moved c.self.invariant c.self.view_is
    (ap (room_of g.P.Inx.PtrInxCore.greatest) c.compact-wrapped.ensures.room)).exact

use Rattle.std.proofs.Common.{ap}
use Rattle.triple_arena.specs.ArenaRoom.{room_of}
use Rattle.triple_arena.proofs.CompressionLemmas.{compressed_arena}
use Rattle.triple_arena.proofs.arena.calls.ArenaArenaTrait.compress_with.Goals as goal

pub invariant_of-self : goal.invariant_of-self
invariant_of-self g c =
    rw c.none-self-inside.ensures
    (compressed_arena c.compact.ensures.moved c.self.invariant c.self.view_is
    (ap (room_of g.P.Inx.PtrInxCore.greatest) c.compact.ensures.room)
    c.renewal-generation.ensures.next).sound

pub returns-clause-compressed : goal.returns-clause-compressed
returns-clause-compressed g c =
    rw c.none-self-inside.ensures
    (compressed_arena c.compact.ensures.moved c.self.invariant c.self.view_is
    (ap (room_of g.P.Inx.PtrInxCore.greatest) c.compact.ensures.room)
    c.renewal-generation.ensures.next).compressed

pub returns-clause-exact : goal.returns-clause-exact
returns-clause-exact g c =
    rw c.none-self-inside.ensures
    (compressed_arena c.compact.ensures.moved c.self.invariant c.self.view_is
    (ap (room_of g.P.Inx.PtrInxCore.greatest) c.compact.ensures.room)
    c.renewal-generation.ensures.next).exact

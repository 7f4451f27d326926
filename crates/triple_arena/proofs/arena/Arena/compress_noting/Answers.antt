use Rattle.std.proofs.Common.{slice_get, ap, sym, ◌∙◌, arith}
use Rattle.triple_arena.specs.ArenaRoom.{room_of}
use Rattle.triple_arena.specs.Compression.{compacted, renewed}
use Rattle.triple_arena.specs.LiveEntries.{listed_from}
use Rattle.triple_arena.proofs.CompressionLemmas.{compressed_arena, compacted_arena, values_kept}
use Rattle.triple_arena.proofs.RecasterLemmas.{is_recaster, listed-within, exact_map}
use Rattle.triple_arena.proofs.arena.Arena.compress_noting.Goals as goal

pub compact_noting-requires-clause-reaches : goal.compact_noting-requires-clause-reaches
compact_noting-requires-clause-reaches g c k entry found =
    let within = listed-within c.args.self.now k entry
    (ap (λ x. slice_get (listed_from 1 x.slots) k) (sym c.self.view_is) ∙ found) in
    omega (arith, within, c.requires.fits)

pub invariant_of-self : goal.invariant_of-self
invariant_of-self g c =
    rw c.none-self-inside.ensures
    (compressed_arena c.compact_noting.ensures.moved.moved c.self.invariant c.self.view_is
    (ap (room_of g.P.Inx.PtrInxCore.greatest) c.compact_noting.ensures.room)
    c.renewal-generation.ensures.next).sound

pub returns-clause-recaster : goal.returns-clause-recaster
returns-clause-recaster g c = rw (← c.self.view_is) (is_recaster _ _ c.compact_noting.ensures.moved)

pub returns-clause-compressed : goal.returns-clause-compressed
returns-clause-compressed g c =
    rw c.none-self-inside.ensures
    (compressed_arena c.compact_noting.ensures.moved.moved c.self.invariant c.self.view_is
    (ap (room_of g.P.Inx.PtrInxCore.greatest) c.compact_noting.ensures.room)
    c.renewal-generation.ensures.next).compressed

pub returns-clause-values : goal.returns-clause-values
returns-clause-values g c =
    let room = ap (room_of g.P.Inx.PtrInxCore.greatest) c.compact_noting.ensures.room in
    let d = compacted_arena _ _ _ _ _ _ _ _ _ _ _ _ _ c.compact_noting.ensures.moved.moved
    c.self.invariant c.self.view_is room in
    values_kept _ _ _ (λ h k from to t u s. s.0) d.mapped

pub returns-clause-exact : goal.returns-clause-exact
returns-clause-exact g c =
    rw c.none-self-inside.ensures
    (compressed_arena c.compact_noting.ensures.moved.moved c.self.invariant c.self.view_is
    (ap (room_of g.P.Inx.PtrInxCore.greatest) c.compact_noting.ensures.room)
    c.renewal-generation.ensures.next).exact
    ∙ ap (λ values. compacted (renewed g.P.Gen.PtrGenCore.last c.args.reset c.args.self.now.counter)
    values c.args.self.now)
    (returns-clause-values g c)

pub returns-clause-map_exact : goal.returns-clause-map_exact
returns-clause-map_exact g c =
    let n = c.compact_noting.ensures in
    exact_map c.args.self.now c.args.map.now _ (returns-clause-recaster g c).from n.map_ends
    n.map_room c.requires.fits

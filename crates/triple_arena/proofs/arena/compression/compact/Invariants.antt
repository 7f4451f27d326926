use Rattle.std.proofs.Common.{◌≡◌, map}
use Rattle.std.specs.Option.{option_map}
use Rattle.triple_arena.specs.SlotCompression.{generation_after, own_wraps}
use Rattle.triple_arena.proofs.CompressionLemmas.{Partly}
use Rattle.triple_arena.proofs.arena.compression.compact.Given as goal

abbrev pub invariant-loop-at : goal.invariant-loop-at
invariant-loop-at g l =
    goal.F-IsAlwaysCallable g l.map
    × Partly g.P.PtrCore.index g.P.PtrCore.generation (goal.F-step g) l.fn.map
    (generation_after g.P.Gen.PtrGenCore.last l.reset
    (option_map g.P.Gen.PtrGenCore.number l.given))
    (own_wraps g.P.Gen.PtrGenCore.last l.reset (option_map g.P.Gen.PtrGenCore.number l.given))
    (map g.L.EntrySlot.entry (g.S.NonZeroInxGenericStack.items l.fn.slots)) l.map
    (map g.L.EntrySlot.entry (g.S.NonZeroInxGenericStack.items l.slots)) l.at l.live l.wrapped
    × (g.S.NonZeroInxGenericStack.room l.slots ≡ g.S.NonZeroInxGenericStack.room l.fn.slots)

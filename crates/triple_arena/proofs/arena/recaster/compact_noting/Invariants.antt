use Rattle.std.proofs.Common.{◌≡◌, ◌≤◌, [], length, map, false}
use Rattle.triple_arena.specs.Copy.{last_listed}
use Rattle.triple_arena.specs.DirectContent.{live_entries}
use Rattle.triple_arena.specs.Slot.{entry_of}
use Rattle.triple_arena.specs.SlotRecaster.{notes}
use Rattle.triple_arena.proofs.CompressionLemmas.{Partly}
use Rattle.triple_arena.proofs.arena.recaster.compact_noting.Given as goal

abbrev pub invariant-loop-at : goal.invariant-loop-at
invariant-loop-at g l =
    Partly g.P.PtrCore.index g.P.PtrCore.generation (notes g.P.PtrCore.index g.P.PtrCore.generation)
    [] (λ _. g.P.Gen.PtrGenCore.number l.generation) (λ _. false)
    (map entry_of (g.S.NonZeroInxGenericStack.items l.fn.slots)) (live_entries l.map)
    (map entry_of (g.S.NonZeroInxGenericStack.items l.slots)) l.at l.live false
    × (length l.map.slots ≤ l.at)
    × (l.map.room ≡ l.fn.map.room)
    × (g.S.NonZeroInxGenericStack.room l.slots ≡ g.S.NonZeroInxGenericStack.room l.fn.slots)
    × (length l.map.slots ≡ last_listed (live_entries l.map))

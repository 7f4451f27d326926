use Rattle.std.proofs.Common.{◌≡◌, map}
use Rattle.std.specs.Option.{option_map}
use Rattle.triple_arena.proofs.TransferLemmas.{Partly}
use Rattle.triple_arena.proofs.transfer.move_entries.Given as goal

abbrev pub invariant-loop-at : goal.invariant-loop-at
invariant-loop-at g l =
    goal.F-IsAlwaysCallable g l.map
    × Partly g.Q.PtrCore.index g.Q.PtrCore.generation g.P.PtrCore.index g.P.PtrCore.generation
    (goal.F-step g) l.fn.map g.Q.Gen.PtrGenCore.last
    (option_map g.Q.Gen.PtrGenCore.number l.fn.counter) (g.P.Gen.PtrGenCore.number l.generation)
    (map g.K.EntrySlot.entry (g.R.NonZeroInxGenericStack.items l.fn.from)) l.map
    (map g.K.EntrySlot.entry (g.R.NonZeroInxGenericStack.items l.from))
    (map g.L.EntrySlot.entry (g.S.NonZeroInxGenericStack.items l.to))
    (option_map g.Q.Gen.PtrGenCore.number l.counter) l.at
    × (g.R.NonZeroInxGenericStack.room l.from ≡ g.R.NonZeroInxGenericStack.room l.fn.from)
    × (g.S.NonZeroInxGenericStack.room l.to ≡ g.S.NonZeroInxGenericStack.room l.fn.to)

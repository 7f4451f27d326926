use Rattle.std.proofs.Common.{map, sym, ◌∙◌, rules}
use Rattle.triple_arena.specs.LiveEntries.{listed-length}
use Rattle.triple_arena.specs.Slot.{entry_of}
use Rattle.triple_arena.proofs.arena.Arena.iter.Goals as goal

pub over-requires-clause-cursor : goal.over-requires-clause-cursor
over-requires-clause-cursor g c =
    let slots = map entry_of (g.S.NonZeroInxGenericStack.items c.self.inside.slots) in
    record {
      counted = rw c.as_slice.ensures (c.self.invariant.counted ∙ sym (listed-length 1 slots));
      indexed = search rules;
    }

use Rattle.std.proofs.Common.{sym, ◌∙◌, rules}
use Rattle.std.proofs.lemmas.List.{map-id}
use Rattle.triple_arena.specs.LiveEntries.{listed-length}
use Rattle.triple_arena.proofs.direct.DirectArena.iter.Goals as goal

pub over-requires-clause-cursor : goal.over-requires-clause-cursor
over-requires-clause-cursor g c =
    let slots = g.S.NonZeroInxGenericStack.items c.self.inside.slots in
    record {
      counted = rw (c.as_slice.ensures, map-id slots)
          (c.self.invariant.counted ∙ sym (listed-length 1 slots));
      indexed = search rules;
    }

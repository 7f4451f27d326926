use Rattle.std.proofs.Common.{◌-◌, ap, ◌∙◌, set, map}
use Rattle.std.proofs.lemmas.List.{map-set}
use Rattle.std.specs.Int.NonZero.{non_zero_usize_get}
use Rattle.triple_arena_stack.specs.Stack.{with_item}
use Rattle.triple_arena.proofs.arena.compression.take_entry.Goals as goal

pub returns-clause-slots : goal.returns-clause-slots
returns-clause-slots g c =
    ap (map g.L.EntrySlot.entry) (g.met.S.NonZeroInxGenericStack.items_with_items c.args.slots.now
    (with_item (g.S.NonZeroInxGenericStack.items c.args.slots.now) (non_zero_usize_get c.args.i)
    c.replace.new.dest))
    ∙ map-set g.L.EntrySlot.entry _ _ _
    ∙ ap (set (map g.L.EntrySlot.entry (g.S.NonZeroInxGenericStack.items c.args.slots.now))
    (non_zero_usize_get c.args.i - 1))
    (ap g.L.EntrySlot.entry c.replace.ensures.after ∙ c.vacant.ensures)

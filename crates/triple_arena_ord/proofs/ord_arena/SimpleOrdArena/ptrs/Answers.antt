use Rattle.std.proofs.Common.{sym, ◌∙◌}
use Rattle.triple_arena.specs.LiveEntries.{live_entries}
use Rattle.triple_arena_ord.proofs.IndexedLemmas.{pointers_same}
use Rattle.triple_arena_ord.proofs.ord_arena.SimpleOrdArena.ptrs.Goals as goal

pub returns : goal.returns
returns g c = rw (← c.self.view_is)
    (c.ptrs.ensures ∙ sym (pointers_same (live_entries c.self.inside.chains)))

use Rattle.std.proofs.Common.{ap}
use Rattle.std.proofs.lemmas.List.{map-id}
use Rattle.triple_arena.specs.DirectContent.{live_entries}
use Rattle.triple_arena.proofs.direct.copy.DirectArenaArenaCloneSource.lent_slots.Goals as goal

pub returns-clause-entries : goal.returns-clause-entries
returns-clause-entries g c =
    rw (c.as_slice.ensures, map-id (g.S.NonZeroInxGenericStack.items c.self.inside.slots))
    (ap live_entries c.self.view_is)

use Rattle.std.proofs.lemmas.List.{map-id}
use Rattle.triple_arena.proofs.direct.transfer.DirectArenaArenaTransferSource.give_up.Goals as goal

pub move_entries-requires-clause-fits : goal.move_entries-requires-clause-fits
move_entries-requires-clause-fits g c =
    rw (map-id (g.R.NonZeroInxGenericStack.items c.self.inside.slots))
    (rw (← c.self.view_is) at c.requires.fits)

pub move_entries-requires-clause-indexes : goal.move_entries-requires-clause-indexes
move_entries-requires-clause-indexes g c =
    rw (map-id (g.R.NonZeroInxGenericStack.items c.self.inside.slots))
    (rw (← c.self.view_is) at c.requires.indexes)

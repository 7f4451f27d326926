use Rattle.std.proofs.Common.{◌∙◌}
use Rattle.side_table.proofs.SideTableLemmas.{put_over, place_taken}
use Rattle.side_table.proofs.storing.put.Goals as goal

pub store-requires-clause-place : goal.store-requires-clause-place
store-requires-clause-place g c =
    place_taken (g.P.PtrCore.index c.args.p) c.take_out-replaced.ensures.taken
    (g.met.P.PtrCore.index_positive c.args.p) c.requires.fits

pub returns-clause-entries : goal.returns-clause-entries
returns-clause-entries g c j =
    c.store.ensures.inserted.entries j
    ∙ put_over (g.P.PtrCore.index c.args.p) (g.P.PtrCore.generation c.args.p, c.args.value)
    c.take_out-replaced.ensures.taken j

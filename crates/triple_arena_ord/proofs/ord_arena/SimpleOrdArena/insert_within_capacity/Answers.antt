use Rattle.std.proofs.Common.{None}
use Rattle.triple_arena_ord.proofs.KeyInsertionLemmas.{inserts_by_key}
use Rattle.triple_arena_ord.proofs.ord_arena.SimpleOrdArena.insert_within_capacity.Goals as goal

pub returns : goal.returns
returns g c =
    let found = c.seek-place.ensures in
    inserts_by_key g.T.Key.Ord.cmp g.T.SimpleOrdItem.key_of
    g.met.T.Key.Ord.total g.P.PtrCore.index g.P.PtrCore.generation None c.args.self.now
    c.insert_at_within_capacity.new.self c.args.t _ c.key.ensures _ _ found.ordered found.answer
    c.insert_at_within_capacity.ensures

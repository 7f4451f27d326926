use Rattle.std.proofs.Common.{◌≡◌, Some, None, subst}
use Rattle.triple_arena.specs.Entries.{generation_at}
use Rattle.triple_arena_ord.specs.Ordered.{entry_in}
use Rattle.triple_arena_ord.proofs.KeyInsertionLemmas.{gets_found, inserts_unfound}
use Rattle.triple_arena_ord.proofs.ord_arena.SimpleOrdArena.get_or_insert_within_capacity.Goals as goal

pub returns-in-Some : goal.returns-in-Some
returns-in-Some g c =
    let found = c.seek-place.ensures in
    gets_found g.T.Key.Ord.cmp g.T.SimpleOrdItem.key_of
    g.met.T.Key.Ord.total g.P.PtrCore.index g.P.PtrCore.generation None c.args.self.now c.args.t
    _ c.key.ensures _ found.ordered found.answer c.in-Some.p
    (c.found_at.ensures.some _ c.in-Some.is)
    (subst (λ z. generation_at (entry_in z) (g.P.PtrCore.index c.in-Some.p)
    ≡ Some (g.P.PtrCore.generation c.in-Some.p)) c.self.view_is c.in-Some.ensures.live)

pub returns-in-None : goal.returns-in-None
returns-in-None g c =
    let found = c.seek-place.ensures in
    inserts_unfound g.T.Key.Ord.cmp g.T.SimpleOrdItem.key_of
    g.met.T.Key.Ord.total g.P.PtrCore.index g.P.PtrCore.generation None c.args.self.now
    c.add_at_within_capacity.new.self c.args.t _ c.key.ensures _ _ found.ordered found.answer
    (c.found_at.ensures.none c.in-None.is) c.add_at_within_capacity.ensures

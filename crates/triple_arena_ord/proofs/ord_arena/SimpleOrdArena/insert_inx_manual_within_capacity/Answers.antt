use Rattle.triple_arena_ord.proofs.SettleLemmas.{adds_there, replaces_there}
use Rattle.triple_arena_ord.proofs.ord_arena.SimpleOrdArena.insert_inx_manual_within_capacity.Goals as goal

pub put_at-requires-clause-new : goal.put_at-requires-clause-new
put_at-requires-clause-new g c = λ h.
    c.requires.new (replaces_there _ _ _ c.settle-place.ensures.same h)

pub returns : goal.returns
returns g c =
    adds_there c.args.t c.args.self.now c.put_at.new.self _ _ _ _
    c.settle-place.ensures.same c.put_at.ensures

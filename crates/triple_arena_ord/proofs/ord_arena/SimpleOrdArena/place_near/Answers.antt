use Rattle.triple_arena_ord.proofs.PlacingLemmas.{placed_by_key, key_live, key_empty}
use Rattle.triple_arena_ord.proofs.ord_arena.SimpleOrdArena.place_near.Goals as goal

pub returns-clause-by_key : goal.returns-clause-by_key
returns-clause-by_key g c =
    placed_by_key g.T.Key.Ord.cmp g.T.SimpleOrdItem.key_of c.args.k.now
    c.args.self.now g.met.T.Key.Ord.total c.seek_linear.ensures.ordered _
    c.seek_linear.ensures.answer

pub returns-clause-live : goal.returns-clause-live
returns-clause-live g c =
    key_live g.P.Inx.PtrInxCore.number g.T.Key.Ord.cmp g.T.SimpleOrdItem.key_of c.args.k.now
    c.args.self.now c.seek_linear.result
    (placed_by_key g.T.Key.Ord.cmp g.T.SimpleOrdItem.key_of c.args.k.now
    c.args.self.now g.met.T.Key.Ord.total c.seek_linear.ensures.ordered _
    c.seek_linear.ensures.answer)

pub returns-clause-empty : goal.returns-clause-empty
returns-clause-empty g c =
    key_empty g.P.Inx.PtrInxCore.number g.T.Key.Ord.cmp g.T.SimpleOrdItem.key_of c.args.k.now
    c.args.self.now c.seek_linear.result
    (placed_by_key g.T.Key.Ord.cmp g.T.SimpleOrdItem.key_of c.args.k.now
    c.args.self.now g.met.T.Key.Ord.total c.seek_linear.ensures.ordered _
    c.seek_linear.ensures.answer)

pub returns-clause-ends : goal.returns-clause-ends
returns-clause-ends g c = λ end ends. c.seek_linear.ensures.ends end.0 end.1 ends

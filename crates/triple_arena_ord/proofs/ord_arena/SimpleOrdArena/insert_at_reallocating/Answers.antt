use Rattle.triple_arena_ord.proofs.GrowthLemmas.{inserts_replacing}
use Rattle.triple_arena_ord.proofs.ord_arena.SimpleOrdArena.insert_at_reallocating.Goals as goal

pub returns-then-replaces : goal.returns-then-replaces
returns-then-replaces g c =
    inserts_replacing g.P.PtrCore.index g.P.PtrCore.generation _ _
    g.S.NonZeroInxGenericStack.takes_memory _ c.args.self.now
    c.insert_at_within_capacity.new.self (c.replaces.ensures.0 c.if-replaces.true)
    c.insert_at_within_capacity.ensures

pub add_at_reallocating-requires-clause-new : goal.add_at_reallocating-requires-clause-new
add_at_reallocating-requires-clause-new g c = λ h.
    let z = c.replaces.ensures.1 h in let y = c.if-replaces.false in absurd (cc)

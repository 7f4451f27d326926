use Rattle.triple_arena_ord.proofs.ord_arena.advancer.PtrAdvancerAdvancerSimpleOrdArena.empty.Goals as goal

pub returns : goal.returns
returns g c = λ o. c.empty.ensures o.chains

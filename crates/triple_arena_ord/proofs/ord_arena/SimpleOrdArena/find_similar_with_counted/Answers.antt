use Rattle.triple_arena_ord.proofs.ord_arena.SimpleOrdArena.find_similar_with_counted.Goals as goal

pub returns-clause-asked : goal.returns-clause-asked
returns-clause-asked g c = c.find_similar_by_counted.ensures.asked.0

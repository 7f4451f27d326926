use denote.Param.Always.{always_mut, mut_by}
use Rattle.std.proofs.Common.{rules, of_calls}
use Rattle.triple_arena_ord.proofs.MappingLemmas.{items_moved}
use Rattle.triple_arena_ord.proofs.ord_arena.mapping.compact_nodes.Goals as goal

pub compress_with-requires : goal.compress_with-requires
compress_with-requires g c =
    mut_by _ (λ s. always_mut g.F.FnMut s.0) (λ s a i. search (rules, of_calls))
    (λ s a r t i e. search rules) _ c.requires

pub returns-clause-mapped : goal.returns-clause-mapped
returns-clause-mapped g c =
    items_moved g.N.HoldsItem.item (λ s. s.0) (λ s from l to m t e. search rules)
    c.compress_with.ensures.mapped

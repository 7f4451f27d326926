use denote.Param.Always.{always_mut, mut_by}
use Rattle.std.proofs.Common.{rules, of_calls}
use Rattle.triple_arena.specs.CompressionLaws.{entries_related}
use Rattle.triple_arena_chain.proofs.MappingLemmas.{values_moved}
use Rattle.triple_arena_chain.proofs.chain_arena.mapping.compact_links.Goals as goal

pub compress_by-requires-clause-callable : goal.compress_by-requires-clause-callable
compress_by-requires-clause-callable g c =
    mut_by _ (λ s. always_mut g.F.FnMut s.0) (λ s a i. search (rules, of_calls))
    (λ s a r t i e. search rules) _ c.requires.callable

pub returns-clause-mapped : goal.returns-clause-mapped
returns-clause-mapped g c =
    values_moved (λ s. s.0) (λ s from l to m t e. search rules) c.compress_by.ensures.mapped

pub returns-clause-links : goal.returns-clause-links
returns-clause-links g c =
    entries_related c.compress_by.ensures.mapped (λ _. Unit {0}) _ tt
    (λ s from l to m t kept e. (search rules, tt))

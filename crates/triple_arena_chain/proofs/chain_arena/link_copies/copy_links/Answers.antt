use denote.Param.Always.{always_mut, mut_by}
use Rattle.std.proofs.Common.{rules, of_calls, inl, inr}
use Rattle.triple_arena_chain.specs.LinkCopyLaws.{on_ok}
use Rattle.triple_arena_chain.proofs.MappingLemmas.{values_mapped, values_refused, links_copied}
use Rattle.triple_arena_chain.proofs.chain_arena.link_copies.copy_links.Goals as goal

pub copy_from-requires-clause-callable : goal.copy_from-requires-clause-callable
copy_from-requires-clause-callable g c =
    mut_by _ (λ s. always_mut g.F.FnMut s.0) (λ s a i. search (rules, of_calls))
    (λ s a r t i e. search rules) _ c.requires.callable

pub returns-clause-mapped : goal.returns-clause-mapped
returns-clause-mapped g c =
    on_ok c.copy_from.result (values_mapped (λ s. s.0) (λ h p u l k e. search rules))
    c.copy_from.ensures.mapped

pub returns-clause-linked : goal.returns-clause-linked
returns-clause-linked g c =
    on_ok c.copy_from.result (links_copied g.L.Neighbors.neighbors (λ h p u l k e. search rules))
    c.copy_from.ensures.mapped

pub returns-clause-unmade : goal.returns-clause-unmade
returns-clause-unmade g c failed =
    elim (c.copy_from.ensures.unmade failed) [
      | inl left ↦ inl left
      | inr empty ↦ inr (
        values_refused (λ s. s.0) (λ h p u l k e. search rules)
            (λ h p u e k s. search rules) empty.0,
        empty.1,
      )
    ]

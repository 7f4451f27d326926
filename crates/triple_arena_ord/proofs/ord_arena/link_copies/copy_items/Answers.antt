use denote.Param.Always.{always_mut, mut_by}
use Rattle.std.proofs.Common.{rules, of_calls, inl, inr}
use Rattle.triple_arena_chain.specs.LinkCopyLaws.{on_ok}
use Rattle.triple_arena_ord.proofs.ItemCopyLemmas.{items_mapped, items_refused}
use Rattle.triple_arena_ord.proofs.ord_arena.link_copies.copy_items.Goals as goal

pub copy_from-requires-clause-callable : goal.copy_from-requires-clause-callable
copy_from-requires-clause-callable g c =
    mut_by _ (λ s. always_mut g.F.FnMut s.0) (λ s a i. search (rules, of_calls))
    (λ s a r t i e. search rules) _ c.requires

pub returns-clause-mapped : goal.returns-clause-mapped
returns-clause-mapped g c =
    on_ok c.copy_from.result
    (items_mapped g.L.ShowsItem.item (λ s. s.0) (λ h p l r k e. search rules))
    c.copy_from.ensures.mapped

pub returns-clause-unmade : goal.returns-clause-unmade
returns-clause-unmade g c failed =
    elim (c.copy_from.ensures.unmade failed) [
      | inl left ↦ inl left
      | inr empty ↦ inr (
        items_refused g.L.ShowsItem.item (λ s. s.0) (λ h p l r k e. search rules) empty.0,
        empty.1,
      )
    ]

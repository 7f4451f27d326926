use Rattle.std.proofs.Common.{inl, inr, subst}
use Rattle.triple_arena.specs.Copy.{IsMappedCopy, IsRefusedCopy}
use Rattle.triple_arena_chain.specs.Listed.{listed_values}
use Rattle.linked_lists.specs.Chains.{Linear}
use Rattle.triple_arena_chain.specs.LinkCopyLaws.{on_ok, chains_where}
use Rattle.triple_arena_ord.proofs.ItemCopyLemmas.{items-listed}
use Rattle.triple_arena_ord.proofs.ord_arena.SimpleOrdArena.clone_to_chain_arena.Goals as goal

pub returns-clause-mapped : goal.returns-clause-mapped
returns-clause-mapped g c =
    rw (← c.self.view_is)
    (on_ok c.copy_items.result
    (subst (λ l. IsMappedCopy g.P.PtrCore.index g.P.PtrCore.generation (goal.F-step g) c.args.map l
    (listed_values c.copy_items.new.target))
    (items-listed _))
    c.copy_items.ensures.mapped)

pub returns-clause-list : goal.returns-clause-list
returns-clause-list g c =
    rw (← c.self.view_is)
    (on_ok c.copy_items.result
    (λ copy. chains_where _ _ copy.same_ends (Linear _) c.self.invariant.0.linear)
    c.copy_items.ensures.copied)

pub returns-clause-unmade : goal.returns-clause-unmade
returns-clause-unmade g c =
    rw (← c.self.view_is)
    (λ failed. elim (c.copy_items.ensures.unmade failed) [
      | inl left ↦ inl (left.0, left.1, left.2)
      | inr empty ↦ inr (
        subst (IsRefusedCopy g.P.PtrCore.index g.P.PtrCore.generation (goal.F-step g) c.args.map)
            (items-listed _) empty.0,
        empty.1.0,
        empty.1.1,
      )
    ])

use Rattle.std.proofs.Common.{rules, sym, ap, ◌∙◌, None, inl, inr, subst}
use Rattle.triple_arena_ptr.specs.Generation.{second_generation}
use Rattle.triple_arena.specs.ArenaRoom.{room_of}
use Rattle.triple_arena.specs.Content.{empty}
use Rattle.linked_lists.specs.LinkedLists.{first_or, last_or}
use Rattle.triple_arena_ord.specs.Copies.{last_inx, IsClone}
use Rattle.triple_arena_ord.specs.Indexed.{listed_item}
use Rattle.triple_arena_ord.specs.Ordered.{Ordered, ordered_by}
use Rattle.triple_arena_ord.proofs.CloneLemmas.{Cloned, cloned, error_kept, listed_as_item}
use Rattle.triple_arena_ord.proofs.ord_arena.SimpleOrdArena.clone.Goals as goal
use Rattle.triple_arena_ord.proofs.ord_arena.SimpleOrdArena.clone.Goals.{In-Ok}

abbrev source : (g : _) (c : In-Ok g) → Ordered g.row.T.Denot
source g c = ordered_by g.P.Inx.PtrInxCore.number c.self.inside.chains c.self.inside.root

abbrev clone_of : (g : _) (c : In-Ok g) (s : Ordered g.row.T.Denot)
    → Ordered g.row.T.Denot → Type 0
clone_of g c s new =
    IsClone
    (empty (second_generation g.P.Gen.PtrGenCore.last)
    (room_of g.P.Inx.PtrInxCore.greatest (g.S.NonZeroInxGenericStack.room_at (last_inx s)))) s
    new

made : (g : _) (c : In-Ok g) → Cloned
    (empty (second_generation g.P.Gen.PtrGenCore.last)
    (room_of g.P.Inx.PtrInxCore.greatest
    (g.S.NonZeroInxGenericStack.room_at (last_inx (source g c)))))
    (source g c) (record { chains = c.in-Ok.chains; root = (source g c).root })
made g c = cloned _ c.in-Ok.chains (source g c) (c.in-Ok.ensures).exact
    c.self.invariant.0

pub invariant_of-result : goal.invariant_of-result
invariant_of-result g c =
    let clone = made g (goal.at.invariant_of-result g c).In-Ok in
    let order = clone.clone.order in (
      clone.ordered,
      c.self.invariant.1 ∙ ap (λ l. first_or l None) (sym order),
      c.self.invariant.2 ∙ ap (last_or None) (sym order),
    )

pub returns-in-Ok-clause-cloned : goal.returns-in-Ok-clause-cloned
returns-in-Ok-clause-cloned g c =
    let at = (goal.at.returns-in-Ok-clause-cloned g c).In-Ok in
    subst (λ s. clone_of g at s (record { chains = c.in-Ok.chains; root = (source g at).root }))
    c.self.view_is (made g at).clone

pub returns-in-Ok-clause-ordered : goal.returns-in-Ok-clause-ordered
returns-in-Ok-clause-ordered g c = (made g (goal.at.returns-in-Ok-clause-ordered g c).In-Ok).ordered

pub returns-in-Err-clause-unmade : goal.returns-in-Err-clause-unmade
returns-in-Err-clause-unmade g c =
    rw (← c.self.view_is)
    (λ failed. elim ((c.in-Err.ensures).unmade (error_kept _ _ failed)) [
      | inl memory ↦ inl memory
      | inr refused ↦
          inr (λ never. refused (λ k e at.
          let sure : g.T.Clone.is_infallible e.1.1.t =
          never k (listed_item e) (listed_as_item _ k e at) in
          search (rules, g.met.P.Inx.PtrInxCore.always_clones)))
    ])

use Rattle.std.proofs.Common.{Some, None, ap, sym, subst, ◌∙◌}
use Rattle.triple_arena_chain.specs.declared.gap.Gap.TheVariants.{Between}
use Rattle.linked_lists.specs.LinkedLists.{first_or, last_or}
use Rattle.triple_arena_chain.specs.Links.{IsLinkInserted}
use Rattle.triple_arena_ord.specs.Ordered.{Ordered, ordered_by}
use Rattle.triple_arena_ord.specs.Inserted.{AddsAt}
use Rattle.triple_arena_ord.proofs.FirstLemmas.{first_order, first_ordered, first_added}
use Rattle.triple_arena_ord.proofs.ord_arena.SimpleOrdArena.put_first.Goals as goal

pub invariant_of-self : goal.invariant_of-self
invariant_of-self g c =
    let number = g.P.Inx.PtrInxCore.number in
    let o : Ordered g.row.T.Denot =
    ordered_by number c.self.inside.chains c.self.inside.root in
    let put = subst (λ v. IsLinkInserted (Between None None) (g.P.PtrCore.index c.in-Ok.p)
    (g.P.PtrCore.generation c.in-Ok.p) v c.self.inside.chains
    c.insert_in_gap_within_capacity.new.self) c.under-node.ensures c.in-Ok.ensures.inserted in
    let bare = ap (λ z. z.root) c.self.view_is ∙ c.requires.first in
    let order = first_order o _ _ _ _ c.args.t c.self.invariant.0 bare put c.inx-inx.ensures
    in (
      first_ordered o _ _ _ _ c.args.t c.self.invariant.0 bare put c.inx-inx.ensures,
      ap Some c.inx-inx.ensures ∙ sym (ap (λ w. first_or w None) order),
      ap Some c.inx-inx.ensures ∙ sym (ap (λ w. last_or None w) order),
    )

pub returns : goal.returns
returns g c =
    let number = g.P.Inx.PtrInxCore.number in
    let o : Ordered g.row.T.Denot =
    ordered_by number c.self.inside.chains c.self.inside.root in
    let made : Ordered g.row.T.Denot =
    record {
      chains = c.insert_in_gap_within_capacity.new.self;
      root = Some (number c.inx-inx.result);
    } in
    let put = subst (λ v. IsLinkInserted (Between None None) (g.P.PtrCore.index c.in-Ok.p)
    (g.P.PtrCore.generation c.in-Ok.p) v c.self.inside.chains
    c.insert_in_gap_within_capacity.new.self) c.under-node.ensures c.in-Ok.ensures.inserted in
    let bare = ap (λ z. z.root) c.self.view_is ∙ c.requires.first in
    subst (λ (z : Ordered g.row.T.Denot). AddsAt None
    (g.P.PtrCore.index c.in-Ok.p) (g.P.PtrCore.generation c.in-Ok.p) c.args.t z made) c.self.view_is
    (first_added o _ _ _ _ c.args.t c.self.invariant.0 bare put c.inx-inx.ensures
    c.in-Ok.ensures.room)

use Rattle.std.proofs.Common.{refl, sym, ap, ◌∙◌, subst, arith}
use Rattle.std.specs.Option.{option_map}
use Rattle.triple_arena_ord.specs.Ordered.{Ordered, IsAscending, order_in, ordered_by}
use Rattle.triple_arena_ord.proofs.LinearLemmas.{empty_ascends}
use Rattle.triple_arena_ord.proofs.ord_arena.SimpleOrdArena._check_invariants.Goals as goal

pub returns-in_default-clause-ascends : goal.returns-in_default-clause-ascends
returns-in_default-clause-ascends g c =
    let number = g.P.Inx.PtrInxCore.number in
    let cmp = g.T.Key.Ord.cmp in
    let key = g.T.SimpleOrdItem.key_of in
    let o : Ordered g.row.T.Denot =
    ordered_by number c.this.inside.chains c.this.inside.root in
    let empty = empty_ascends cmp key o
    (sym c.this.invariant.1 ∙ ap (option_map number) c.in_default.is) in
    (λ _. subst (λ z. IsAscending cmp key z) c.this.view_is empty, λ _. refl)

pub returns-then-ascends-clause-ascends : goal.returns-then-ascends-clause-ascends
returns-then-ascends-clause-ascends g c =
    let number = g.P.Inx.PtrInxCore.number in
    let cmp = g.T.Key.Ord.cmp in
    let key = g.T.SimpleOrdItem.key_of in
    let o : Ordered g.row.T.Denot =
    ordered_by number c.this.inside.chains c.this.inside.root in
    let is = c.this.invariant.0 in
    let counted = is.counted in
    let most = c.len-most.ensures.value in
    let tells = c.ascends.ensures (order_in o) is.linear
    (sym c.this.invariant.1 ∙ ap (option_map number) c.in-Some.is)
    (omega (arith, counted, most)) in (
      λ _. subst (λ z. IsAscending cmp key z) c.this.view_is (tells.0 c.if-ascends.true),
      λ _. refl,
    )

pub returns-else-ascends-clause-ascends : goal.returns-else-ascends-clause-ascends
returns-else-ascends-clause-ascends g c =
    let number = g.P.Inx.PtrInxCore.number in
    let cmp = g.T.Key.Ord.cmp in
    let key = g.T.SimpleOrdItem.key_of in
    let o : Ordered g.row.T.Denot =
    ordered_by number c.this.inside.chains c.this.inside.root in
    let is = c.this.invariant.0 in
    let counted = is.counted in
    let most = c.len-most.ensures.value in
    let tells = c.ascends.ensures (order_in o) is.linear
    (sym c.this.invariant.1 ∙ ap (option_map number) c.in-Some.is)
    (omega (arith, counted, most)) in (
      λ t. absurd (cc),
      λ a. let yes =
          tells.1 (subst (λ z. IsAscending cmp key z) (sym c.this.view_is) a) in let no =
          c.if-ascends.false in absurd (cc),
    )

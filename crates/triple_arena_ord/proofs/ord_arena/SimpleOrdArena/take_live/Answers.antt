use Rattle.std.proofs.Common.{◌∙◌, ap, sym, subst, IsSome, Some}
use Rattle.triple_arena_ord.specs.Node.{nodes_in}
use Rattle.triple_arena_ord.proofs.ord_arena.SimpleOrdArena.take_live.Goals as goal

pub neighbors-prev-requires : goal.neighbors-prev-requires
neighbors-prev-requires g c =
    let number = g.P.Inx.PtrInxCore.number in
    subst (λ z. IsSome (nodes_in z.chains (number c.args.i))) (sym c.self.view_is)
    c.requires

pub returns-then-wrapped : goal.returns-then-wrapped
returns-then-wrapped g c = record {
  at = c._from_raw.ensures.has_index;
  was = sym c.remove_live-generation.ensures.value
      ∙ ap (λ n. Some (n, c.remove_live-generation.result.0.1))
      (sym c._from_raw.ensures.has_generation);
  overflow = sym c.if-wrapped.true ∙ c.remove_live-generation.ensures.overflow;
  removed = c.remove_live-generation.ensures.removed;
}

pub returns-else-wrapped : goal.returns-else-wrapped
returns-else-wrapped g c = record {
  at = c._from_raw.ensures.has_index;
  was = sym c.remove_live-generation.ensures.value
      ∙ ap (λ n. Some (n, c.remove_live-generation.result.0.1))
      (sym c._from_raw.ensures.has_generation);
  overflow = sym c.if-wrapped.false ∙ c.remove_live-generation.ensures.overflow;
  removed = c.remove_live-generation.ensures.removed;
}

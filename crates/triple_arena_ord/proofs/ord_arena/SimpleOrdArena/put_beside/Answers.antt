use Rattle.std.proofs.Common.{sym, ◌∙◌, subst}
use Rattle.triple_arena_ord.specs.Ordered.{Ordered, StandsBeside, order_in, ordered_by}
use Rattle.triple_arena_ord.proofs.EndLemmas.{first_moved, last_moved}
use Rattle.triple_arena_ord.proofs.ord_arena.SimpleOrdArena.put_beside.Goals as goal

pub invariant_of-self : goal.invariant_of-self
invariant_of-self g c =
    let number = g.P.Inx.PtrInxCore.number in
    let o : Ordered g.row.T.Denot =
    ordered_by number c.self.inside.chains c.self.inside.root in
    let p : Ordered g.row.T.Denot =
    ordered_by number c.insert_leaf-p.new.chains c.insert_leaf-p.new.root in
    let s : StandsBeside c.args.side (order_in o) (order_in p) (number c.args.holder)
    (number c.inx-inx.result) =
    subst (λ z. StandsBeside c.args.side (order_in o) (order_in p)
    (number c.args.holder) z) (sym c.inx-inx.ensures) c.insert_leaf-p.ensures.order in (
      c.insert_leaf-p.ensures.ordered,
      c.move_end.ensures ∙ first_moved o p c.self.invariant.0 c.args.side
          (number c.args.holder) (number c.inx-inx.result) s _ c.self.invariant.1,
      c.move_end-2.ensures ∙ last_moved o p c.self.invariant.0 c.args.side
          (number c.args.holder) (number c.inx-inx.result) s _ c.self.invariant.2,
    )

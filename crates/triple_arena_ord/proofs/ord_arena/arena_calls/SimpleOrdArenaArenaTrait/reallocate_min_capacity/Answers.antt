use Rattle.std.proofs.Common.{ap, ◌∙◌, None}
use Rattle.triple_arena.specs.ArenaRoom.{room_with}
use Rattle.linked_lists.specs.LinkedLists.{first_or, last_or}
use Rattle.triple_arena_ord.specs.Ordered.{Ordered, ordered_by}
use Rattle.triple_arena_ord.proofs.GrowthLemmas.{still_ordered, same_order}
use Rattle.triple_arena_ord.proofs.ord_arena.arena_calls.SimpleOrdArenaArenaTrait.reallocate_min_capacity.Goals as goal

pub invariant_of-self : goal.invariant_of-self
invariant_of-self g c =
    let number = g.P.Inx.PtrInxCore.number in
    let o : Ordered g.row.T.Denot =
    ordered_by number c.self.inside.chains c.self.inside.root in
    let d = c.reallocate_min_capacity.new.self in
    let r = room_with c.args.min o.chains.room in
    let order = same_order o d r c.reallocate_min_capacity.result
    c.reallocate_min_capacity.ensures.exact c.reallocate_min_capacity.ensures.err in (
      still_ordered o d r c.reallocate_min_capacity.result
          c.reallocate_min_capacity.ensures.exact c.reallocate_min_capacity.ensures.err
          c.self.invariant.0,
      c.self.invariant.1 ∙ ap (λ w. first_or w None) order,
      c.self.invariant.2 ∙ ap (last_or None) order,
    )

pub returns-clause-formed : goal.returns-clause-formed
returns-clause-formed g c =
    record {
      ordered = (invariant_of-self g c).0;
      chained = c.reallocate_min_capacity.ensures.formed;
    }

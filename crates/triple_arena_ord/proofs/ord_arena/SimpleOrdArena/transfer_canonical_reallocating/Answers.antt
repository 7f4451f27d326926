use Rattle.std.proofs.Common.{◌≡◌, None, sym, ap, ◌∙◌}
use Rattle.std.specs.List.{range_with_len}
use Rattle.triple_arena.specs.ArenaRoom.{room_with}
use Rattle.triple_arena.specs.Content.{live_count}
use Rattle.linked_lists.specs.LinkedLists.{first_or, last_or}
use Rattle.triple_arena_ord.specs.Ordered.{Ordered, size_in, ordered_by}
use Rattle.triple_arena_ord.proofs.CanonicalTransferLemmas.{Transferred, transferred_by}
use Rattle.triple_arena_ord.proofs.CanonicalTransferLemmas.{transferred_along, nodes_are}
use Rattle.triple_arena_ord.proofs.CanonicalTransferLemmas.{run_linear}
use Rattle.triple_arena_ord.proofs.ord_arena.SimpleOrdArena.transfer_canonical_reallocating.Goals as goal

pub rebuild_run-self-inside-requires-clause-linear :
    goal.rebuild_run-self-inside-requires-clause-linear
rebuild_run-self-inside-requires-clause-linear g c =
    let before = g.Q.Inx.PtrInxCore.number in
    let o : Ordered g.row.U.Denot =
    ordered_by before c.source.inside.chains c.source.inside.root in
    let m = c.in_ok-move_items.ensures.moved in
    run_linear o c.source.invariant.0 c.move_items.new.target m.0
    m.1.0 c.in_ok-move_items.ensures.filled.live

done : (g : _) (c : goal.After-self-3-1 g)
    → Transferred
    (ordered_by g.Q.Inx.PtrInxCore.number c.source.inside.chains c.source.inside.root)
    c.source.invariant.0
    c.move_items.new.target
    c.in_ok-move_items.ensures.moved.0 c.in_ok-move_items.ensures.moved.1.0
    c.in_ok-move_items.ensures.filled.live
    (g.P.Gen.PtrGenCore.number c.args.new_generation)
    (room_with (live_count c.source.inside.chains) c.self.inside.chains.room)
    c.self.inside.chains
    (ordered_by g.P.Inx.PtrInxCore.number c.self.inside.chains c.self.inside.root)
    c.in_ok-move_items.ensures.filled
    (ordered_by g.P.Inx.PtrInxCore.number c.rebuild_run-self-inside.new.chains
    c.rebuild_run-self-inside.result)
done g c =
    let before = g.Q.Inx.PtrInxCore.number in
    let o : Ordered g.row.U.Denot =
    ordered_by before c.source.inside.chains c.source.inside.root in
    let m = c.in_ok-move_items.ensures.moved in
    transferred_by o c.source.invariant.0 c.move_items.new.target m.0 m.1.0
    c.in_ok-move_items.ensures.filled.live _ _ _ _
    c.in_ok-move_items.ensures.filled _ c.rebuild_run-self-inside.ensures.keeps
    c.rebuild_run-self-inside.ensures.rebuilt

pub invariant_of-self-2 : goal.invariant_of-self-2
invariant_of-self-2 g c =
    let o : Ordered g.row.U.Denot =
    ordered_by g.Q.Inx.PtrInxCore.number c.source.inside.chains c.source.inside.root in
    let d = done g c in
    let size : c.len.result ≡ size_in o = c.len.ensures.value
    ∙ c.in_ok-move_items.ensures.filled.live in (
      d.ordered,
      c.ends_of_run-first.ensures.first ∙ ap (λ n. first_or (range_with_len 1 n) None) size
          ∙ ap (λ l. first_or l None) (sym d.order),
      c.ends_of_run-first.ensures.last ∙ ap (λ n. last_or None (range_with_len 1 n)) size
          ∙ ap (last_or None) (sym d.order),
    )

pub returns-clause-moved : goal.returns-clause-moved
returns-clause-moved g c =
    let before = g.Q.Inx.PtrInxCore.number in
    let number = g.P.Inx.PtrInxCore.number in
    let o : Ordered g.row.U.Denot =
    ordered_by before c.source.inside.chains c.source.inside.root in
    let d = done g c in
    let m = c.in_ok-move_items.ensures.moved in
    rw (← c.source.view_is) (record {
      moved = transferred_along
          (nodes_are o c.source.invariant.0 c.move_items.new.target m.0 m.1.0
          c.in_ok-move_items.ensures.filled.live) d.listed m.1.1;
      order = d.order;
      tree = d.tree;
      slots = d.slots;
      free = d.free ∙ m.1.0.free;
    })

pub returns-clause-filled : goal.returns-clause-filled
returns-clause-filled g c = rw (← c.source.view_is, ← c.self.view_is) (done g c).filled

pub returns-clause-ordered : goal.returns-clause-ordered
returns-clause-ordered g c = (done g c).ordered

use Rattle.std.proofs.Common.{rules, of_calls}
use Rattle.triple_arena_ord.proofs.ord_arena.link_moves.fn.move_items.move_from.Goals as goal

pub returns : goal.returns
returns g c = record {
  step = (
    c.item_of.result,
    (
      c.item_of.ensures.value,
      (c.item_of.ensures.wraps, (c.map.result, (c.leaf.ensures, c.map.ensures))),
    ),
  );
  again = search (rules, of_calls);
}

use Rattle.std.proofs.Common.{rules, map, ap, ◌∙◌}
use Rattle.example_ord.specs.OrderBooks.{listed_order}
use Rattle.example_ord.proofs.OrderMoveLemmas.{orders_kept, on_success}
use Rattle.example_ord.proofs.order_moves.move_orders.Goals as goal

pub returns-clause-orders : goal.returns-clause-orders
returns-clause-orders g c =
    let call = c.transfer_canonical_reallocating in
    on_success call.result
    (λ moved filled. ap (map listed_order)
    (c.canonical_transfers_list_by_index.ensures _ _ _ _ _ filled moved.order)
    ∙ orders_kept (λ h k from item to t is. search rules) moved.moved)
    call.ensures.moved call.ensures.filled

use Rattle.std.proofs.Common.{refl}
use Rattle.triple_arena_stack.proofs.DisjointLemmas.{with_item_comm}
use Rattle.triple_arena_stack.proofs.disjoint.get_disjoint_mut.Goals as goal

pub returns : goal.returns
returns g c =
    let low = c.get-low.ensures in
    let high = c.get-high.ensures in
    let lent = c.in_order-second.ensures in (
      (
        (refl, refl),
        λ x y. with_item_comm _ _ _ _ _ x y low.value high.value low.nonzero
            high.nonzero c.requires.disjoint,
      ),
      record {
        writes_back = tt;
        first = rw (← low.value) lent.second;
        second = rw (← high.value) lent.first;
      },
    )

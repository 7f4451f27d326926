use Rattle.std.proofs.Common.{refl, arith}
use Rattle.triple_arena_stack.proofs.DisjointLemmas.{set-parts, get-front, get-back}
use Rattle.triple_arena_stack.proofs.disjoint.in_order.Goals as goal

pub returns : goal.returns
returns g c =
    let e = c.split_at_mut-front.ensures in (
      ((refl, refl), λ x y. set-parts _ _ _ _ _ e.value e.front_len x y c.requires.order),
      record {
        writes_back = tt;
        first = get-front _ _ _ _ _ e.value e.front_len _ c.requires.order c.index-front-low.is;
        second =
            get-back _ _ _ c.args.low _ e.value e.front_len _
            (omega (arith, e.back_len, c.requires.bound)) c.index-back-0.is;
      },
    )

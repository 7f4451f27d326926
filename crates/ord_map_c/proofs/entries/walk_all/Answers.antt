use Rattle.std.specs.Int.NonZero.{non_zero_u32_get}
use Rattle.ord_map_c.proofs.SearchLemmas.{all_left}
use Rattle.ord_map_c.proofs.entries.walk_all.Goals as goal

pub returns-in-Some-clause-left : goal.returns-in-Some-clause-left
returns-in-Some-clause-left c =
    all_left (λ p. non_zero_u32_get p.inx) (λ p. non_zero_u32_get p.generation)
    c.args.entries.now 0 c.requires c.entries_stand_in_the_list.ensures c.in-Some.p
    c.in-Some.ensures.at c.advancer_ordered.result c.advancer_ordered.ensures.from

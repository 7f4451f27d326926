use Rattle.std.proofs.Common.{sym, subst}
use Rattle.std.specs.Int.NonZero.{non_zero_u32_get}
use Rattle.std.specs.Ordering.{nat_cmp}
use Rattle.triple_arena_ord.specs.Inserted.{InsertsByKey}
use Rattle.ord_map_c.specs.Changes.{IsPut}
use Rattle.ord_map_c.specs.Entries.{Pair}
use Rattle.ord_map_c.proofs.AlongLemmas.{key_in, pair_is}
use Rattle.ord_map_c.proofs.ChangeLemmas.{put_is}
use Rattle.ord_map_c.proofs.entries.put.Goals as goal

pub returns : goal.returns
returns c =
    let old = c.args.entries.now in
    let new = c.insert.new.self in
    let own = pair_is c.new.result c.args.key c.args.value c.new.ensures.key c.new.ensures.value in
    subst (λ r. IsPut c.args.key c.args.value r old new) (sym c.as_put.ensures)
    (put_is old new c.requires c.entries_stand_in_the_list.ensures
    (λ p. non_zero_u32_get p.inx) (λ p. non_zero_u32_get p.generation) c.args.key c.args.value
    c.insert.result
    (subst (λ (t : Pair). InsertsByKey nat_cmp key_in
    (λ p. non_zero_u32_get p.inx) (λ p. non_zero_u32_get p.generation) _ t c.insert.result old new)
    own c.insert.ensures))

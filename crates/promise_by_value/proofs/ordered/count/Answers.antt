use Rattle.std.proofs.Common.{◌∙◌, length, ap, arith}
use Rattle.promise_by_value.proofs.ordered.count.Goals as goal

-- the list that is to come has as many entries as are live
pub loop-entry-init : goal.loop-entry-init
loop-entry-init g c =
    let all = c.the_list_has_as_many_entries_as_are_live.ensures c.args.arena
    c.len-len.ensures.formed.ordered in
    let same = ap length c.into_iter-entry-iterator.ensures.into_iter_gives ∙ all in
    let len = c.len-len.ensures.value in omega (arith, same, len)

use Rattle.std.proofs.Common.{◌∙◌}
use Rattle.std.specs.Int.NonZero.{non_zero_u32_get}
use Rattle.ord_map_c.specs.Entries.{pointer_of, last_of}
use Rattle.ord_map_c.specs.State.{listed, pair_of}
use Rattle.ord_map_c.proofs.AlongLemmas.{none_if}
use Rattle.ord_map_c.proofs.SearchLemmas.{last_is}
use Rattle.ord_map_c.proofs.entries.last.Goals as goal

pub returns-clause-entry : goal.returns-clause-entry
returns-clause-entry c =
    c.handle_if.ensures
    ∙ last_is (λ p. non_zero_u32_get p.inx) (λ p. non_zero_u32_get p.generation)
    c.args.entries.now 0 c.requires c.entries_stand_in_the_list.ensures c.last.result
    c.last.ensures

pub returns-clause-none : goal.returns-clause-none
returns-clause-none c =
    none_if pair_of pointer_of c.handle_if.result
    (last_of (listed c.args.entries.now))
    (returns-clause-entry c)

use Rattle.std.proofs.Common.{◌∙◌}
use Rattle.std.specs.Int.NonZero.{non_zero_u32_get}
use Rattle.ord_map_c.proofs.AlongLemmas.{ascends}
use Rattle.ord_map_c.specs.Entries.{pointer_of, first_of, past_key}
use Rattle.ord_map_c.specs.State.{listed, pair_of}
use Rattle.ord_map_c.proofs.AlongLemmas.{none_if}
use Rattle.ord_map_c.proofs.SearchLemmas.{upper_is}
use Rattle.ord_map_c.proofs.entries.upper_bound.Goals as goal

pub returns-clause-entry : goal.returns-clause-entry
returns-clause-entry c =
    c.handle_if.ensures
    ∙ upper_is (λ p. non_zero_u32_get p.inx) (λ p. non_zero_u32_get p.generation)
    c.args.entries.now c.args.key c.requires c.entries_stand_in_the_list.ensures
    c.upper_bound.result
    (c.upper_bound.ensures.bound (ascends c.args.entries.now c.requires.rise))

pub returns-clause-none : goal.returns-clause-none
returns-clause-none c =
    none_if pair_of pointer_of c.handle_if.result
    (first_of (past_key (listed c.args.entries.now) c.args.key))
    (returns-clause-entry c)

use Rattle.std.proofs.Common.{◌∙◌}
use Rattle.std.specs.Int.NonZero.{non_zero_u32_get}
use Rattle.ord_map_c.specs.Entries.{pointer_of, with_key}
use Rattle.ord_map_c.specs.State.{StandsUnder, listed, pair_of}
use Rattle.ord_map_c.specs.declared.handle.Handle.{Handle}
use Rattle.ord_map_c.proofs.AlongLemmas.{if_pointer, none_if}
use Rattle.ord_map_c.proofs.SearchLemmas.{found_is, stands_under}
use Rattle.ord_map_c.proofs.entries.find.Goals as goal

pub returns-clause-entry : goal.returns-clause-entry
returns-clause-entry c =
    c.handle_if.ensures
    ∙ found_is (λ p. non_zero_u32_get p.inx) (λ p. non_zero_u32_get p.generation)
    c.args.entries.now c.args.key c.requires c.entries_stand_in_the_list.ensures c.find_key.result
    c.find_key.ensures

pub returns-clause-none : goal.returns-clause-none
returns-clause-none c =
    none_if pair_of pointer_of c.handle_if.result
    (with_key (listed c.args.entries.now) c.args.key)
    (returns-clause-entry c)

pub returns-clause-stands : goal.returns-clause-stands
returns-clause-stands c =
    if_pointer c.handle_if.result (with_key (listed c.args.entries.now) c.args.key)
    (StandsUnder c.args.entries.now c.args.key) (returns-clause-entry c)
    (stands_under {P = Handle} (λ h. h.index) (λ h. h.generation)
    c.args.entries.now c.args.key c.requires c.entries_stand_in_the_list.ensures)

use Rattle.std.proofs.Common.{arith}
use Rattle.slot_map_c.proofs.EntriesLemmas.{none_after}
use Rattle.slot_map_c.proofs.slot_map.walk_past.Goals as goal

pub returns-then-last-capacity-clause-none : goal.returns-then-last-capacity-clause-none
returns-then-last-capacity-clause-none c =
    let past = c.if-last-capacity.true in
    none_after c.args.arena.now c.args.last
    (λ j live. (let within = c.capacity.ensures.indexes j live in omega (arith, within, past)))

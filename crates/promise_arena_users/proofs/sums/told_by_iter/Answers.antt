use Rattle.std.proofs.Common.{length, Some, ap, ◌∙◌}
use Rattle.triple_arena.specs.LiveEntries.{live_entries-length}
use Rattle.promise_arena_users.proofs.sums.told_by_iter.Goals as goal

pub returns-clause-len : goal.returns-clause-len
returns-clause-len g c = c.len.ensures.value ∙ ap length c.iter-entries.ensures
    ∙ live_entries-length c.args.arena.now

pub returns-clause-hint : goal.returns-clause-hint
returns-clause-hint g c =
    let told = ap length c.iter-entries.ensures ∙ live_entries-length c.args.arena.now in
    c.size_hint.ensures.bounds ∙ ap (λ n. (n, Some n)) told

use Rattle.triple_arena.proofs.StepsLemmas.{first_finds_none}
use Rattle.triple_arena.specs.Steps.{Finds, Happens}
use Rattle.std.proofs.Common.{subst}
use Rattle.triple_arena.proofs.laws.invalid_pointers_find_nothing.Goals as goal

pub returns : goal.returns
returns g c history arena index is =
    subst (λ s. Finds g.A.ArenaTrait.entry_at s (index, 1) → ⊥) is.leads
    (first_finds_none _ _ _ _ _ g.met.A.ArenaTrait.none_at_zero g.met.A.ArenaTrait.entry_listed
    g.met.A.ArenaTrait.live_entries_counted is.greatest is.new history
    (subst (λ last. Happens g.A.ArenaTrait.entry_at g.A.ArenaTrait.live_count g.A.ArenaTrait.counter
    g.A.ArenaTrait.room g.A.ArenaTrait.live_entries last is.made history) is.counts is.happens)
    index)

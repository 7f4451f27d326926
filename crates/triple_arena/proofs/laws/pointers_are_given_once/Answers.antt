use Rattle.triple_arena.proofs.StepsLemmas.{given_once}
use Rattle.triple_arena.specs.Steps.{Happens}
use Rattle.std.proofs.Common.{subst}
use Rattle.triple_arena.proofs.laws.pointers_are_given_once.Goals as goal

pub returns : goal.returns
returns g c history arena is =
    given_once _ _ _ _ _ g.met.A.ArenaTrait.none_at_zero g.met.A.ArenaTrait.entry_listed
    g.met.A.ArenaTrait.live_entries_counted is.greatest is.new history
    (subst (λ last. Happens g.A.ArenaTrait.entry_at g.A.ArenaTrait.live_count g.A.ArenaTrait.counter
    g.A.ArenaTrait.room g.A.ArenaTrait.live_entries last is.made history) is.counts is.happens)

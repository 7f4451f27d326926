use Rattle.triple_arena.proofs.StepsLemmas.{ended_stays}
use Rattle.triple_arena.specs.Steps.{Finds, Happens, reached}
use Rattle.std.proofs.Common.{subst, sym}
use Rattle.triple_arena.proofs.laws.ended_pointers_find_nothing.Goals as goal

pub returns : goal.returns
returns g c before after arena p is more one none found =
    let leads = sym is.leads in
    ended_stays _ _ _ _ _ g.met.A.ArenaTrait.none_at_zero g.met.A.ArenaTrait.entry_listed
    g.met.A.ArenaTrait.live_entries_counted is.greatest is.new before after
    (subst (λ last. Happens g.A.ArenaTrait.entry_at g.A.ArenaTrait.live_count g.A.ArenaTrait.counter
    g.A.ArenaTrait.room g.A.ArenaTrait.live_entries last is.made before) is.counts is.happens)
    (subst (λ last. Happens g.A.ArenaTrait.entry_at g.A.ArenaTrait.live_count g.A.ArenaTrait.counter
    g.A.ArenaTrait.room g.A.ArenaTrait.live_entries last (reached is.made before) after) is.counts
    (subst (λ s. Happens g.A.ArenaTrait.entry_at g.A.ArenaTrait.live_count g.A.ArenaTrait.counter
    g.A.ArenaTrait.room g.A.ArenaTrait.live_entries g.P.Gen.PtrGenCore.last s after) leads more)) p
    one
    (subst (λ s. Finds g.A.ArenaTrait.entry_at s p → ⊥) leads none)
    (subst (λ s. Finds g.A.ArenaTrait.entry_at (reached s after) p) leads found)

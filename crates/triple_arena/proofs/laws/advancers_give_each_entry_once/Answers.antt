use Rattle.std.specs.Option.{option_map}
use Rattle.triple_arena.proofs.AdvancerLemmas.{advances_give, ahead_is_live, ahead_in_order}
use Rattle.triple_arena.proofs.AdvancerLemmas.{all_ahead}
use Rattle.triple_arena.proofs.laws.advancers_give_each_entry_once.Goals as goal

pub returns-clause-given : goal.returns-clause-given
returns-clause-given g c arena advancer left given run =
    advances_give (g.A.ArenaTrait.entry_at arena) (g.A.ArenaTrait.live_entries arena)
    (g.met.A.ArenaTrait.none_at_zero arena)
    (g.met.A.ArenaTrait.entry_listed arena) (g.met.A.ArenaTrait.live_entries_increase arena) _
    g.A.ArenaTrait.walk
    (option_map (λ p. (g.P.PtrCore.index p, g.P.PtrCore.generation p)))
    (λ before given after step. g.met.A.ArenaTrait.advances before arena given after step) given
    advancer left run

pub returns-clause-live : goal.returns-clause-live
returns-clause-live g c arena walk p =
    ahead_is_live (g.A.ArenaTrait.entry_at arena) (g.A.ArenaTrait.live_entries arena)
    (g.met.A.ArenaTrait.none_at_zero arena)
    (g.met.A.ArenaTrait.entry_listed arena) (g.met.A.ArenaTrait.live_entries_increase arena) walk p

pub returns-clause-order : goal.returns-clause-order
returns-clause-order g c arena walk =
    ahead_in_order (g.A.ArenaTrait.entry_at arena) (g.A.ArenaTrait.live_entries arena)
    (g.met.A.ArenaTrait.none_at_zero arena)
    (g.met.A.ArenaTrait.entry_listed arena) (g.met.A.ArenaTrait.live_entries_increase arena) walk

pub returns-clause-all : goal.returns-clause-all
returns-clause-all g c arena walk whole =
    all_ahead (g.A.ArenaTrait.entry_at arena) (g.A.ArenaTrait.live_entries arena)
    (g.met.A.ArenaTrait.none_at_zero arena)
    (g.met.A.ArenaTrait.entry_listed arena) (g.met.A.ArenaTrait.live_entries_increase arena) walk
    whole

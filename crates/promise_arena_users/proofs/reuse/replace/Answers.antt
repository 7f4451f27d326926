use Rattle.promise_arena_users.proofs.ReuseLemmas.{put_over, where_valid, never_given, ended}
use Rattle.promise_arena_users.proofs.reuse.replace.Goals as goal

pub returns-in-Ok-clause-others : goal.returns-in-Ok-clause-others
returns-in-Ok-clause-others g c =
    put_over (g.A.ArenaTrait.entry_at c.args.arena.now) (g.A.ArenaTrait.entry_at c.remove.new.self)
    (g.A.ArenaTrait.entry_at c.insert_within_capacity.new.self)
    _ _ _ (where_valid _ c.in_default.not-InvalidPtr c.remove.ensures.removed).entries
    c.in-Ok.ensures.inserted.entries

pub returns-in-Ok-clause-never_given : goal.returns-in-Ok-clause-never_given
returns-in-Ok-clause-never_given g c history reached stays =
    never_given _ _ _ _ _ _ history reached stays
    (where_valid _ c.in_default.not-InvalidPtr c.remove.ensures.removed)
    c.in-Ok.ensures.inserted c.pointers_are_given_once.ensures

pub returns-in-Ok-clause-ended : goal.returns-in-Ok-clause-ended
returns-in-Ok-clause-ended g c history later reached stays one happens some =
    ended _ _ _ _ _ _ history reached stays
    (where_valid _ c.in_default.not-InvalidPtr c.remove.ensures.removed)
    c.in-Ok.ensures.inserted
    c.ended_pointers_find_nothing.ensures _ one later happens

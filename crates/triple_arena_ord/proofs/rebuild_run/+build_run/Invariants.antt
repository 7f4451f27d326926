use Rattle.triple_arena_ord.proofs.rebuild_run.+build_run.Given as goal

-- how many entries the part has
abbrev pub decreases-build_run : goal.decreases-build_run
decreases-build_run g l = l.count

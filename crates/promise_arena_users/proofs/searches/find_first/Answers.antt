use Rattle.std.proofs.Common.{refl}
use Rattle.std.specs.Fn.{FnReturnsAt}
use Rattle.triple_arena.specs.IteratorLaws.{search_passes, search_finds, search_ends}
use Rattle.triple_arena.specs.LiveEntries.{live_entries}
use Rattle.promise_arena_users.proofs.searches.find_first.Goals as goal

pub returns-then-test : goal.returns-then-test
returns-then-test g c =
    search_finds (λ t b. FnReturnsAt g.F.Fn c.args.test t b) c.args.arena.now _ _ _ _
    c.in-Some.value.now c.loop-p.invariant c.in-Some.ensures.steps
    record { shown = c.in-Some.value; shows = refl; says = record { met = c.if-test.ensures } }

pub loop-p-preserved : goal.loop-p-preserved
loop-p-preserved g c =
    search_passes (λ t b. FnReturnsAt g.F.Fn c.args.test t b) (live_entries c.args.arena.now) _ _ _
    c.loop-p.invariant c.in-Some.ensures.steps record
    { shown = c.in-Some.value; shows = refl; says = record { met = c.if-test.ensures } }

pub returns : goal.returns
returns g c = search_ends (λ t b. FnReturnsAt g.F.Fn c.args.test t b) c.args.arena.now _
    c.loop-p.invariant c.in-None.ensures.steps.0

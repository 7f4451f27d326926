use Rattle.std.proofs.Common.{◌≡◌, rules}
use Rattle.triple_arena.specs.DirectContent.{as_content, live_entries}
use Rattle.triple_arena.specs.IteratorLaws.{search_passes, search_finds, search_ends}
use Rattle.promise_arena_users.proofs.searches.find_equal.Goals as goal

pub returns-then-eq : goal.returns-then-eq
returns-then-eq g c =
    search_finds (λ t b. b ≡ g.T.PartialEq.eq t c.args.wanted.now) (as_content c.args.arena.now) _ _
    _ _ c.in-Some.value.now c.loop-p.invariant
    c.in-Some.ensures.steps (search rules)

pub loop-p-preserved : goal.loop-p-preserved
loop-p-preserved g c =
    search_passes (λ t b. b ≡ g.T.PartialEq.eq t c.args.wanted.now) (live_entries c.args.arena.now)
    _ _ _ c.loop-p.invariant c.in-Some.ensures.steps
    (search rules)

pub returns : goal.returns
returns g c =
    search_ends (λ t b. b ≡ g.T.PartialEq.eq t c.args.wanted.now) (as_content c.args.arena.now) _
    c.loop-p.invariant c.in-None.ensures.steps.0

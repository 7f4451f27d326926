use Rattle.std.proofs.Common.{rules, ◌≡◌, ◌≢◌, ◌++◌, ◌∷◌, Some, IsSome, subst}
use Rattle.triple_arena.specs.Content.{get}
use Rattle.example_chain.specs.Caches.{AreByUse, IsCache}
use Rattle.example_chain.proofs.CacheLemmas.{value_of_get, get_of_value, touched, touched_cache}
use Rattle.example_chain.proofs.CacheLemmas.{stays}
use Rattle.example_chain.proofs.ReversalLemmas.{on_some}
use Rattle.example_chain.proofs.cache.Cache.touch.Goals as goal

pub returns-then-is_some-clause-first : goal.returns-then-is_some-clause-first
returns-then-is_some-clause-first g c = λ front back is.
    let index = g.P.PtrCore.index in
    let generation = g.P.PtrCore.generation in
    let number = g.P.Inx.PtrInxCore.number in
    let old = c.args.self.now.entries in
    let p = c.args.p in
    let q = c.in_ok-latest.latest in
    let some : IsSome c.move_prev_to.result = search rules in
    let met = c.move_prev_to.ensures.variant.0 some in
    let latest : c.args.self.now.latest ≡ Some q = search rules in
    touched index generation number old c.move_prev_to.new.self q p
    (on_some c.move_prev_to.result some c.move_prev_to.ensures.moved)
    (value_of_get old (index p) (generation p) met.0) met.2 front back
    (subst (λ l. AreByUse index generation old l (front ++ index p ∷ back)) latest is)

pub returns-then-is_some-clause-cache : goal.returns-then-is_some-clause-cache
returns-then-is_some-clause-cache g c =
    let index = g.P.PtrCore.index in
    let generation = g.P.PtrCore.generation in
    let number = g.P.Inx.PtrInxCore.number in
    let old = c.args.self.now.entries in
    let p = c.args.p in
    let q = c.in_ok-latest.latest in
    let some : IsSome c.move_prev_to.result = search rules in
    let met = c.move_prev_to.ensures.variant.0 some in
    let latest : c.args.self.now.latest ≡ Some q = search rules in
    touched_cache index generation number old c.move_prev_to.new.self q p
    (on_some c.move_prev_to.result some c.move_prev_to.ensures.moved)
    (value_of_get old (index p) (generation p) met.0) met.2
    (subst (IsCache index generation old) latest c.requires)

pub returns-else-is_some-clause-first : goal.returns-else-is_some-clause-first
returns-else-is_some-clause-first g c = λ front back is.
    let index = g.P.PtrCore.index in
    let generation = g.P.PtrCore.generation in
    let number = g.P.Inx.PtrInxCore.number in
    let old = c.args.self.now.entries in
    let p = c.args.p in
    let q = c.in_ok-latest.latest in
    let latest : c.args.self.now.latest ≡ Some q = search rules in
    let cache = subst (IsCache index generation old) latest c.requires in
    let live_p : IsSome (get old (index p) (generation p)) = search rules in
    let live_q = get_of_value old (index q) (generation q) cache.1.live in
    let same : (index p ≢ index q) → ⊥ = λ differs.
    let some = c.move_prev_to.ensures.variant.1 (live_p, live_q, differs) in search (rules, some)
    in
    let at = stays index generation number old old q p same front back
    (subst (λ l. AreByUse index generation old l (front ++ index p ∷ back)) latest is) in
    search (rules, at)

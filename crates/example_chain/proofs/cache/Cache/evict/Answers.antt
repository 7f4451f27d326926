use Rattle.std.proofs.Common.{rules, ◌≡◌, ◌++◌, ◌∷◌, [], Some, None, subst}
use Rattle.linked_lists.specs.LinkedLists.{prev_in}
use Rattle.triple_arena_chain.specs.Links.{ends_found, IsTakenOut}
use Rattle.example_chain.specs.Caches.{AreByUse, IsCache}
use Rattle.example_chain.proofs.CacheLemmas.{never_none, prev_found, parts_last, is_oldest, left}
use Rattle.example_chain.proofs.cache.Cache.evict.Goals as goal

pub returns-in_err-oldest-clause-none : goal.returns-in_err-oldest-clause-none
returns-in_err-oldest-clause-none g c =
    let index = g.P.PtrCore.index in
    let generation = g.P.PtrCore.generation in
    let number = g.P.Inx.PtrInxCore.number in
    let old = c.args.self.now.entries in
    let q = c.in_ok-latest.latest in
    let latest : c.args.self.now.latest ≡ Some q = search rules in
    let cache = subst (IsCache index generation old) latest c.requires in
    let none : prev_in (ends_found old (index q) (generation q)) ≡ None = search rules in
    absurd (never_none index generation number old q cache.0 cache.1 none)

pub returns-clause-oldest : goal.returns-clause-oldest
returns-clause-oldest g c = λ front i is.
    let index = g.P.PtrCore.index in
    let generation = g.P.PtrCore.generation in
    let number = g.P.Inx.PtrInxCore.number in
    let last = g.P.Gen.PtrGenCore.last in
    let old = c.args.self.now.entries in
    let new = c.remove_link_no_gen.new.self in
    let q = c.in_ok-latest.latest in
    let o = c.in_ok-oldest.oldest in
    let latest : c.args.self.now.latest ≡ Some q = search rules in
    let taken : IsTakenOut last (index o) old new = search rules in
    let found : prev_in (ends_found old (index q) (generation q)) ≡ Some (index o) =
    search rules in
    let own = subst (λ l. AreByUse index generation old l (front ++ i ∷ [])) latest is in
    let prev = prev_found index generation number old q (front ++ i ∷ []) own (index o) found in (
      is_oldest index generation number old new last q o taken prev front i own,
      left index generation number old new last q o taken prev front i own c.if_there-self.result
          c.if_there-self.ensures.there c.if_there-self.ensures.gone,
    )

pub returns-clause-cache : goal.returns-clause-cache
returns-clause-cache g c =
    let index = g.P.PtrCore.index in
    let generation = g.P.PtrCore.generation in
    let number = g.P.Inx.PtrInxCore.number in
    let last = g.P.Gen.PtrGenCore.last in
    let old = c.args.self.now.entries in
    let new = c.remove_link_no_gen.new.self in
    let q = c.in_ok-latest.latest in
    let o = c.in_ok-oldest.oldest in
    let latest : c.args.self.now.latest ≡ Some q = search rules in
    let taken : IsTakenOut last (index o) old new = search rules in
    let found : prev_in (ends_found old (index q) (generation q)) ≡ Some (index o) =
    search rules in
    let cache = subst (IsCache index generation old) latest c.requires in
    let parts = parts_last cache.0 (index q) cache.1.first in
    let own = subst (AreByUse index generation old (Some q)) parts.1.1 cache.1 in
    let prev = prev_found index generation number old q (parts.0 ++ parts.1.0 ∷ []) own (index o)
    found in (
      parts.0,
      left index generation number old new last q o taken prev parts.0 parts.1.0 own
          c.if_there-self.result c.if_there-self.ensures.there c.if_there-self.ensures.gone,
    )

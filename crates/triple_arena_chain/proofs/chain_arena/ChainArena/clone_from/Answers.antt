use Rattle.std.proofs.Common.{rules, Some}
use Rattle.triple_arena.specs.Content.{cleared, reallocated}
use Rattle.triple_arena.specs.Copy.{last_listed}
use Rattle.triple_arena.specs.LiveEntries.{live_entries}
use Rattle.triple_arena_chain.specs.Links.{ends_in, IsChained}
use Rattle.triple_arena_chain.specs.Listed.{listed_value}
use Rattle.triple_arena_chain.proofs.LinkCopyLemmas.{listed_as_value, values_unmade, ends-cloned}
use Rattle.triple_arena_chain.proofs.LinkCopyLemmas.{chained_after}
use Rattle.triple_arena_chain.specs.LinkCopyLaws.{on_ok, chains_where}
use Rattle.triple_arena_chain.proofs.chain_arena.ChainArena.clone_from.Goals as goal

chained : (g : _) (c : goal.After-clone_from g)
    → IsChained c.clone_from.new.self
chained g c =
    chained_after
    (ends_in c.source.inside.arena) c.self.inside.arena
    c.clone_from.new.self
    (λ d. cleared g.P.Gen.PtrGenCore.last
    (reallocated d (last_listed (live_entries c.source.inside.arena)))) _ _ _ _
    c.clone_from.result c.source.invariant.agreed
    c.self.invariant c.clone_from.ensures.formed
    (on_ok c.clone_from.result
    (ends-cloned c.source.inside.arena c.self.inside.arena
    c.clone_from.new.self (Some c.source.inside.arena.counter))
    c.clone_from.ensures.exact)
    c.clone_from.ensures.kept c.clone_from.ensures.unmade

pub invariant_of-self : goal.invariant_of-self
invariant_of-self g c = chained g c

pub returns-clause-unmade : goal.returns-clause-unmade
returns-clause-unmade g c =
    rw (← c.self.view_is, ← c.source.view_is)
    (λ failed. values_unmade _ _ _
    (λ d. cleared g.P.Gen.PtrGenCore.last
    (reallocated d (last_listed (live_entries c.source.inside.arena)))) _ _ _ _
    (c.clone_from.ensures.unmade failed) (λ refuses never. refuses (λ k e at.
    let sure : g.T.Clone.is_infallible e.1.1.t =
    never k (listed_value e) (listed_as_value _ k e at) in
    search (rules, g.met.P.Inx.PtrInxCore.always_clones))))

pub returns-clause-lists : goal.returns-clause-lists
returns-clause-lists g c =
    rw (← c.source.view_is)
    (on_ok c.clone_from.result
    (λ is. chains_where _ _
    (ends-cloned c.source.inside.arena c.self.inside.arena
    c.clone_from.new.self (Some c.source.inside.arena.counter) is))
    c.clone_from.ensures.exact)

pub returns-clause-formed : goal.returns-clause-formed
returns-clause-formed g c = chained g c

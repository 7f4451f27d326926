use Rattle.std.specs.Prelude.{OnOk}
use Rattle.std.proofs.Common.{◌≡◌, ◌∙◌, ap, ℕ, inl, inr}
use Rattle.triple_arena.specs.Content.{cleared, reallocated}
use Rattle.triple_arena.specs.Copy.{last_listed}
use Rattle.triple_arena_chain.specs.LinkCopies.{listed_ends}
use Rattle.triple_arena_chain.specs.Links.{ends_in, IsChained}
use Rattle.triple_arena_chain.proofs.LinkCopyLemmas.{values_new, ends_linked, chained_after}
use Rattle.triple_arena_chain.specs.LinkCopyLaws.{on_ok, chains_where}
use Rattle.triple_arena_chain.proofs.chain_arena.ChainArena.clone_from_with.Goals as goal

same : (g : _) (c : goal.After-copy_links g) → OnOk c.copy_links.result ((k : ℕ)
    → ends_in c.copy_links.new.target k
    ≡ g.A.LinkCloneSource.ends c.args.source.now k)
same g c =
    on_ok c.copy_links.result
    (λ copy k. ends_linked g.A.Link.Neighbors.neighbors _
    c.copy_links.new.target copy k
    ∙ ap (λ a. listed_ends g.A.Link.Neighbors.neighbors
    (g.A.Links.ArenaTrait.live_entries a) k)
    c.links.ensures.same
    ∙ g.met.A.LinkCloneSource.linked c.args.source.now k)
    c.copy_links.ensures.linked

chained : (g : _) (c : goal.After-copy_links g)
    → IsChained c.copy_links.new.target
chained g c =
    chained_after (g.A.LinkCloneSource.ends c.args.source.now)
    c.self.inside.arena c.copy_links.new.target
    (λ d. cleared g.P.Gen.PtrGenCore.last
    (reallocated d (last_listed (g.A.Links.ArenaTrait.live_entries c.links.result.now))))
    g.S.NonZeroInxGenericStack.takes_memory g.P.Gen.PtrGenCore.last
    (last_listed (g.A.Links.ArenaTrait.live_entries c.links.result.now)) (Unit {0})
    c.copy_links.result c.links.ensures.agreed
    c.self.invariant c.copy_links.ensures.formed (same g c) c.copy_links.ensures.kept
    (λ failed. elim (c.copy_links.ensures.unmade failed) [
      | inl left ↦ inl (left.0, left.1, left.2)
      | inr empty ↦ inr (tt, empty.1.0, empty.1.1)
    ])

pub invariant_of-self : goal.invariant_of-self
invariant_of-self g c = chained g c

pub returns-clause-linked : goal.returns-clause-linked
returns-clause-linked g c = same g c

pub returns-clause-lists : goal.returns-clause-lists
returns-clause-lists g c = on_ok c.copy_links.result (chains_where _ _) (same g c)

pub returns-clause-unmade : goal.returns-clause-unmade
returns-clause-unmade g c =
    rw (← c.self.view_is, ← c.links.ensures.same)
    (λ failed. elim (c.copy_links.ensures.unmade failed) [
      | inl left ↦ inl (left.0, left.1, left.2)
      | inr empty ↦ inr (empty.0, values_new _ _ _ empty.1.0, empty.1.1)
    ])

pub returns-clause-formed : goal.returns-clause-formed
returns-clause-formed g c = chained g c

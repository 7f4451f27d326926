use Rattle.std.proofs.Common.{ℕ, List, ◌∷◌, Some, IfSome, subst}
use Rattle.triple_arena_chain.specs.declared.gap.Gap.{Gap}
use Rattle.triple_arena_chain.specs.Links.{gap_among, IsLinkInserted}
use Rattle.example_chain.specs.Caches.{AreByUse, kind_for}
use Rattle.example_chain.proofs.CacheLemmas.{gap_there, added}
use Rattle.example_chain.proofs.PlaylistLemmas.{told}
use Rattle.example_chain.proofs.cache.Cache.add.Given.{Over}
use Rattle.example_chain.proofs.cache.Cache.add.Goals.{In_ok-p}
use Rattle.example_chain.proofs.cache.Cache.add.Goals as goal

module _ (g : Over) (c : In_ok-p g) where
  -- the entry is in a gap
  abbrev Inserted : Gap ℕ → Type 0
  Inserted gap =
      IsLinkInserted gap (g.P.PtrCore.index c.in_ok-p.p) (g.P.PtrCore.generation c.in_ok-p.p)
      c.args.t c.args.self.now.entries c.insert_within_capacity.new.self

  inserted : IfSome (gap_among g.P.PtrCore.index g.P.PtrCore.generation g.P.Inx.PtrInxCore.number
      c.args.self.now.entries (kind_for c.args.self.now.latest)) Inserted
  inserted =
      subst (λ k. IfSome (gap_among g.P.PtrCore.index g.P.PtrCore.generation
      g.P.Inx.PtrInxCore.number c.args.self.now.entries k) Inserted)
      c.kind-kind.ensures c.in_ok-p.ensures.inserts.inserted

  -- it is used first
  first : (uses : List ℕ)
      → AreByUse g.P.PtrCore.index g.P.PtrCore.generation c.args.self.now.entries
      c.args.self.now.latest uses
      → AreByUse g.P.PtrCore.index g.P.PtrCore.generation c.insert_within_capacity.new.self
      (Some c.in_ok-p.p) (g.P.PtrCore.index c.in_ok-p.p ∷ uses)
  first uses is =
      added g.P.PtrCore.index g.P.PtrCore.generation g.P.Inx.PtrInxCore.number
      c.args.self.now.entries c.insert_within_capacity.new.self c.args.self.now.latest c.in_ok-p.p
      c.args.t (gap_there _ _ _ _ _ uses is) inserted uses is

  -- what holds of an entry in any gap
  tells : {X : Type 0} → ((gap : Gap ℕ) → Inserted gap → X) → X
  tells =
      told c.args.self.now.entries c.insert_within_capacity.new.self
      (g.P.PtrCore.index c.in_ok-p.p) (g.P.PtrCore.generation c.in_ok-p.p) c.args.t _
      (gap_there _ _ _ _ _ c.requires.0 c.requires.1) inserted

pub returns-clause-first : goal.returns-clause-first
returns-clause-first g c = first g (goal.at.returns-clause-first g c).In_ok-p

pub returns-clause-cache : goal.returns-clause-cache
returns-clause-cache g c = (
  g.P.PtrCore.index c.in_ok-p.p ∷ c.requires.0,
  first g (goal.at.returns-clause-cache g c).In_ok-p c.requires.0 c.requires.1,
)

pub returns-clause-fresh : goal.returns-clause-fresh
returns-clause-fresh g c =
    tells g (goal.at.returns-clause-fresh g c).In_ok-p (λ gap at. at.generation)

pub returns-clause-counter : goal.returns-clause-counter
returns-clause-counter g c =
    tells g (goal.at.returns-clause-counter g c).In_ok-p (λ gap at. at.counter)

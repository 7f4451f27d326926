use Rattle.std.proofs.Common.{◌≡◌, ℕ, rules, Some, inl, inr}
use Rattle.triple_arena_ptr.specs.Generation.{second_generation}
use Rattle.triple_arena.specs.ArenaRoom.{room_of}
use Rattle.triple_arena.specs.Content.{empty}
use Rattle.triple_arena.specs.Copy.{last_listed}
use Rattle.triple_arena.specs.LiveEntries.{live_entries}
use Rattle.triple_arena_chain.specs.Links.{ends_in, IsChained}
use Rattle.triple_arena_chain.specs.Listed.{listed_value}
use Rattle.triple_arena_chain.proofs.LinkCopyLemmas.{listed_as_value, ends-cloned}
use Rattle.triple_arena_chain.specs.LinkCopyLaws.{chains_where}
use Rattle.triple_arena_chain.proofs.SameLinksLemmas.{chained-same_ends}
use Rattle.triple_arena_chain.proofs.chain_arena.ChainArena.clone.Goals as goal

same : (g : _) (c : goal.In-Ok g) (k : ℕ)
    → ends_in c.in-Ok.arena k
    ≡ ends_in c.self.inside.arena k
same g c =
    ends-cloned c.self.inside.arena
    (empty (second_generation g.P.Gen.PtrGenCore.last)
    (room_of g.P.Inx.PtrInxCore.greatest
    (g.S.NonZeroInxGenericStack.room_at (last_listed (live_entries c.self.inside.arena)))))
    c.in-Ok.arena (Some c.self.inside.arena.counter) (c.in-Ok.ensures).exact

chained : (g : _) (c : goal.In-Ok g) → IsChained c.in-Ok.arena
chained g c =
    chained-same_ends c.self.inside.arena
    c.in-Ok.arena c.self.invariant (c.in-Ok.ensures).formed (same g c)

pub invariant_of-result : goal.invariant_of-result
invariant_of-result g c = chained g c

pub returns-in-Ok-clause-lists : goal.returns-in-Ok-clause-lists
returns-in-Ok-clause-lists g c = rw (← c.self.view_is) (chains_where _ _ (same g c))

pub returns-in-Ok-clause-formed : goal.returns-in-Ok-clause-formed
returns-in-Ok-clause-formed g c = chained g c

pub returns-in-Err-clause-unmade : goal.returns-in-Err-clause-unmade
returns-in-Err-clause-unmade g c =
    rw (← c.self.view_is)
    (λ failed. elim ((c.in-Err.ensures).unmade failed) [
      | inl memory ↦ inl memory
      | inr refused ↦
          inr (λ never. refused (λ k e at.
          let sure : g.T.Clone.is_infallible e.1.1.t =
          never k (listed_value e) (listed_as_value _ k e at) in
          search (rules, g.met.P.Inx.PtrInxCore.always_clones)))
    ])

use Rattle.std.proofs.Common.{rules, ◌≡◌, ℕ, Some, None, IsSome, option_map}
use Rattle.triple_arena.specs.Content.{entry_at}
use Rattle.linked_lists.specs.LinkedLists.{prev_at, unlinked}
use Rattle.triple_arena_chain.specs.Links.{ends_in, ends_found, with_next_of, with_prev_of}
use Rattle.triple_arena_chain.specs.Links.{IsChained}
use Rattle.linked_lists.specs.JoinLaws.{is_split}
use Rattle.triple_arena_chain.proofs.ConnectionLemmas.{prev_live, parted_prev, prev_found}
use Rattle.triple_arena_chain.proofs.ConnectionLemmas.{prev_read, Relinked}
use Rattle.triple_arena_chain.proofs.chain_arena.chain_calls.ChainArenaChainArenaTrait.break_prev.Given.{Over}
use Rattle.triple_arena_chain.proofs.chain_arena.chain_calls.ChainArenaChainArenaTrait.break_prev.Goals.{After-part}
use Rattle.triple_arena_chain.proofs.chain_arena.chain_calls.ChainArenaChainArenaTrait.break_prev.Goals as goal

pub part-requires-clause-before : goal.part-requires-clause-before
part-requires-clause-before g c =
    let number = g.P.Inx.PtrInxCore.number in
    let is = prev_read number _ _ _ _ c.in-Some-Some-default.ensures
    c.in-Some-Some-default.field-0-0-is in
    let live : IsSome (entry_at c.args.self.now (number c.in-Some-Some-default.prev)) =
    prev_live c.args.self.now (g.P.PtrCore.index c.args.p) _ _ _ c.recall_chained.ensures is in
    search rules

module _ (g : Over) (c : After-part g) where
  abbrev p : ℕ
  p = g.P.PtrCore.index c.args.p

  abbrev b : ℕ
  b = g.P.Inx.PtrInxCore.number c.in-Some-Some-default.prev

  -- the ends that were read
  at_p : ends_found c.args.self.now p (g.P.PtrCore.generation c.args.p)
      ≡ Some (Some b, option_map g.P.Inx.PtrInxCore.number c.in-Some-Some-default.field-0-1)
  at_p =
      prev_read g.P.Inx.PtrInxCore.number _ _ _ _ c.in-Some-Some-default.ensures
      c.in-Some-Some-default.field-0-0-is

  made : c.part.new.arena
      ≡ with_prev_of (with_next_of c.args.self.now (Some b) None)
      (Some (g.P.Inx.PtrInxCore.number c.inx.result)) None
  made = search rules

  done : (q : ℕ) → prev_at (ends_in c.args.self.now) p ≡ Some q
      → Relinked (unlinked (ends_in c.args.self.now) q p) c.args.self.now c.part.new.arena
  done =
      parted_prev c.args.self.now c.part.new.arena b (g.P.Inx.PtrInxCore.number c.inx.result) p _ _
      c.recall_chained.ensures c.inx.ensures at_p made

  chained : IsChained c.part.new.arena
  chained = (done b (prev_found c.args.self.now p _ b _ at_p)).chained

pub invariant_of-self : goal.invariant_of-self
invariant_of-self = chained

pub returns-clause-formed : goal.returns-clause-formed
returns-clause-formed = chained

pub returns-clause-lists : goal.returns-clause-lists
returns-clause-lists g c q prev =
    let agreed = c.recall_chained.ensures.agreed in
    is_split (ends_in c.args.self.now) (ends_in c.part.new.arena) q
    (g.P.PtrCore.index c.args.p) agreed
    (chained g c).agreed (agreed.backward q (g.P.PtrCore.index c.args.p) prev)
    (done g c q prev).relinked.ends

pub returns-clause-relinked : goal.returns-clause-relinked
returns-clause-relinked g c q prev = (done g c q prev).relinked

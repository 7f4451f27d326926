use Rattle.std.proofs.Common.{rules, ◌≡◌, ℕ, Some, None, IsSome, option_map}
use Rattle.triple_arena.specs.Content.{entry_at}
use Rattle.linked_lists.specs.LinkedLists.{next_at, unlinked}
use Rattle.triple_arena_chain.specs.Links.{ends_in, ends_found, with_next_of, with_prev_of}
use Rattle.triple_arena_chain.specs.Links.{IsChained}
use Rattle.linked_lists.specs.JoinLaws.{is_split}
use Rattle.triple_arena_chain.proofs.ConnectionLemmas.{next_live, parted_next, next_found}
use Rattle.triple_arena_chain.proofs.ConnectionLemmas.{next_read, Relinked}
use Rattle.triple_arena_chain.proofs.chain_arena.chain_calls.ChainArenaChainArenaTrait.break_next.Given.{Over}
use Rattle.triple_arena_chain.proofs.chain_arena.chain_calls.ChainArenaChainArenaTrait.break_next.Goals.{After-part}
use Rattle.triple_arena_chain.proofs.chain_arena.chain_calls.ChainArenaChainArenaTrait.break_next.Goals as goal

pub part-requires-clause-after : goal.part-requires-clause-after
part-requires-clause-after g c =
    let number = g.P.Inx.PtrInxCore.number in
    let is = next_read number _ _ _ _ c.in-Some-default-Some.ensures
    c.in-Some-default-Some.field-0-1-is in
    let live : IsSome (entry_at c.args.self.now (number c.in-Some-default-Some.next)) =
    next_live c.args.self.now (g.P.PtrCore.index c.args.p) _ _ _ c.recall_chained.ensures is in
    search rules

module _ (g : Over) (c : After-part g) where
  abbrev p : ℕ
  p = g.P.PtrCore.index c.args.p

  abbrev n : ℕ
  n = g.P.Inx.PtrInxCore.number c.in-Some-default-Some.next

  -- the ends that were read
  at_p : ends_found c.args.self.now p (g.P.PtrCore.generation c.args.p)
      ≡ Some (option_map g.P.Inx.PtrInxCore.number c.in-Some-default-Some.field-0-0, Some n)
  at_p =
      next_read g.P.Inx.PtrInxCore.number _ _ _ _ c.in-Some-default-Some.ensures
      c.in-Some-default-Some.field-0-1-is

  made : c.part.new.arena
      ≡ with_prev_of
      (with_next_of c.args.self.now (Some (g.P.Inx.PtrInxCore.number c.inx.result)) None)
      (Some n) None
  made = search rules

  done : (q : ℕ) → next_at (ends_in c.args.self.now) p ≡ Some q
      → Relinked (unlinked (ends_in c.args.self.now) p q) c.args.self.now c.part.new.arena
  done =
      parted_next c.args.self.now c.part.new.arena (g.P.Inx.PtrInxCore.number c.inx.result) n p _ _
      c.recall_chained.ensures c.inx.ensures at_p made

  chained : IsChained c.part.new.arena
  chained = (done n (next_found c.args.self.now p _ n _ at_p)).chained

pub invariant_of-self : goal.invariant_of-self
invariant_of-self = chained

pub returns-clause-formed : goal.returns-clause-formed
returns-clause-formed = chained

pub returns-clause-lists : goal.returns-clause-lists
returns-clause-lists g c q next =
    is_split (ends_in c.args.self.now) (ends_in c.part.new.arena)
    (g.P.PtrCore.index c.args.p) q c.recall_chained.ensures.agreed
    (chained g c).agreed next (done g c q next).relinked.ends

pub returns-clause-relinked : goal.returns-clause-relinked
returns-clause-relinked g c q next = (done g c q next).relinked

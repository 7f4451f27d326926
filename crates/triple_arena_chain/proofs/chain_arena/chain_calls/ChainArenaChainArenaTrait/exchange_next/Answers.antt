use Rattle.std.proofs.Common.{rules, ◌≡◌, ℕ, Some, IsSome, option_map}
use Rattle.triple_arena.specs.Content.{entry_at}
use Rattle.linked_lists.specs.LinkedLists.{next_at, exchanged}
use Rattle.triple_arena_chain.specs.Links.{ends_in, ends_found, with_next_of, with_prev_of}
use Rattle.linked_lists.specs.TurnLaws.{is_exchanged}
use Rattle.triple_arena_chain.proofs.ConnectionLemmas.{next_live, found_live, live_written}
use Rattle.triple_arena_chain.proofs.ConnectionLemmas.{exchanged_at, next_read, next_found}
use Rattle.triple_arena_chain.proofs.ConnectionLemmas.{Relinked}
use Rattle.triple_arena_chain.proofs.chain_arena.chain_calls.ChainArenaChainArenaTrait.exchange_next.Given.{Over}
use Rattle.triple_arena_chain.proofs.chain_arena.chain_calls.ChainArenaChainArenaTrait.exchange_next.Goals.{After-follow}
use Rattle.triple_arena_chain.proofs.chain_arena.chain_calls.ChainArenaChainArenaTrait.exchange_next.Goals as goal

pub follow-requires-clause-after : goal.follow-requires-clause-after
follow-requires-clause-after g c =
    let number = g.P.Inx.PtrInxCore.number in
    let at_q = next_read number _ _ _ _ c.in-Some-default-Some-ends_of.ensures
    c.in-Some-default-Some-ends_of.field-0-1-is in
    let live : IsSome (entry_at c.args.self.now (number c.in-Some-default-Some-ends_of.t)) =
    next_live c.args.self.now (g.P.PtrCore.index c.args.q) _ _ _ c.recall_chained.ensures at_q in
    search rules

module _ (g : Over) (c : After-follow g) where
  abbrev p : ℕ
  p = g.P.PtrCore.index c.args.p

  abbrev q : ℕ
  q = g.P.PtrCore.index c.args.q

  abbrev i : ℕ
  i = g.P.Inx.PtrInxCore.number c.inx-i.result

  abbrev j : ℕ
  j = g.P.Inx.PtrInxCore.number c.inx-j.result

  abbrev s : ℕ
  s = g.P.Inx.PtrInxCore.number c.in-Some-default-Some.s

  abbrev t : ℕ
  t = g.P.Inx.PtrInxCore.number c.in-Some-default-Some-ends_of.t

  -- the ends that were read
  at_p : ends_found c.args.self.now p (g.P.PtrCore.generation c.args.p)
      ≡ Some (option_map g.P.Inx.PtrInxCore.number c.in-Some-default-Some.field-0-0, Some s)
  at_p =
      next_read g.P.Inx.PtrInxCore.number _ _ _ _ c.in-Some-default-Some.ensures
      c.in-Some-default-Some.field-0-1-is

  at_q : ends_found c.args.self.now q (g.P.PtrCore.generation c.args.q)
      ≡ Some (option_map g.P.Inx.PtrInxCore.number c.in-Some-default-Some-ends_of.field-0-0, Some t)
  at_q =
      next_read g.P.Inx.PtrInxCore.number _ _ _ _ c.in-Some-default-Some-ends_of.ensures
      c.in-Some-default-Some-ends_of.field-0-1-is

  -- the nexts that were there
  out_p : next_at (ends_in c.args.self.now) p ≡ Some s
  out_p = next_found c.args.self.now p _ s _ at_p

  out_q : next_at (ends_in c.args.self.now) q ≡ Some t
  out_q = next_found c.args.self.now q _ t _ at_q

  first : c.follow.new.arena
      ≡ with_prev_of (with_next_of c.args.self.now (Some i) (Some t)) (Some t) (Some i)
  first = search rules

  -- what is live stays so at the first exchange
  stays : (k : ℕ) → IsSome (entry_at c.args.self.now k) → IsSome (entry_at c.follow.new.arena k)
  stays k =
      live_written c.args.self.now c.follow.new.arena (Some i) (Some t) (Some t) (Some i) k first

  done : (d : _)
      → d ≡ with_prev_of (with_next_of c.follow.new.arena (Some j) (Some s)) (Some s) (Some j)
      → (m n : ℕ) → next_at (ends_in c.args.self.now) p ≡ Some m
      → next_at (ends_in c.args.self.now) q ≡ Some n
      → Relinked (exchanged (ends_in c.args.self.now) p q m n) c.args.self.now d
  done d second =
      exchanged_at c.args.self.now c.follow.new.arena d i j s t p _ q _ _ _
      c.recall_chained.ensures c.inx-i.ensures c.inx-j.ensures at_p at_q first second

pub follow-requires-2-clause-before : goal.follow-requires-2-clause-before
follow-requires-2-clause-before g c =
    let before = (goal.at.follow-requires-2-clause-before g c).After-follow in
    stays g before (j g before)
    (found_live c.args.self.now (j g before) (q g before) _ _ c.inx-j.ensures (at_q g before))

pub follow-requires-2-clause-after : goal.follow-requires-2-clause-after
follow-requires-2-clause-after g c =
    let before = (goal.at.follow-requires-2-clause-after g c).After-follow in
    stays g before (s g before)
    (next_live c.args.self.now (p g before) _ _ _ c.recall_chained.ensures (at_p g before))

pub invariant_of-self : goal.invariant_of-self
invariant_of-self g c =
    let before = (goal.at.invariant_of-self g c).After-follow in
    (done g before _ c.follow-2.ensures _ _ (out_p g before) (out_q g before)).chained

pub returns-clause-formed : goal.returns-clause-formed
returns-clause-formed g c =
    let before = (goal.at.returns-clause-formed g c).After-follow in
    (done g before _ c.follow-2.ensures _ _ (out_p g before) (out_q g before)).chained

pub returns-clause-lists : goal.returns-clause-lists
returns-clause-lists g c =
    let before = (goal.at.returns-clause-lists g c).After-follow in
    let one = done g before _ c.follow-2.ensures _ _ (out_p g before) (out_q g before) in
    is_exchanged (ends_in c.args.self.now) (ends_in c.follow-2.new.arena)
    (p g before) (q g before) (s g before) (t g before)
    c.recall_chained.ensures.agreed one.chained.agreed (out_p g before) (out_q g before)
    one.relinked.ends

pub returns-clause-relinked : goal.returns-clause-relinked
returns-clause-relinked g c m n next_p next_q =
    (done g (goal.at.returns-clause-relinked g c).After-follow _ c.follow-2.ensures
    m n next_p next_q).relinked

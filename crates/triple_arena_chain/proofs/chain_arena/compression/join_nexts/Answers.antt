use Rattle.std.proofs.Common.{◌≡◌, ◌≤◌, Some, IsSome, option_map, sym, subst, ◌∙◌}
use Rattle.triple_arena.specs.Content.{entry_at}
use Rattle.triple_arena.specs.Walk.{past}
use Rattle.linked_lists.specs.LinkedLists.{next_at}
use Rattle.triple_arena_chain.specs.Links.{ends_in}
use Rattle.triple_arena.specs.WalkLaws.{passed_by}
use Rattle.triple_arena_chain.proofs.PassLemmas.{found_live, IsJoined, unchanged, live_as}
use Rattle.triple_arena_chain.proofs.PassLemmas.{joined_none, next_live, joined_one}
use Rattle.triple_arena_chain.proofs.chain_arena.compression.join_nexts.Goals as goal

pub loop-p-init : goal.loop-p-init
loop-p-init g c =
    record {
      rises = c.advancer-advancer.ensures.rises;
      reaches = c.advancer-advancer.ensures.high;
      joined = joined_none c.args.arena.now _
          c.advancer-advancer.ensures.low c.requires.alone c.requires.formed;
    }

pub read_next-next-requires-clause-live : goal.read_next-next-requires-clause-live
read_next-next-requires-clause-live g c =
    subst (λ k. IsSome (entry_at c.loop-p.arena k)) (sym c.inx-i.ensures)
    (found_live (entry_at c.loop-p.arena) _ _ (c.in-Some.ensures).given.0.live)

pub set_prev-requires-clause-live : goal.set_prev-requires-clause-live
set_prev-requires-clause-live g c =
    next_live c.args.arena.now c.loop-p.advancer.low c.loop-p.arena
    (option_map g.P.Inx.PtrInxCore.number c.read_next-next.result) _ c.loop-p.invariant.joined
    c.requires.live c.read_next-next.ensures

pub loop-p-preserved : goal.loop-p-preserved
loop-p-preserved g c =
    let after : c.advance.new.self ≡ past c.loop-p.advancer (g.P.PtrCore.index c.in-Some.p) =
    (c.in-Some.ensures).given.1 in
    let rises = c.loop-p.invariant.rises in
    let next = passed_by c.loop-p.advancer c.advance.new.self (g.P.PtrCore.index c.in-Some.p) rises
    after in
    let same =
    live_as c.loop-p.arena c.set_prev.new.arena
    (unchanged c.loop-p.arena c.set_prev.new.arena
    (option_map g.P.Inx.PtrInxCore.number c.read_next-next.result)
    (Some (g.P.Inx.PtrInxCore.number c.inx-i.result)) c.set_prev.ensures) in
    record {
      rises = next.rises;
      reaches = λ j some. subst (λ h. j ≤ h) (sym next.high)
          (c.loop-p.invariant.reaches j (sym (same j) ∙ some));
      joined =
          subst (λ n. IsJoined c.args.arena.now n c.set_prev.new.arena)
          (sym next.low)
          (joined_one c.args.arena.now c.requires.apart c.loop-p.arena
          c.set_prev.new.arena c.loop-p.advancer
          (g.P.PtrCore.index c.in-Some.p) (g.P.PtrCore.generation c.in-Some.p)
          (g.P.Inx.PtrInxCore.number c.inx-i.result)
          c.loop-p.invariant.joined rises (c.in-Some.ensures).given.0
          c.inx-i.ensures (option_map g.P.Inx.PtrInxCore.number c.read_next-next.result)
          (subst (λ n. option_map g.P.Inx.PtrInxCore.number c.read_next-next.result
          ≡ next_at (ends_in c.loop-p.arena) n) c.inx-i.ensures
          c.read_next-next.ensures)
          (next_live c.args.arena.now c.loop-p.advancer.low c.loop-p.arena
          (option_map g.P.Inx.PtrInxCore.number c.read_next-next.result) _ c.loop-p.invariant.joined
          c.requires.live c.read_next-next.ensures)
          c.set_prev.ensures);
    }

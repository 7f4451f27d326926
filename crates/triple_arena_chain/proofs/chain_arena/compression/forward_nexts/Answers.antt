use Rattle.std.proofs.Common.{option_map}
use Rattle.std.proofs.Common.{◌≡◌, ◌≤◌, Some, IsSome, sym, ap, subst, ◌∙◌}
use Rattle.linked_lists.specs.LinkedLists.{next_at}
use Rattle.triple_arena.specs.Content.{entry_at}
use Rattle.triple_arena.specs.Walk.{past}
use Rattle.triple_arena_chain.specs.Links.{ends_in}
use Rattle.triple_arena_chain.specs.Renaming.{forwarded, prev_of}
use Rattle.triple_arena.specs.WalkLaws.{passed_by}
use Rattle.triple_arena_chain.proofs.PassLemmas.{found_live, passed_next, IsPassed, next_unchanged}
use Rattle.triple_arena_chain.proofs.PassLemmas.{live_as, begun, free_forwarded, forwarded_one}
use Rattle.triple_arena_chain.proofs.chain_arena.compression.forward_nexts.Goals as goal

pub loop-p-init : goal.loop-p-init
loop-p-init g c =
    record {
      rises = c.advancer-advancer.ensures.rises;
      reaches = c.advancer-advancer.ensures.high;
      passed =
          begun _ c.args.arena.now
          (free_forwarded c.args.arena.now) _
          c.advancer-advancer.ensures.low
          c.requires.formed;
    }

pub name_of_next-renamed-requires-clause-live : goal.name_of_next-renamed-requires-clause-live
name_of_next-renamed-requires-clause-live g c =
    subst (λ k. IsSome (entry_at c.loop-p.arena k)) (sym c.inx-i.ensures)
    (found_live (entry_at c.loop-p.arena) _ _ (c.in-Some.ensures).given.0.live)

pub name_of_next-renamed-requires-clause-next : goal.name_of_next-renamed-requires-clause-next
name_of_next-renamed-requires-clause-next g c =
    let number = g.P.Inx.PtrInxCore.number in
    λ q goes.
    passed_next c.args.arena.now c.loop-p.arena c.loop-p.advancer.low
    c.loop-p.invariant.passed c.requires.live (g.P.PtrCore.index c.in-Some.p)
    (c.in-Some.ensures).given.0.ahead.0 q
    (ap (next_at (ends_in c.loop-p.arena)) (sym c.inx-i.ensures) ∙ goes)

pub loop-p-preserved : goal.loop-p-preserved
loop-p-preserved g c =
    let after : c.advance.new.self ≡ past c.loop-p.advancer (g.P.PtrCore.index c.in-Some.p) =
    (c.in-Some.ensures).given.1 in
    let rises = c.loop-p.invariant.rises in
    let next = passed_by c.loop-p.advancer c.advance.new.self (g.P.PtrCore.index c.in-Some.p) rises
    after in
    let same =
    live_as c.loop-p.arena c.set_next.new.arena
    (next_unchanged c.loop-p.arena c.set_next.new.arena
    (Some (g.P.Inx.PtrInxCore.number c.inx-i.result))
    (option_map g.P.Inx.PtrInxCore.number c.name_of_next-renamed.result) c.set_next.ensures) in
    record {
      rises = next.rises;
      reaches = λ j some. subst (λ h. j ≤ h) (sym next.high)
          (c.loop-p.invariant.reaches j (sym (same j) ∙ some));
      passed =
          subst
          (λ n. IsPassed
          (forwarded (ends_in c.args.arena.now)) n c.args.arena.now
          c.set_next.new.arena)
          (sym next.low)
          (forwarded_one c.args.arena.now c.loop-p.arena
          c.set_next.new.arena c.loop-p.advancer (g.P.PtrCore.index c.in-Some.p)
          (g.P.PtrCore.generation c.in-Some.p) (g.P.Inx.PtrInxCore.number c.inx-i.result)
          (option_map g.P.Inx.PtrInxCore.number c.name_of_next-renamed.result)
          c.loop-p.invariant.passed rises
          (c.in-Some.ensures).given.0 c.inx-i.ensures
          (c.name_of_next-renamed.ensures
          ∙ ap (λ n. prev_of (ends_in c.loop-p.arena)
          (next_at (ends_in c.loop-p.arena) n))
          c.inx-i.ensures)
          c.set_next.ensures);
    }

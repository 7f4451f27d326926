use Rattle.std.proofs.Common.{option_map}
use Rattle.std.proofs.Common.{◌≡◌, ◌≤◌, Some, rules, arith, sym, ap, subst, ◌∙◌}
use Rattle.triple_arena_ptr.specs.Index.{max_index_of}
use Rattle.triple_arena.specs.Content.{entry_at}
use Rattle.triple_arena.specs.Walk.{past}
use Rattle.triple_arena_chain.specs.Links.{ends_in}
use Rattle.triple_arena_chain.specs.Renaming.{live_below, numbered}
use Rattle.triple_arena.specs.WalkLaws.{passed_by}
use Rattle.triple_arena_chain.proofs.PassLemmas.{IsPassed, found_live, unchanged, live_as, begun}
use Rattle.triple_arena_chain.proofs.PassLemmas.{free_numbered, IsCounted, counted, numbered_one}
use Rattle.triple_arena_chain.proofs.chain_arena.compression.number_links.Goals as goal

pub loop-p-init : goal.loop-p-init
loop-p-init g c =
    let low = c.advancer-advancer.ensures.low in
    record {
      rises = c.advancer-advancer.ensures.rises;
      reaches = c.advancer-advancer.ensures.high;
      indexes = λ j some. let within = c.capacity.ensures.indexes j some in let bound =
          c.capacity.ensures.bounded in omega (arith, within, bound);
      count = ap (live_below (ends_in c.args.arena.now)) (sym low);
      passed = begun _ c.args.arena.now
          (free_numbered c.args.arena.now) _ low c.requires;
    }

is_counted : (g : _) (c : goal.After-set_prev g)
    → IsCounted c.args.arena.now c.loop-p.arena c.loop-p.advancer
    (g.P.PtrCore.index c.in-Some.p) c.loop-p.count
is_counted g c =
    counted c.args.arena.now c.loop-p.arena c.loop-p.advancer
    (g.P.PtrCore.index c.in-Some.p) (g.P.PtrCore.generation c.in-Some.p) c.loop-p.count
    c.loop-p.invariant.passed c.loop-p.invariant.rises (c.in-Some.ensures).given.0
    c.loop-p.invariant.count

within : (g : _) (c : goal.After-set_prev g)
    → g.P.PtrCore.index c.in-Some.p ≤ max_index_of g.P.Inx.PtrInxCore.greatest
within g c = c.loop-p.invariant.indexes (g.P.PtrCore.index c.in-Some.p)
    (found_live (entry_at c.loop-p.arena) _ _ (c.in-Some.ensures).given.0.live)

pub overflow_add-count : goal.overflow_add-count
overflow_add-count g c =
    let below = (is_counted g c).below in
    let index = within g c in
    search (rules, below, index)

pub loop-p-preserved : goal.loop-p-preserved
loop-p-preserved g c =
    let below = (is_counted g c).below in
    let index = within g c in
    let after : c.advance.new.self ≡ past c.loop-p.advancer (g.P.PtrCore.index c.in-Some.p) =
    (c.in-Some.ensures).given.1 in
    let rises = c.loop-p.invariant.rises in
    let next = passed_by c.loop-p.advancer c.advance.new.self (g.P.PtrCore.index c.in-Some.p) rises
    after in
    let same = live_as c.loop-p.arena c.set_prev.new.arena
    (unchanged c.loop-p.arena c.set_prev.new.arena (Some (g.P.Inx.PtrInxCore.number c.inx.result))
    (option_map g.P.Inx.PtrInxCore.number c.try_from_usize.result) c.set_prev.ensures) in
    record {
      rises = next.rises;
      reaches = λ j some. subst (λ h. j ≤ h) (sym next.high)
          (c.loop-p.invariant.reaches j (sym (same j) ∙ some));
      indexes = λ j some. c.loop-p.invariant.indexes j (sym (same j) ∙ some);
      count = (is_counted g c).after
          ∙ ap (live_below (ends_in c.args.arena.now)) (sym next.low);
      passed =
          subst (λ n. IsPassed
          (numbered (ends_in c.args.arena.now)) n c.args.arena.now
          c.set_prev.new.arena) (sym next.low)
          (numbered_one c.args.arena.now g.P.Inx.PtrInxCore.number c.loop-p.arena
          c.set_prev.new.arena c.loop-p.advancer (g.P.PtrCore.index c.in-Some.p)
          (g.P.PtrCore.generation c.in-Some.p) c.loop-p.count g.P.Inx.PtrInxCore.greatest _
          (g.P.Inx.PtrInxCore.number c.inx.result) c.try_from_usize.result c.loop-p.invariant.passed
          rises
          (c.in-Some.ensures).given.0 (is_counted g c) c.inx.ensures c.set_prev.ensures
          c.try_from_usize.ensures.past c.try_from_usize.ensures.same
          (let fits = c.saturating_add-number.ensures in omega (arith, fits, below, index))
          (omega (arith, index)));
    }

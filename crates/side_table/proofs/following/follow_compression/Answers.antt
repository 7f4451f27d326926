use Rattle.std.proofs.Common.{◌≤◌, ◌∙◌, sym, subst, arith, refl}
use Rattle.triple_arena.specs.DirectContent.{entry_at}
use Rattle.triple_arena.specs.WalkLaws.{step_is, end_all}
use Rattle.side_table.proofs.SideTableLemmas.{IsCarriedTo, none_carried, carried_on, reaches_on}
use Rattle.side_table.proofs.SideTableLemmas.{all_carried}
use Rattle.side_table.proofs.following.follow_compression.Goals as goal

pub loop-old-init : goal.loop-old-init
loop-old-init g c =
    let low = c.advancer-walk.ensures.low in
    record {
      rises = c.advancer-walk.ensures.rises;
      reaches = c.advancer-walk.ensures.high;
      carried = none_carried g.P.PtrCore.index g.P.PtrCore.generation (entry_at c.args.map.now)
          (entry_at c.args.table.now) c.advancer-walk.result.low (omega (arith, low)) refl;
      room = refl;
      formed = c.len.ensures.formed;
    }

pub loop-old-preserved : goal.loop-old-preserved
loop-old-preserved g c =
    let inv = c.loop-old.invariant in
    let index = g.P.PtrCore.index in
    let generation = g.P.PtrCore.generation in
    let named = entry_at c.args.map.now in
    let old = entry_at c.args.table.now in
    let now = entry_at c.loop-old.table in
    let after = entry_at c.follow_one.new.table in
    let w = c.loop-old.walk in
    let i = index c.in-Some.old in
    let h = generation c.in-Some.old in
    let st = step_is now w c.advance.new.self inv.rises i h c.in-Some.ensures.given in
    let made = c.follow_one.ensures.entries in
    record {
      rises = st.still_rises;
      reaches = λ j some. subst (λ n. j ≤ n) (sym st.high)
          (reaches_on index generation named old c.requires.down w.low i h w.high now after
          st.within made inv.reaches j some);
      carried = subst (λ n. IsCarriedTo index generation named old n after) (sym st.low)
          (carried_on index generation named old c.requires.rises c.requires.down w.low i h now
          after inv.carried st.up st.between st.live made);
      room = c.follow_one.ensures.room ∙ inv.room;
      formed = c.follow_one.ensures.formed;
    }

pub returns-clause-carried : goal.returns-clause-carried
returns-clause-carried g c =
    let inv = c.loop-old.invariant in
    let now = entry_at c.loop-old.table in
    all_carried g.P.PtrCore.index g.P.PtrCore.generation (entry_at c.args.map.now)
    (entry_at c.args.table.now) c.loop-old.walk.low now c.requires.down inv.carried
    (end_all now c.loop-old.walk c.advance.new.self inv.rises inv.reaches
    c.in_default.ensures.given)

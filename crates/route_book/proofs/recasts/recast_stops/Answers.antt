use Rattle.std.proofs.Common.{◌∙◌, arith}
use Rattle.ticket_book.specs.Mirrors.{numbers}
use Rattle.ticket_book.specs.WalkLaws.{IsCasting, cast_below, cast_end}
use Rattle.triple_arena.specs.ContentLaws.{live_value}
use Rattle.route_book.specs.Item.{StopView}
use Rattle.route_book.specs.Packing.{recast_stop}
use Rattle.route_book.proofs.PassedLemmas.{counted_below, passes_on}
use Rattle.route_book.proofs.recasts.recast_stops.Given.{Over}
use Rattle.route_book.proofs.recasts.recast_stops.Goals.{After-advance}
use Rattle.route_book.proofs.recasts.recast_stops.Goals as goal

module _ (g : Over) (c : After-advance g) where
  abbrev cast : StopView → StopView
  cast = recast_stop
      (numbers g.P.PtrCore.index g.P.PtrCore.generation
      (g.M.ArenaTrait.entry_at c.args.places.now))

  casting : IsCasting cast (g.A.ArenaTrait.entry_at c.args.stops.now)
      (g.A.ArenaTrait.entry_at c.loop-p.stops) (g.A.ArenaTrait.walk c.loop-p.walk)
  casting =
      let inv = c.loop-p.invariant in
      record {
        rises = inv.rises;
        reaches = inv.reaches;
        passed = inv.passed;
        ahead = inv.ahead;
      }

pub loop-p-preserved-in-Some-get_mut : goal.loop-p-preserved-in-Some-get_mut
loop-p-preserved-in-Some-get_mut g c =
    let before = (goal.at.loop-p-preserved-in-Some-get_mut g c).After-advance in
    let inv = c.loop-p.invariant in
    let i = g.P.PtrCore.index c.in-Some.p in
    let on = passes_on (cast g before) _ _ _ (g.A.ArenaTrait.walk c.advance.new.self)
    (casting g before) _ i _ _ _ (g.met.A.ArenaTrait.advances _ _ _ _ c.in-Some.ensures.given)
    c.in-Some-get_mut.ensures.value c.recast.ensures
    (g.met.A.ArenaTrait.entry_with_value c.loop-p.stops i c.recast.new.self) in
    record {
      rises = on.casting.rises;
      reaches = on.casting.reaches;
      passed = on.casting.passed;
      ahead = on.casting.ahead;
      live = g.met.A.ArenaTrait.live_with_value _ _ _ ∙ inv.live;
      counter = g.met.A.ArenaTrait.counter_with_value _ _ _ ∙ inv.counter;
      room = g.met.A.ArenaTrait.room_with_value _ _ _ ∙ inv.room;
      kept = λ f law. law _ _ _ ∙ inv.kept f law;
      kept_list = λ f law. law _ _ _ ∙ inv.kept_list f law;
      looks = omega (arith, c.tick.ensures, inv.looks, on.count);
    }

pub returns-clause-entries : goal.returns-clause-entries
returns-clause-entries g c =
    let last = (goal.at.returns-clause-entries g c).After-advance in
    cast_end (cast g last) _ _ _ (g.A.ArenaTrait.walk c.advance.new.self) (casting g last)
    (g.met.A.ArenaTrait.advances _ _ _ _ c.in_default.ensures.given)

pub returns-clause-looks : goal.returns-clause-looks
returns-clause-looks g c =
    let last = (goal.at.returns-clause-looks g c).After-advance in
    let arena = c.args.stops.now in
    let n = counted_below (g.A.ArenaTrait.entry_at arena) (g.A.ArenaTrait.live_entries arena)
    (g.met.A.ArenaTrait.entry_listed arena) (g.met.A.ArenaTrait.live_entries_increase arena)
    (g.A.ArenaTrait.live_count arena) (g.met.A.ArenaTrait.live_entries_counted arena) _
    (cast_below (cast g last) _ _ _ (g.A.ArenaTrait.walk c.advance.new.self) (casting g last)
    (g.met.A.ArenaTrait.advances _ _ _ _ c.in_default.ensures.given)) in
    omega (arith, c.loop-p.invariant.looks, n)

-- the pointer that the walk gives finds its entry
pub loop-p-preserved : goal.loop-p-preserved
loop-p-preserved g c =
    let step = g.met.A.ArenaTrait.advances _ _ _ _ c.in-Some.ensures.given in
    absurd (live_value (g.A.ArenaTrait.entry_at c.loop-p.stops) (g.P.PtrCore.index c.in-Some.p)
    (g.P.PtrCore.generation c.in-Some.p) step.0.live c.in_default-get_mut.ensures.value)

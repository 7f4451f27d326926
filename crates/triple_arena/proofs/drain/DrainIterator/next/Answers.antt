use Rattle.std.proofs.Common.{ap, arith, length, refl, Some, None}
use Rattle.triple_arena.specs.ContentLaws.{live_value}
use Rattle.triple_arena.specs.DrainLaws.{left-removed}
use Rattle.triple_arena.proofs.DrainLemmas.{FirstLeft, first_left, removal_made, none_ahead}
use Rattle.triple_arena.proofs.DrainLemmas.{none_listed, all_gone, removals_none}
use Rattle.triple_arena.proofs.drain.DrainIterator.next.Goals as goal

-- what the step took
succeeded : (g : _) (c : goal.In-Success g)
    → FirstLeft g.A.ArenaTrait.entry_at g.A.ArenaTrait.live_entries c.args.self.now.arena.now
    c.remove.new.self
    (g.P.PtrCore.index c.in-Some.p, (g.P.PtrCore.generation c.in-Some.p, c.in-Success.t))
    (g.A.ArenaTrait.walk c.advance.new.self)
succeeded g c =
    first_left g.A.ArenaTrait.entry_at g.A.ArenaTrait.live_entries g.met.A.ArenaTrait.entry_listed
    g.met.A.ArenaTrait.live_entries_increase
    c.args.self.now.arena.now c.remove.new.self (g.A.ArenaTrait.walk c.args.self.now.walk)
    (g.A.ArenaTrait.walk c.advance.new.self)
    (g.P.PtrCore.index c.in-Some.p) (g.P.PtrCore.generation c.in-Some.p) c.in-Success.t c.requires
    (g.met.A.ArenaTrait.advances c.args.self.now.walk c.args.self.now.arena.now (Some c.in-Some.p)
    c.advance.new.self c.in-Some.ensures.given)
    c.in-Success.ensures.value c.in-Success.ensures.removed.entries

overflowed : (g : _) (c : goal.In-GenerationOverflow g)
    → FirstLeft g.A.ArenaTrait.entry_at g.A.ArenaTrait.live_entries c.args.self.now.arena.now
    c.remove.new.self
    (g.P.PtrCore.index c.in-Some.p, (g.P.PtrCore.generation c.in-Some.p, c.in-GenerationOverflow.t))
    (g.A.ArenaTrait.walk c.advance.new.self)
overflowed g c =
    first_left g.A.ArenaTrait.entry_at g.A.ArenaTrait.live_entries g.met.A.ArenaTrait.entry_listed
    g.met.A.ArenaTrait.live_entries_increase
    c.args.self.now.arena.now c.remove.new.self (g.A.ArenaTrait.walk c.args.self.now.walk)
    (g.A.ArenaTrait.walk c.advance.new.self)
    (g.P.PtrCore.index c.in-Some.p) (g.P.PtrCore.generation c.in-Some.p) c.in-GenerationOverflow.t
    c.requires
    (g.met.A.ArenaTrait.advances c.args.self.now.walk c.args.self.now.arena.now (Some c.in-Some.p)
    c.advance.new.self c.in-Some.ensures.given)
    c.in-GenerationOverflow.ensures.value c.in-GenerationOverflow.ensures.removed.entries

pub returns-in-Success-clause-steps : goal.returns-in-Success-clause-steps
returns-in-Success-clause-steps g c =
    let took = succeeded g c in
    let removed = c.in-Success.ensures.removed in
    let left = left-removed _ g.met.A.ArenaTrait.drains c.args.self.now.arena.now c.remove.new.self
    (g.P.PtrCore.index c.in-Some.p) removed in (
      removal_made g.P.Gen.PtrGenCore.last (g.A.ArenaTrait.counter c.args.self.now.arena.now)
          took.first c.in-Success.ensures.overflow removed.counter,
      (refl, left),
      took.ahead,
      c.in-Success.ensures.exact,
    )

pub returns-in-Success-clause-goes : goal.returns-in-Success-clause-goes
returns-in-Success-clause-goes g c =
    let took = succeeded g c in
    let removal = removal_made g.P.Gen.PtrGenCore.last
    (g.A.ArenaTrait.counter c.args.self.now.arena.now) took.first c.in-Success.ensures.overflow
    c.in-Success.ensures.removed.counter in
    let fewer = ap length removal in
    record {
      on = λ finite. (took.ahead, finite, omega (arith, fewer));
      keeps = took.ahead;
      rests = λ _. tt;
    }

pub returns-in-GenerationOverflow-clause-steps : goal.returns-in-GenerationOverflow-clause-steps
returns-in-GenerationOverflow-clause-steps g c =
    let took = overflowed g c in
    let removed = c.in-GenerationOverflow.ensures.removed in
    let left = left-removed _ g.met.A.ArenaTrait.drains c.args.self.now.arena.now c.remove.new.self
    (g.P.PtrCore.index c.in-Some.p) removed in (
      removal_made g.P.Gen.PtrGenCore.last (g.A.ArenaTrait.counter c.args.self.now.arena.now)
          took.first c.in-GenerationOverflow.ensures.overflow removed.counter,
      (refl, left),
      took.ahead,
      c.in-GenerationOverflow.ensures.exact,
    )

pub returns-in-GenerationOverflow-clause-goes : goal.returns-in-GenerationOverflow-clause-goes
returns-in-GenerationOverflow-clause-goes g c =
    let took = overflowed g c in
    let removal = removal_made g.P.Gen.PtrGenCore.last
    (g.A.ArenaTrait.counter c.args.self.now.arena.now) took.first
    c.in-GenerationOverflow.ensures.overflow c.in-GenerationOverflow.ensures.removed.counter in
    let fewer = ap length removal in
    record {
      on = λ finite. (took.ahead, finite, omega (arith, fewer));
      keeps = took.ahead;
      rests = λ _. tt;
    }

pub returns-in-InvalidPtr-clause-steps : goal.returns-in-InvalidPtr-clause-steps
returns-in-InvalidPtr-clause-steps g c =
    let step = g.met.A.ArenaTrait.advances c.args.self.now.walk c.args.self.now.arena.now
    (Some c.in-Some.p) c.advance.new.self c.in-Some.ensures.given in
    absurd (live_value (g.A.ArenaTrait.entry_at c.args.self.now.arena.now)
    (g.P.PtrCore.index c.in-Some.p) (g.P.PtrCore.generation c.in-Some.p) step.0.live
    c.in-InvalidPtr.ensures.value)

pub returns-in-None-clause-steps : goal.returns-in-None-clause-steps
returns-in-None-clause-steps g c =
    let old = c.args.self.now.arena.now in
    let step = g.met.A.ArenaTrait.advances c.args.self.now.walk old None c.advance.new.self
    c.in-None.ensures.given in
    let none = none_ahead (g.A.ArenaTrait.entry_at old) (g.A.ArenaTrait.walk c.args.self.now.walk)
    c.requires step.0 in
    let empty = none_listed (g.A.ArenaTrait.entry_at old) (g.A.ArenaTrait.live_entries old)
    (g.met.A.ArenaTrait.entry_listed old) none in
    let over = removals_none g.P.Gen.PtrGenCore.last (g.A.ArenaTrait.counter old) empty in (
      (over, over),
      (refl, refl),
      all_gone (g.A.ArenaTrait.entry_at old) (g.A.ArenaTrait.walk c.advance.new.self) none,
      refl,
    )

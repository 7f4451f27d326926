use Rattle.std.proofs.Common.{◌≡◌, Some, None, rules, sym, ap, length, ◌∙◌, arith}
use Rattle.triple_arena.specs.Changes.{IsRemoved}
use Rattle.triple_arena.specs.ContentLaws.{live_value}
use Rattle.triple_arena.specs.Entries.{value_if}
use Rattle.triple_arena.proofs.DrainLemmas.{first_left, FirstLeft, none_ahead, none_listed}
use Rattle.triple_arena.proofs.capacity_drain.CapacityDrainIterator.next.Goals as goal

pub returns-in_err-p-clause-steps : goal.returns-in_err-p-clause-steps
returns-in_err-p-clause-steps g c =
    let old = c.self.inside.arena in
    let step = g.met.A.ArenaTrait.advances c.self.inside.walk old None c.advance.new.self
    c.in_err-p.ensures.given in
    let none = none_ahead (g.A.ArenaTrait.entry_at old) (g.A.ArenaTrait.walk c.self.inside.walk)
    c.self.invariant step.0 in
    let over = none_listed (g.A.ArenaTrait.entry_at old) (g.A.ArenaTrait.live_entries old)
    (g.met.A.ArenaTrait.entry_listed old) none in
    rw c.from_residual.ensures (sym c.self.view_is ∙ over, over)

pub returns-in_err-value : goal.returns-in_err-value
returns-in_err-value g c =
    let old = c.self.inside.arena in
    let step = g.met.A.ArenaTrait.advances c.self.inside.walk old (Some c.in_ok-p.p)
    c.advance.new.self c.in_ok-p.ensures.given in
    let none = sym c.in_err-value.was ∙ c.allow.ensures ∙ c.remove.ensures.value in
    absurd (live_value (g.A.ArenaTrait.entry_at old) (g.P.PtrCore.index c.in_ok-p.p)
    (g.P.PtrCore.generation c.in_ok-p.p) step.0.live none)

-- what the step took
taken : (g : _) (c : goal.In_ok-value g)
    → FirstLeft g.A.ArenaTrait.entry_at g.A.ArenaTrait.live_entries c.self.inside.arena
    c.remove.new.self
    (g.P.PtrCore.index c.in_ok-p.p, (g.P.PtrCore.generation c.in_ok-p.p, c.in_ok-value.value))
    (g.A.ArenaTrait.walk c.advance.new.self)
taken g c =
    let old = c.self.inside.arena in
    let i = g.P.PtrCore.index c.in_ok-p.p in
    let k = g.P.PtrCore.generation c.in_ok-p.p in
    let value : Some c.in_ok-value.value ≡ value_if k (g.A.ArenaTrait.entry_at old i) =
    search rules in
    let removed : IsRemoved g.A.ArenaTrait.entry_at g.A.ArenaTrait.live_count g.A.ArenaTrait.counter
    g.A.ArenaTrait.room g.P.Gen.PtrGenCore.last i old
    c.remove.new.self = search rules in
    first_left g.A.ArenaTrait.entry_at g.A.ArenaTrait.live_entries g.met.A.ArenaTrait.entry_listed
    g.met.A.ArenaTrait.live_entries_increase old
    c.remove.new.self (g.A.ArenaTrait.walk c.self.inside.walk)
    (g.A.ArenaTrait.walk c.advance.new.self) i k c.in_ok-value.value c.self.invariant
    (g.met.A.ArenaTrait.advances c.self.inside.walk old (Some c.in_ok-p.p) c.advance.new.self
    c.in_ok-p.ensures.given) value removed.entries

pub invariant_of-self-2 : goal.invariant_of-self-2
invariant_of-self-2 g c = (taken g c).ahead

pub returns-clause-steps : goal.returns-clause-steps
returns-clause-steps g c = sym c.self.view_is ∙ (taken g c).first

pub returns-clause-goes : goal.returns-clause-goes
returns-clause-goes g c =
    let fewer = ap length (sym c.self.view_is ∙ (taken g c).first) in
    record { on = λ finite. (tt, finite, omega (arith, fewer)); keeps = tt; rests = λ _. tt }

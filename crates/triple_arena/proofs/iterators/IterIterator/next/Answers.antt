use Rattle.std.proofs.Common.{map, length, rules, sym, ap, ◌∙◌, arith}
use Rattle.triple_arena.specs.Iterators.{with_part}
use Rattle.triple_arena.proofs.IteratorLemmas.{behind_live, behind_free}
use Rattle.triple_arena.proofs.iterators.IterIterator.next.Goals as goal

pub overflow_sub-self : goal.overflow_sub-self
overflow_sub-self g c =
    let inside = c.loop-slot.self-inside in
    let counted = c.loop-slot.invariant.cursor.counted in
    let first = behind_live g.E.LentEntry.shown inside.slots.now inside.passed c.in-Some.slot _
    c.in-Some.ensures.lookup c.in-Some-lent_entry.ensures in
    let long = ap length first in
    omega (arith, counted, long)

pub invariant_of-self : goal.invariant_of-self
invariant_of-self g c =
    let inside = c.loop-slot.self-inside in
    let counted = c.loop-slot.invariant.cursor.counted in
    let first = behind_live g.E.LentEntry.shown inside.slots.now inside.passed c.in-Some.slot _
    c.in-Some.ensures.lookup c.in-Some-lent_entry.ensures in
    let long = ap length first in
    record {
      counted = omega (arith, counted, long);
      indexed = c.loop-slot.invariant.cursor.indexed;
    }

pub returns-in-Some-lent_entry-clause-steps : goal.returns-in-Some-lent_entry-clause-steps
returns-in-Some-lent_entry-clause-steps g c =
    let inside = c.loop-slot.self-inside in
    let first = behind_live g.E.LentEntry.shown inside.slots.now inside.passed c.in-Some.slot _
    c.in-Some.ensures.lookup c.in-Some-lent_entry.ensures in
    sym c.loop-slot.invariant.same ∙ ap (map (with_part g.M.Part.part)) first ∙ search rules

pub returns-in-Some-lent_entry-clause-goes : goal.returns-in-Some-lent_entry-clause-goes
returns-in-Some-lent_entry-clause-goes g c =
    let fewer = ap length (returns-in-Some-lent_entry-clause-steps g c) in
    record { on = λ finite. (tt, finite, omega (arith, fewer)); keeps = tt; rests = λ _. tt }

pub loop-slot-preserved : goal.loop-slot-preserved
loop-slot-preserved g c =
    let inside = c.loop-slot.self-inside in
    let free = behind_free g.E.LentEntry.shown inside.slots.now inside.passed c.in-Some.slot
    c.in-Some.ensures.lookup (search rules) in
    record {
      cursor = record {
        counted = c.loop-slot.invariant.cursor.counted ∙ ap length free;
        indexed = c.loop-slot.invariant.cursor.indexed;
      };
      same = ap (map (with_part g.M.Part.part)) (sym free) ∙ c.loop-slot.invariant.same;
    }

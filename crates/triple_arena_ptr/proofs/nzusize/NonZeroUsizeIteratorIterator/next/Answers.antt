use Rattle.std.proofs.Common.{sym, ◌∙◌, ap, length, arith}
use Rattle.std.specs.Int.NonZero.{non_zero_usize_get}
use Rattle.triple_arena_ptr.proofs.NonZeroUsizeIteratorLemmas.{numbers_front, fewer_left}
use Rattle.triple_arena_ptr.proofs.nzusize.NonZeroUsizeIteratorIterator.next.Goals as goal

pub returns-in-Some-clause-steps : goal.returns-in-Some-clause-steps
returns-in-Some-clause-steps c =
    let within = c.if-self-get.false in
    let first = c.get.ensures.value in
    sym c.self.view_is
    ∙ numbers_front (non_zero_usize_get c.self.inside.first) (non_zero_usize_get c.in-Some.second)
    c.self.inside.last (omega arith) c.in-Some.ensures

pub returns-in-Some-clause-goes : goal.returns-in-Some-clause-goes
returns-in-Some-clause-goes c = fewer_left _ _ _ (ap length (returns-in-Some-clause-steps c))

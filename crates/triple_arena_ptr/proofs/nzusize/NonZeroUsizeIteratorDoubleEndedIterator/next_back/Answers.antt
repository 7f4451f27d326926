use Rattle.std.proofs.Common.{sym, ◌∙◌, ap, ◌-◌, ◌∷◌, [], length, length-append, arith}
use Rattle.std.specs.Int.NonZero.{non_zero_usize_get}
use Rattle.triple_arena_ptr.proofs.NonZeroUsizeIteratorLemmas.{numbers_back, fewer_left}
use Rattle.triple_arena_ptr.proofs.nzusize.NonZeroUsizeIteratorDoubleEndedIterator.next_back.Goals as goal

pub returns-clause-steps : goal.returns-clause-steps
returns-clause-steps c =
    let within = c.if-get.false in
    let last = c.get.ensures in
    let first = c.get-2.ensures in
    let last' = c.get-3.ensures in
    let taken = c.in_ok-last.ensures in
    sym c.self.view_is
    ∙ numbers_back (non_zero_usize_get c.self.inside.first) c.self.inside.last (c.get-3.result - 1)
    (non_zero_usize_get c.in_ok-last.last) (omega arith) (omega arith) taken

pub returns-clause-goes : goal.returns-clause-goes
returns-clause-goes c =
    let one = ap length (returns-clause-steps c) in
    fewer_left _ _ _ (one ∙ length-append _ (_ ∷ []) ∙ omega arith)

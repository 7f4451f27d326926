use Rattle.std.proofs.Common.{length}
use Rattle.route_book.specs.Book.{KeepsRooms}
use Rattle.route_book_c.proofs.AnswerLemmas.{Carried}
use Rattle.route_book_c.proofs.answering.answer_lines.Given as goal

abbrev pub invariant-loop-line : goal.invariant-loop-line
invariant-loop-line g l = record {
  carried : Carried l.fn.input l.left l.initial.book.state l.book.state l.written l.initial.room
      l.room;
  rooms : KeepsRooms l.initial.book l.book;
}

abbrev pub decreases-loop-line : goal.decreases-loop-line
decreases-loop-line g l = length l.left

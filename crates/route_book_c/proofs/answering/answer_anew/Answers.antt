use Rattle.route_book_c.proofs.AnswerLemmas.{short_from}
use Rattle.route_book_c.proofs.answering.answer_anew.Goals as goal

pub returns-clause-short : goal.returns-clause-short
returns-clause-short g c is =
    short_from c.args.input.now _ _ c.answer_all.result.taken _ c.in_ok-book.ensures.made
    (c.answer_all.ensures.short is)

use Rattle.route_book_c.proofs.AnswerLemmas.{replies_rest, rest_after, rest_short, some_left}
use Rattle.route_book_c.proofs.answering.answer_all.Goals as goal

pub returns-in-Some-clause-replies : goal.returns-in-Some-clause-replies
returns-in-Some-clause-replies g c =
    let lines = c.answer_lines-progress.ensures in
    replies_rest _ _ _ _ _ _ _ _ lines.answers (lines.all c.if-progress.false) lines.cut
    (some_left _ _ lines.answers.within c.if-progress-input.false) c.in-Some.ensures.wrote

pub returns-in-Some-clause-rest : goal.returns-in-Some-clause-rest
returns-in-Some-clause-rest g c is =
    rest_after _ _ _ _ _ _ (c.answer_lines-progress.ensures.rest c.if-progress.false)
    c.in-Some.ensures.wrote

pub returns-in-None-clause-short : goal.returns-in-None-clause-short
returns-in-None-clause-short g c is =
    let lines = c.answer_lines-progress.ensures in
    rest_short _ _ _ _ _ _ _ lines.answers (lines.all c.if-progress.false)
    (some_left _ _ lines.answers.within c.if-progress-input.false) c.in-None.ensures.fits.1
    lines.length lines.within

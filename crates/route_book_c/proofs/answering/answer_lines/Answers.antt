use Rattle.std.proofs.Common.{ap, subst, sym}
use Rattle.route_lines.specs.Unfinished.{HasNoLineEnd}
use Rattle.route_book_c.proofs.AnswerLemmas.{Answers-same, Carried-answers, Carried-cut}
use Rattle.route_book_c.proofs.AnswerLemmas.{Carried-line, Carried-none, Carried-short, left_is}
use Rattle.route_book_c.proofs.KeptLemmas.{KeepsRooms-same, KeepsRooms-trans}
use Rattle.route_book_c.proofs.answering.answer_lines.Goals as goal

pub loop-line-init : goal.loop-line-init
loop-line-init g c = record {
  carried = Carried-none _ _ _;
  rooms = KeepsRooms-same _;
}

pub loop-line-preserved : goal.loop-line-preserved
loop-line-preserved g c =
    let done = c.in-Some-answer_line.ensures in
    record {
      carried = Carried-line _ _ _ _ _ c.args.book.now.state _ _ _ _ _ _ _
          c.loop-line.invariant.carried
          c.in-Some.ensures.found.0 c.in-Some.ensures.found.1 c.read_line.ensures.exact done.state
          done.wrote;
      rooms = KeepsRooms-trans _ _ _ c.loop-line.invariant.rooms done.rooms;
    }

pub returns-in-None-clause-answers : goal.returns-in-None-clause-answers
returns-in-None-clause-answers g c =
    Answers-same _ _ _ _ _ _ _ (Carried-answers c.loop-line.invariant.carried)
    (ap (λ b. b.state) c.in-None.ensures.left) c.in-None.ensures.front.front

pub returns-in-None-clause-cut : goal.returns-in-None-clause-cut
returns-in-None-clause-cut g c = Carried-cut c.loop-line.invariant.carried

pub returns-in-None-clause-short : goal.returns-in-None-clause-short
returns-in-None-clause-short g c is =
    Carried-short _ _ _ _ _ _ _ _ _ _ _ c.loop-line.invariant.carried c.in-Some.ensures.found.0
    c.in-Some.ensures.found.1 c.read_line.ensures.exact (ap (λ b. b.state) c.in-None.ensures.left)
    c.in-None.ensures.fits.1

pub returns-clause-answers : goal.returns-clause-answers
returns-clause-answers g c = Carried-answers c.loop-line.invariant.carried

pub returns-clause-cut : goal.returns-clause-cut
returns-clause-cut g c = Carried-cut c.loop-line.invariant.carried

pub returns-clause-all : goal.returns-clause-all
returns-clause-all g c is =
    subst HasNoLineEnd (sym (left_is c.loop-line.invariant.carried)) c.in_default.ensures.none

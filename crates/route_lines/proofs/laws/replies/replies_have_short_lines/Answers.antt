use Rattle.route_lines.proofs.ReplyLemmas.{ShortLines-ended, ShortLines-reply, ShortLines-short}
use Rattle.route_lines.proofs.laws.replies.replies_have_short_lines.Goals as goal

pub returns-clause-short : goal.returns-clause-short
returns-clause-short c s command sound numbered =
    ShortLines-short _ (ShortLines-reply s command sound numbered)

pub returns-clause-ended : goal.returns-clause-ended
returns-clause-ended c s command sound numbered =
    ShortLines-ended _ (ShortLines-reply s command sound numbered)

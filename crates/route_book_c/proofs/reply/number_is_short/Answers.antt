use Rattle.route_book_c.proofs.LengthLemmas.{number_short}
use Rattle.route_book_c.proofs.reply.number_is_short.Goals as goal

pub returns : goal.returns
returns c = number_short _ c.ranges.number.fits

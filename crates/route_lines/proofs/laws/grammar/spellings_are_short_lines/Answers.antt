use Rattle.route_lines.proofs.GrammarLemmas.{length-spelling, no_line_end, spelling_nonempty}
use Rattle.route_lines.proofs.laws.grammar.spellings_are_short_lines.Goals as goal

pub returns : goal.returns
returns c = record { some = spelling_nonempty; short = length-spelling; one_line = no_line_end }

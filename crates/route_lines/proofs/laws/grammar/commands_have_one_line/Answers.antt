use Rattle.route_lines.proofs.GrammarLemmas.{one_line}
use Rattle.route_lines.proofs.laws.grammar.commands_have_one_line.Goals as goal

pub returns : goal.returns
returns c = one_line

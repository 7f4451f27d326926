use Rattle.route_lines.proofs.GrammarLemmas.{one_command}
use Rattle.route_lines.proofs.laws.grammar.lines_have_one_command.Goals as goal

pub returns : goal.returns
returns c = one_command

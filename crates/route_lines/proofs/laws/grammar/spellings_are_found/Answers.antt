use Rattle.route_lines.proofs.GrammarLemmas.{command_of-found, command_of-spelled}
use Rattle.route_lines.proofs.laws.grammar.spellings_are_found.Goals as goal

pub returns : goal.returns
returns c = record { found = command_of-found; all = command_of-spelled }

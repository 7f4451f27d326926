use Rattle.std.proofs.Common.{rules}
use Rattle.route_lines.specs.Grammar.{command_of}
use Rattle.route_lines.proofs.GrammarLemmas.{IfNone-command_of, IfSome-command_of}
use Rattle.route_lines.proofs.line.read_line.Goals as goal

pub returns-clause-exact : goal.returns-clause-exact
unfolding command_of
returns-clause-exact c = search rules

pub returns-clause-found : goal.returns-clause-found
returns-clause-found c = IfSome-command_of _ _ (returns-clause-exact c)

pub returns-clause-none : goal.returns-clause-none
returns-clause-none c = IfNone-command_of _ _ (returns-clause-exact c)

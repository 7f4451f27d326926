use Rattle.route_lines.proofs.UndoLemmas.{cut_undoes_join}
use Rattle.route_lines.proofs.laws.routes.cuts_undo_joins.Goals as goal

pub returns : goal.returns
returns c = cut_undoes_join

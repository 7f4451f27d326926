use Rattle.route_lines.proofs.UndoLemmas.{swap_undoes_swap}
use Rattle.route_lines.proofs.laws.routes.swaps_undo_swaps.Goals as goal

pub returns : goal.returns
returns c = swap_undoes_swap

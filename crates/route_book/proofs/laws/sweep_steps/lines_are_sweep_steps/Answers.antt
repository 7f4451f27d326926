use Rattle.route_book.proofs.SweepStepLemmas.{is_its_step}
use Rattle.route_book.proofs.laws.sweep_steps.lines_are_sweep_steps.Goals as goal

pub returns : goal.returns
returns g c = is_its_step

use Rattle.promise_by_value.proofs.ordered.sorted.Goals as goal

pub returns : goal.returns
returns g c = rw c.in_ok-entries.ensures c.requires

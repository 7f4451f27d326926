use Rattle.std.proofs.Common.{map}
use Rattle.std.proofs.lemmas.List.{map-id}
use Rattle.triple_arena.specs.LiveEntries.{listed_from}
use Rattle.triple_arena.proofs.iterators.Iter+P+T+T+E+Whole.over.Goals as goal

pub returns : goal.returns
returns g c = map-id (listed_from 1 (map g.E.LentEntry.shown c.args.slots.now))

use Rattle.std.proofs.Common.{rules, ◌<◌}
use Rattle.triple_arena_stack.specs.Room.{capacity}
use Rattle.triple_arena_ord.specs.Ordered.{size_in}
use Rattle.triple_arena_ord.proofs.GrowthLemmas.{adds_within}
use Rattle.triple_arena_ord.proofs.ord_arena.SimpleOrdArena.add_at_within_capacity.Goals as goal

pub returns : goal.returns
returns g c =
    let old = c.args.self.now in
    let fits : size_in old < capacity old.chains.room = search rules in
    adds_within g.P.PtrCore.index g.P.PtrCore.generation _ _ _
    old c.put_at.new.self fits c.put_at.ensures

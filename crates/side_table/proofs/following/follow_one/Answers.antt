use Rattle.std.proofs.Common.{◌≤◌, sym, subst}
use Rattle.triple_arena.specs.DirectContent.{entry_at}
use Rattle.triple_arena_ptr.specs.InvalidationResult.{answer_of}
use Rattle.side_table.proofs.SideTableLemmas.{fits_still}
use Rattle.side_table.proofs.following.follow_one.Goals as goal

pub put-requires-clause-fits : goal.put-requires-clause-fits
put-requires-clause-fits g c =
    fits_still g.P.PtrCore.index (entry_at c.args.map.now) (answer_of c.remove.result)
    g.P.Gen.PtrGenCore.last (g.P.PtrCore.index c.args.old) (g.P.PtrCore.generation c.args.old)
    c.args.table.now c.remove.new.self c.in-Some.value c.in-Some-get.new.now c.requires.down
    (sym c.in-Some-get.ensures) (sym c.in-Some.ensures) c.remove.ensures.value
    c.remove.ensures.removed
    (λ j some. subst (λ n. j ≤ n) c.capacity.ensures.value (c.capacity.ensures.indexes j some))

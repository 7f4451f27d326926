use Rattle.triple_arena_ord.proofs.EntryLemmas.{inserts_told}
use Rattle.triple_arena_ord.specs.InsertEntry.{entry_arena, entry_place}
use Rattle.triple_arena_ord.proofs.ord_arena.insertion.entry.SimpleOrdArenaInsertEntry.insert.Goals as goal

pub returns : goal.returns
returns g c =
    inserts_told g.P.PtrCore.index g.P.PtrCore.generation c.args.t
    (entry_arena c.args.self) c.insert_at_within_capacity.new.self
    c.args.self.ptr c.in-Ok.field-0-0 c.in-Ok.replaced
    (entry_place g.P.Inx.PtrInxCore.number c.args.self) _ c.insert_at_within_capacity.result
    c.in-Ok.is
    c.settle-place.ensures.same c.requires c.insert_at_within_capacity.ensures

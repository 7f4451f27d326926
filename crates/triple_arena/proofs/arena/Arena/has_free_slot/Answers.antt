use Rattle.std.proofs.Common.{sym, ap, ◌∙◌}
use Rattle.std.specs.Option.{option_map}
use Rattle.triple_arena.proofs.FreeListLemmas.{free_is_room}
use Rattle.triple_arena.proofs.arena.Arena.has_free_slot.Goals as goal

pub returns-in-Some : goal.returns-in-Some
returns-in-Some g c _ =
    free_is_room (sym c.get.ensures ∙ ap (option_map g.P.Inx.PtrInxCore.number) c.in-Some.is)
    c.self.invariant c.self.view_is

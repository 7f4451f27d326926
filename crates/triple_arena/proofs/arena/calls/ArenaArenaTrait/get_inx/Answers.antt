use Rattle.std.proofs.Common.{option_copied, sym, ap, ◌∙◌}
use Rattle.triple_arena.proofs.FreeListLemmas.{entry_of_some, entry_of_none}
use Rattle.triple_arena.proofs.arena.calls.ArenaArenaTrait.get_inx.Goals as goal

pub returns-in-Some-get : goal.returns-in-Some-get
returns-in-Some-get g c =
    c.entry.ensures
    ∙ sym (entry_of_some _ _ c.self.view_is (ap option_copied c.in-Some-get.is) c.get.ensures
    c.in-Some.i.ok (c.in-Some.ensures.same))

pub returns-in-None-get : goal.returns-in-None-get
returns-in-None-get g c =
    sym (entry_of_none _ _ c.self.view_is (ap option_copied c.in-None-get.is) c.get.ensures
    c.in-Some.ensures.same)

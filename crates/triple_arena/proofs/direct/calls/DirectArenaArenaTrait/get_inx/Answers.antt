use Rattle.std.proofs.Common.{option_copied, sym, ap, ◌∙◌}
use Rattle.triple_arena.specs.DirectContent.{entry_at}
use Rattle.triple_arena.proofs.DirectLemmas.{held_at, nothing_at}
use Rattle.triple_arena.proofs.direct.calls.DirectArenaArenaTrait.get_inx.Goals as goal

pub returns-in-Some-get : goal.returns-in-Some-get
returns-in-Some-get g c =
    c.entry.ensures
    ∙ (sym (held_at _ c.self.view_is c.in-Some.i.ok
    (sym (ap option_copied c.in-Some-get.is) ∙ c.get.ensures))
    ∙ ap (entry_at c.args.self.now) c.in-Some.ensures.same)

pub returns-in-None-get : goal.returns-in-None-get
returns-in-None-get g c =
    sym (nothing_at _ c.self.view_is (ap option_copied c.in-None-get.is) c.get.ensures
    c.in-Some.ensures.same)

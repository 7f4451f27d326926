use Rattle.std.proofs.Common.{map, ap, sym, ◌∙◌}
use Rattle.std.proofs.lemmas.List.{map-id}
use Rattle.triple_arena.specs.Iterators.{listed_behind, with_part}
use Rattle.triple_arena.proofs.iterators.Iter+P+T+T+E+Whole.shown_by.Goals as goal

pub returns : goal.returns
returns g c =
    let inside = c.self.inside in
    let listed = listed_behind inside.passed (map g.E.LentEntry.shown inside.slots.now) in
    ap (map (with_part g.M.Part.part)) (sym (map-id listed) ∙ c.self.view_is)

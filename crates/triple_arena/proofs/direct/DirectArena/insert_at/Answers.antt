use Rattle.std.proofs.Common.{ap, refl, ◌∙◌}
use Rattle.triple_arena.specs.DirectContent.{entry_at, live_count}
use Rattle.triple_arena.specs.DirectLaws.{entry-inserted, live-inserted}
use Rattle.triple_arena.proofs.direct.DirectArena.insert_at.Goals as goal

pub returns-clause-inserted : goal.returns-clause-inserted
returns-clause-inserted g c =
    let is = c.put_at.ensures.value in
    record {
      vacant = c.requires.place.vacant;
      entries = λ j. ap (λ d. entry_at d j) is ∙ entry-inserted _ _ _ _ c.requires.place j;
      live = ap live_count is ∙ live-inserted _ _ _ _ c.requires.place;
      counter = refl;
      room = ap (λ d. d.room) is;
    }

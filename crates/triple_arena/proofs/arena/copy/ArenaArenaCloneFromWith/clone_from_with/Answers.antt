use Rattle.std.proofs.Common.{refl, ap, inr, ◌∙◌}
use Rattle.triple_arena.specs.Copy.{last_listed}
use Rattle.triple_arena.proofs.CopyLemmas.{grown_copy, emptied, refused_same}
use Rattle.triple_arena.proofs.arena.copy.ArenaArenaCloneFromWith.clone_from_with.Goals as goal

pub returns-in-Ok-clause-copied : goal.returns-in-Ok-clause-copied
returns-in-Ok-clause-copied g c =
    (grown_copy _ _ _ c.args.self.now c.in-Ok.ensures.mapped
    (c.up_to_last-slots.ensures.entries ∙ c.lent_slots.ensures.entries)
    (g.met.A.ArenaTrait.entry_listed c.args.source.now)
    (g.met.A.ArenaTrait.live_entries_counted c.args.source.now) c.in-Ok.ensures.exact
    c.singular_generation-counter.ensures.value c.in_ok-reallocate.ensures.exact
    (c.up_to_last-slots.ensures.last ∙ ap last_listed c.lent_slots.ensures.entries)
    c.in_ok-reallocate.ensures.fits).copy

pub returns-in-Ok-clause-exact : goal.returns-in-Ok-clause-exact
returns-in-Ok-clause-exact g c =
    (grown_copy _ _ _ c.args.self.now c.in-Ok.ensures.mapped
    (c.up_to_last-slots.ensures.entries ∙ c.lent_slots.ensures.entries)
    (g.met.A.ArenaTrait.entry_listed c.args.source.now)
    (g.met.A.ArenaTrait.live_entries_counted c.args.source.now) c.in-Ok.ensures.exact
    c.singular_generation-counter.ensures.value c.in_ok-reallocate.ensures.exact
    (c.up_to_last-slots.ensures.last ∙ ap last_listed c.lent_slots.ensures.entries)
    c.in_ok-reallocate.ensures.fits).exact

pub returns-in-Err-clause-unmade : goal.returns-in-Err-clause-unmade
returns-in-Err-clause-unmade g c _ =
    let left = emptied g.P.Gen.PtrGenCore.last c.args.self.now (c.in-Err.ensures.cleared refl)
    c.in_ok-reallocate.ensures.exact
    (c.up_to_last-slots.ensures.last ∙ ap last_listed c.lent_slots.ensures.entries) in
    inr (
      refused_same _ _ _ (c.up_to_last-slots.ensures.entries ∙ c.lent_slots.ensures.entries)
          (c.in-Err.ensures.refused refl),
      left.0,
      left.1,
    )

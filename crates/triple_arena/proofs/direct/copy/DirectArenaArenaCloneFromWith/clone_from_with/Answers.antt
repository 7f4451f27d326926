use Rattle.std.proofs.Common.{refl, ap, inr, ◌∙◌}
use Rattle.triple_arena.specs.Copy.{last_listed}
use Rattle.triple_arena.proofs.CopyLemmas.{refused_same}
use Rattle.triple_arena.proofs.DirectCopyLemmas.{grown_direct, emptied_direct}
use Rattle.triple_arena.proofs.direct.copy.DirectArenaArenaCloneFromWith.clone_from_with.Goals as goal

pub returns-in-Ok-clause-mapped : goal.returns-in-Ok-clause-mapped
returns-in-Ok-clause-mapped g c =
    rw (c.up_to_last-slots.ensures.entries ∙ c.lent_slots.ensures.entries) at c.in-Ok.ensures.mapped

pub returns-in-Ok-clause-beyond : goal.returns-in-Ok-clause-beyond
returns-in-Ok-clause-beyond g c =
    rw (c.up_to_last-slots.ensures.last ∙ ap last_listed c.lent_slots.ensures.entries) at
    c.in_ok-reallocate.ensures.beyond

pub returns-in-Ok-clause-copied : goal.returns-in-Ok-clause-copied
returns-in-Ok-clause-copied g c =
    (grown_direct _ _ _ (g.A.ArenaTrait.counter c.args.source.now) c.args.self.now
    c.in-Ok.ensures.mapped
    (c.up_to_last-slots.ensures.entries ∙ c.lent_slots.ensures.entries)
    (g.met.A.ArenaTrait.entry_listed c.args.source.now)
    (g.met.A.ArenaTrait.live_entries_counted c.args.source.now) c.in-Ok.ensures.exact
    c.in_ok-reallocate.ensures.exact
    (c.up_to_last-slots.ensures.last ∙ ap last_listed c.lent_slots.ensures.entries)
    c.in_ok-reallocate.ensures.fits).copy

pub returns-in-Ok-clause-exact : goal.returns-in-Ok-clause-exact
returns-in-Ok-clause-exact g c =
    (grown_direct _ _ _ (g.A.ArenaTrait.counter c.args.source.now) c.args.self.now
    c.in-Ok.ensures.mapped
    (c.up_to_last-slots.ensures.entries ∙ c.lent_slots.ensures.entries)
    (g.met.A.ArenaTrait.entry_listed c.args.source.now)
    (g.met.A.ArenaTrait.live_entries_counted c.args.source.now) c.in-Ok.ensures.exact
    c.in_ok-reallocate.ensures.exact
    (c.up_to_last-slots.ensures.last ∙ ap last_listed c.lent_slots.ensures.entries)
    c.in_ok-reallocate.ensures.fits).exact

pub returns-in-Err-clause-unmade : goal.returns-in-Err-clause-unmade
returns-in-Err-clause-unmade g c _ =
    let left = emptied_direct g.P.Gen.PtrGenCore.last c.args.self.now
    (c.in-Err.ensures.cleared refl) c.in_ok-reallocate.ensures.exact
    (c.up_to_last-slots.ensures.last ∙ ap last_listed c.lent_slots.ensures.entries) in
    inr (
      refused_same _ _ _ (c.up_to_last-slots.ensures.entries ∙ c.lent_slots.ensures.entries)
          (c.in-Err.ensures.refused refl),
      left.0,
      left.1,
    )

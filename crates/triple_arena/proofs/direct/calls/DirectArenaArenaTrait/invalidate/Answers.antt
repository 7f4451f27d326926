use Rattle.triple_arena.proofs.DirectLemmas.{is_invalidated}
use Rattle.triple_arena.proofs.direct.calls.DirectArenaArenaTrait.invalidate.Goals as goal

pub returns-in-Some-clause-invalidated : goal.returns-in-Some-clause-invalidated
returns-in-Some-clause-invalidated g c =
    rw (c.valid.ensures, c.answer.ensures.value)
    (is_invalidated c.renew_at-renewed.ensures.value c.in-Some.ensures.value
    c.renew_at-renewed.ensures.has_generation)

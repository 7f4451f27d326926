use Rattle.triple_arena.proofs.DirectLemmas.{is_removed}
use Rattle.triple_arena.proofs.direct.DirectArena.remove_at.Goals as goal

pub returns-clause-removed : goal.returns-clause-removed
returns-clause-removed g c = is_removed c.take_at-entry.ensures.value c.requires

use Rattle.std.proofs.Common.{◌∙◌}
use Rattle.triple_arena.proofs.CopyLemmas.{all_live}
use Rattle.triple_arena.proofs.arena.copy.link_free.Goals as goal

pub returns-then-live-len-clause-listed : goal.returns-then-live-len-clause-listed
returns-then-live-len-clause-listed g c =
    rw c.none.ensures (all_live _ _ c.requires.live (c.if-live-len.true ∙ c.len.ensures.value))

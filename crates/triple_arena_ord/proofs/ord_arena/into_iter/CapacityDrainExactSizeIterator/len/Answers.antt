use Rattle.std.proofs.Common.{length, sym, ap, ◌∙◌}
use Rattle.triple_arena_ord.proofs.OrderedDrainLemmas.{all_listed}
use Rattle.triple_arena_ord.proofs.ord_arena.into_iter.CapacityDrainExactSizeIterator.len.Goals as goal

pub returns-clause-value : goal.returns-clause-value
returns-clause-value g c =
    c.len.ensures.value
    ∙ sym (all_listed c.self.inside.arena c.len.ensures.formed.ordered)
    ∙ ap length c.self.view_is

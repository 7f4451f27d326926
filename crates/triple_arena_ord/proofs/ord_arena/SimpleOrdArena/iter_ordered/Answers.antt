use Rattle.std.proofs.Common.{length, ap, sym, ◌∙◌}
use Rattle.triple_arena_ord.specs.Ordered.{entries_at}
use Rattle.triple_arena_ord.proofs.OrderedDrainLemmas.{all_listed}
use Rattle.triple_arena_ord.proofs.OrderedWalkLemmas.{whole}
use Rattle.triple_arena_ord.proofs.ord_arena.SimpleOrdArena.iter_ordered.Goals as goal

pub invariant_of-result : goal.invariant_of-result
invariant_of-result g c =
    let o = c.args.self.now in
    let ordered = c.first_index.ensures.ordered in
    let along = whole o ordered c.from.result (c.from.ensures.at ∙ c.first_index.ensures.at)
    c.from.ensures.back in
    c.len.ensures.value ∙ sym (all_listed o ordered)
    ∙ sym (ap (λ w. length (entries_at o w)) along)

pub returns : goal.returns
returns g c =
    let o = c.args.self.now in
    ap (entries_at o) (whole o c.first_index.ensures.ordered c.from.result
    (c.from.ensures.at ∙ c.first_index.ensures.at) c.from.ensures.back)

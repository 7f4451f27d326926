use Rattle.std.proofs.Common.{map, ap, ◌∙◌}
use Rattle.triple_arena_chain.specs.Listed.{listed_value, listed_values}
use Rattle.triple_arena_chain.proofs.chain_arena.ChainArena.iter.Goals as goal

pub returns : goal.returns
returns g c = c.shown_by.ensures ∙ ap (map listed_value) c.iter.ensures
    ∙ ap listed_values c.self.view_is

use Rattle.std.proofs.Common.{map, ap, ◌∙◌}
use Rattle.triple_arena.specs.Compression.{value_of}
use Rattle.triple_arena_chain.proofs.chain_arena.ChainArena.vals.Goals as goal

pub returns : goal.returns
returns g c = c.into_vals.ensures ∙ ap (map value_of) c.iter.ensures

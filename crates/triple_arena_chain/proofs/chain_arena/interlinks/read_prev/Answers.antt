use Rattle.std.proofs.Common.{◌∙◌, sym}
use Rattle.triple_arena_chain.proofs.SwappedLinkLemmas.{prev_found}
use Rattle.triple_arena_chain.proofs.chain_arena.interlinks.read_prev.Goals as goal

pub returns : goal.returns
returns g c =
    c.prev.ensures
    ∙ sym (prev_found c.args.arena.now _ _ c.get_inx_unwrap.ensures)

use Rattle.std.proofs.Common.{◌∙◌, sym}
use Rattle.triple_arena_chain.proofs.SwappedLinkLemmas.{next_found}
use Rattle.triple_arena_chain.proofs.chain_arena.interlinks.read_next.Goals as goal

pub returns : goal.returns
returns g c =
    c.next.ensures
    ∙ sym (next_found c.args.arena.now _ _ c.get_inx_unwrap.ensures)

use Rattle.std.proofs.Common.{option_map, sym, ap, ◌∙◌}
use Rattle.triple_arena_chain.specs.Links.{ends_in}
use Rattle.triple_arena_chain.specs.Renaming.{prev_of}
use Rattle.triple_arena_chain.proofs.chain_arena.compression.name_of_next.Goals as goal

pub read_prev-requires-clause-live : goal.read_prev-requires-clause-live
read_prev-requires-clause-live g c =
    let number = g.P.Inx.PtrInxCore.number in
    c.requires.next (number c.in-Some.next)
    (sym c.read_next.ensures ∙ ap (option_map number) c.in-Some.is)

pub returns-in-Some : goal.returns-in-Some
returns-in-Some g c =
    let number = g.P.Inx.PtrInxCore.number in
    c.read_prev.ensures
    ∙ ap (prev_of (ends_in c.args.arena.now))
    (sym (ap (option_map number) c.in-Some.is) ∙ c.read_next.ensures)

pub returns-in-None : goal.returns-in-None
returns-in-None g c =
    let number = g.P.Inx.PtrInxCore.number in
    ap (prev_of (ends_in c.args.arena.now))
    (sym (ap (option_map number) c.in-None.is) ∙ c.read_next.ensures)

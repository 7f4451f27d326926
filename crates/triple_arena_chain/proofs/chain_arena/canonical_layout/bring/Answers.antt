use Rattle.std.proofs.Common.{option_map}
use Rattle.std.proofs.Common.{Some}
use Rattle.triple_arena_chain.proofs.BroughtLemmas.{next_keeps, place_stays, brought}
use Rattle.triple_arena_chain.proofs.chain_arena.canonical_layout.bring.Goals as goal

pub swap_inx-requires-clause-i_is_live : goal.swap_inx-requires-clause-i_is_live
swap_inx-requires-clause-i_is_live g c =
    next_keeps c.args.arena.now c.set_next.new.arena
    (option_map g.P.Inx.PtrInxCore.number c.args.last)
    (Some (g.P.Inx.PtrInxCore.number c.args.place)) _ c.set_next.ensures c.requires.at_is_live

pub swap_inx-requires-clause-j_is_live : goal.swap_inx-requires-clause-j_is_live
swap_inx-requires-clause-j_is_live g c =
    next_keeps c.args.arena.now c.set_next.new.arena
    (option_map g.P.Inx.PtrInxCore.number c.args.last)
    (Some (g.P.Inx.PtrInxCore.number c.args.place)) _ c.set_next.ensures
    c.requires.place_is_live

pub set_prev-requires-clause-live : goal.set_prev-requires-clause-live
set_prev-requires-clause-live g c =
    place_stays c.args.arena.now c.set_next.new.arena c.swap_inx.new.self
    c.swap_inx.new.self (option_map g.P.Inx.PtrInxCore.number c.args.last)
    (g.P.Inx.PtrInxCore.number c.args.at) (g.P.Inx.PtrInxCore.number c.args.place)
    c.requires.formed c.requires.alike c.requires.at_is_live c.requires.place_is_live
    c.set_next.ensures c.swap_inx.ensures.exchanged.entries
    c.swap_inx.ensures.exact

pub returns : goal.returns
returns g c =
    brought c.args.arena.now c.set_next.new.arena c.swap_inx.new.self
    c.set_prev.new.arena (option_map g.P.Inx.PtrInxCore.number c.args.last)
    (g.P.Inx.PtrInxCore.number c.args.at) (g.P.Inx.PtrInxCore.number c.args.place)
    c.requires.formed c.requires.alike c.requires.at_is_live c.requires.place_is_live
    c.set_next.ensures c.swap_inx.ensures.exchanged.entries
    c.swap_inx.ensures.exact c.set_prev.ensures

use Rattle.std.proofs.Common.{None, ap, ◌∙◌, sym}
use Rattle.std.specs.Option.{option_map}
use Rattle.triple_arena_ord.proofs.OrderedWalkLemmas.{first_lives, first_is}
use Rattle.triple_arena_ord.proofs.ord_arena.SimpleOrdArena.first.Goals as goal

pub ptr_to-requires-clause-live : goal.ptr_to-requires-clause-live
ptr_to-requires-clause-live g c =
    let number = g.P.Inx.PtrInxCore.number in
    first_lives c.args.self.now c.first_index.ensures.ordered (number c.in-Some.i)
    (sym c.first_index.ensures.at ∙ ap (option_map number) c.in-Some.is)

pub returns-in-None : goal.returns-in-None
returns-in-None g c =
    let number = g.P.Inx.PtrInxCore.number in
    first_is c.args.self.now c.first_index.ensures.ordered g.P.PtrCore.index
    g.P.PtrCore.generation None tt
    (ap (option_map number) (sym c.in-None.is) ∙ c.first_index.ensures.at)

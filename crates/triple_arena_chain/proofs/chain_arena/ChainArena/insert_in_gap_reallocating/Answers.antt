use Rattle.std.proofs.Common.{rules, ◌≡◌, option_map}
use Rattle.triple_arena.specs.Content.{grown_if_full}
use Rattle.linked_lists.specs.LinkedLists.{IsBetween}
use Rattle.triple_arena_chain.specs.Links.{ends_in}
use Rattle.triple_arena_chain.specs.declared.gap.Gap.TheVariants.{Between}
use Rattle.triple_arena_chain.proofs.GrowthLemmas.{inserted-grown}
use Rattle.triple_arena_chain.proofs.chain_arena.ChainArena.insert_in_gap_reallocating.Goals as goal

pub insert_in_gap_unwrap-requires-clause-gap : goal.insert_in_gap_unwrap-requires-clause-gap
insert_in_gap_unwrap-requires-clause-gap g c =
    let number = g.P.Inx.PtrInxCore.number in
    let grown : c.make_room.new.self ≡ grown_if_full c.args.self.now = search rules in
    let there : IsBetween (ends_in (grown_if_full c.args.self.now))
    (option_map number c.args.prev, option_map number c.args.next) = c.requires in
    rw grown there

pub returns-clause-inserted : goal.returns-clause-inserted
returns-clause-inserted g c =
    let number = g.P.Inx.PtrInxCore.number in
    let grown : c.make_room.new.self ≡ grown_if_full c.args.self.now = search rules in
    inserted-grown c.args.self.now c.make_room.new.self c.insert_in_gap_unwrap.new.self
    (Between (option_map number c.args.prev) (option_map number c.args.next))
    (g.P.PtrCore.index c.insert_in_gap_unwrap.result)
    (g.P.PtrCore.generation c.insert_in_gap_unwrap.result) c.args.t grown
    c.insert_in_gap_unwrap.ensures.inserted

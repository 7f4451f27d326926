use Rattle.std.proofs.Common.{rules, ◌≡◌, Some}
use Rattle.triple_arena.specs.Content.{grown_if_full}
use Rattle.triple_arena_chain.specs.Gaps.{IsGap}
use Rattle.triple_arena_chain.specs.Kinds.{gap_by}
use Rattle.triple_arena_chain.specs.Links.{ends_in, gap_among}
use Rattle.triple_arena_chain.proofs.KindLemmas.{asked_is_gap}
use Rattle.triple_arena_chain.proofs.chain_arena.ChainArena.gap_reallocating.Goals as goal

pub returns-in-Ok-clause-is_gap : goal.returns-in-Ok-clause-is_gap
returns-in-Ok-clause-is_gap g c =
    let number = g.P.Inx.PtrInxCore.number in
    let old = c.args.self.now in
    let gap = gap_by number c.in-Some.gap in
    let is : gap_among g.P.PtrCore.index g.P.PtrCore.generation number old c.args.kind
    ≡ Some gap = search rules in
    let grown : c.make_room.new.self ≡ grown_if_full old = search rules in
    let there : IsGap (ends_in (grown_if_full old)) gap =
    asked_is_gap g.P.PtrCore.index g.P.PtrCore.generation number old c.args.kind gap
    c.recall_chained.ensures is in
    rw grown there

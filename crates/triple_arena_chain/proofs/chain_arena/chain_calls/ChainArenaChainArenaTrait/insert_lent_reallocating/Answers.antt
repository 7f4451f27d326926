use Rattle.std.proofs.Common.{rules, ◌≡◌, Some}
use Rattle.triple_arena.specs.Content.{grown_if_full}
use Rattle.triple_arena_chain.specs.Kinds.{gap_by}
use Rattle.triple_arena_chain.specs.Links.{gap_among}
use Rattle.triple_arena_chain.proofs.GrowthLemmas.{inserted-grown}
use Rattle.triple_arena_chain.proofs.chain_arena.chain_calls.ChainArenaChainArenaTrait.insert_lent_reallocating.Goals as goal

pub returns-clause-inserts : goal.returns-clause-inserts
returns-clause-inserts g c =
    let number = g.P.Inx.PtrInxCore.number in
    let old = c.args.self.now in
    let grown : c.gap_reallocating.new.self ≡ grown_if_full old = search rules in
    let is : gap_among g.P.PtrCore.index g.P.PtrCore.generation number old c.args.kind.now
    ≡ Some (gap_by number c.in_ok-gap.gap) = search rules in
    let inserted =
    inserted-grown old c.gap_reallocating.new.self c.put.new.self
    (gap_by number c.in_ok-gap.gap) (g.P.PtrCore.index c.put.result)
    (g.P.PtrCore.generation c.put.result) c.args.t grown c.put.ensures.inserted in
    record {
      refusal = search rules;
      inserted = rw is inserted;
      formed = search rules;
      room = search rules;
    }

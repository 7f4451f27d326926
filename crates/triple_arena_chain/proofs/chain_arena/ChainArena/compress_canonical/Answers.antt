use Rattle.std.proofs.Common.{map, sym, subst}
use Rattle.triple_arena.specs.Compression.{value_of}
use Rattle.triple_arena_chain.specs.Listed.{listed_values}
use Rattle.triple_arena_chain.specs.Renaming.{IsCompacted}
use Rattle.triple_arena_chain.proofs.CanonicalLayoutLemmas.{compacted_alike, is_canonical}
use Rattle.triple_arena_chain.proofs.chain_arena.ChainArena.compress_canonical.Goals as goal

pub gather_chains-requires-clause-alike : goal.gather_chains-requires-clause-alike
gather_chains-requires-clause-alike g c =
    let number = g.P.Inx.PtrInxCore.number in
    let compacted = subst
    (IsCompacted g.P.Gen.PtrGenCore.last c.args.reset
    (map value_of (listed_values c.args.self.now)) c.args.self.now) (sym c.self.view_is)
    c.compress-answer.ensures.exact in
    compacted_alike _ _ c.args.self.now c.self.inside.arena c.recall_chained.ensures
    compacted

pub gather_chains-requires-clause-full : goal.gather_chains-requires-clause-full
gather_chains-requires-clause-full g c =
    let number = g.P.Inx.PtrInxCore.number in
    let compacted = subst
    (IsCompacted g.P.Gen.PtrGenCore.last c.args.reset
    (map value_of (listed_values c.args.self.now)) c.args.self.now) (sym c.self.view_is)
    c.compress-answer.ensures.exact in
    compacted.free

pub returns-clause-canonical : goal.returns-clause-canonical
returns-clause-canonical g c =
    let number = g.P.Inx.PtrInxCore.number in
    let compacted = subst
    (IsCompacted g.P.Gen.PtrGenCore.last c.args.reset
    (map value_of (listed_values c.args.self.now)) c.args.self.now) (sym c.self.view_is)
    c.compress-answer.ensures.exact in
    is_canonical _ _ c.args.self.now c.self.inside.arena c.recall_chained.ensures compacted _
    c.gather_chains.ensures.gathered

use Rattle.triple_arena_chain.proofs.CompactingLemmas.{numbered_live, AreMoved, AreListed, alone}
use Rattle.triple_arena_chain.proofs.CompactingLemmas.{live, nexts_one, are_listed, renamed_links}
use Rattle.triple_arena_chain.proofs.CompactingLemmas.{listed_old, listed_new, is_compacted}
use Rattle.triple_arena_chain.proofs.CompactingLemmas.{is_compressed}
use Rattle.triple_arena_chain.proofs.RenewalLemmas.{AreRenewed, none_free, renewed_listed}
use Rattle.triple_arena_chain.proofs.RenewalLemmas.{unmoved_links, unmoved_chained}
use Rattle.triple_arena_chain.proofs.chain_arena.compression.compress_links.Goals as goal

pub forward_nexts-requires-clause-live : goal.forward_nexts-requires-clause-live
forward_nexts-requires-clause-live g c =
    numbered_live c.args.arena.now c.number_links.new.arena
    c.requires.chained c.number_links.ensures.numbered

-- the passes up to the last one
ready : (g : _) (c : goal.After-join_nexts-arg-1 g)
    → AreMoved g.P.Gen.PtrGenCore.last c.args.reset c.args.arena.now
    c.number_links.new.arena c.forward_nexts.new.arena
    c.compact_links-answer.new.arena
ready g c =
    record {
      chained = c.requires.chained;
      first = c.number_links.ensures.numbered;
      second = c.forward_nexts.ensures.forwarded;
      links = c.compact_links-answer.ensures.links;
      compressed = c.compact_links-answer.ensures.compressed;
      exact = c.compact_links-answer.ensures.exact;
    }

pub join_nexts-requires-clause-alone : goal.join_nexts-requires-clause-alone
join_nexts-requires-clause-alone g c = alone _ _ _ _ _ _ (ready g c)

pub join_nexts-requires-clause-live : goal.join_nexts-requires-clause-live
join_nexts-requires-clause-live g c = live _ _ _ _ _ _ (ready g c)

pub join_nexts-requires-clause-apart : goal.join_nexts-requires-clause-apart
join_nexts-requires-clause-apart g c = nexts_one _ _ _ _ _ _ (ready g c)

moved : (g : _) (c : goal.After-join_nexts g)
    → AreMoved g.P.Gen.PtrGenCore.last c.args.reset c.args.arena.now
    c.number_links.new.arena c.forward_nexts.new.arena
    c.compact_links-answer.new.arena
moved g c =
    record {
      chained = c.requires.chained;
      first = c.number_links.ensures.numbered;
      second = c.forward_nexts.ensures.forwarded;
      links = c.compact_links-answer.ensures.links;
      compressed = c.compact_links-answer.ensures.compressed;
      exact = c.compact_links-answer.ensures.exact;
    }

-- all passes
listed : (g : _) (c : goal.After-join_nexts g)
    → AreListed g.P.Gen.PtrGenCore.last c.args.reset c.args.arena.now c.forward_nexts.new.arena
    c.compact_links-answer.new.arena c.join_nexts.new.arena
listed g c =
    are_listed _ _ _ _ _ _ (moved g c) c.join_nexts.new.arena c.join_nexts.ensures.nexts
    c.join_nexts.ensures.agreed c.join_nexts.ensures.values c.join_nexts.ensures.kept

-- no index is free
renewed : (g : _) (c : goal.After-renew_links g)
    → AreRenewed g.P.Gen.PtrGenCore.last c.args.reset c.args.arena.now
    c.renew_links.new.arena
renewed g c =
    record {
      chained = c.requires.chained;
      full = none_free g.P.Inx.PtrInxCore.number _ _ _ c.freelist_root.ensures c.is_none.ensures
          c.if-is_none.true;
      links = c.renew_links.ensures.links;
      compressed = c.renew_links.ensures.compressed;
      exact = c.renew_links.ensures.exact;
    }

pub returns-then-is_none-clause-compressed : goal.returns-then-is_none-clause-compressed
returns-then-is_none-clause-compressed g c =
    is_compressed _ _ _ _ _ _ (renewed_listed _ _ _ _ (renewed g c))

pub returns-then-is_none-clause-exact : goal.returns-then-is_none-clause-exact
returns-then-is_none-clause-exact g c =
    is_compacted _ _ _ _ _ _ (renewed_listed _ _ _ _ (renewed g c))
    (unmoved_links _ _ _ _ (renewed g c))

pub returns-then-is_none-clause-formed : goal.returns-then-is_none-clause-formed
returns-then-is_none-clause-formed g c =
    unmoved_chained _ _ _ _ (renewed g c) c.renew_links.ensures.formed

pub returns-clause-mapped : goal.returns-clause-mapped
returns-clause-mapped g c =
    rw (← listed_old _ _ _ _ _ _ (listed g c), listed_new _ _ _ _ _ _ (listed g c))
    c.compact_links-answer.ensures.mapped

pub returns-clause-compressed : goal.returns-clause-compressed
returns-clause-compressed g c = is_compressed _ _ _ _ _ _ (listed g c)

pub returns-clause-exact : goal.returns-clause-exact
returns-clause-exact g c =
    is_compacted _ _ _ _ _ _ (listed g c)
    (renamed_links _ _ _ _ _ _ (moved g c) c.join_nexts.new.arena c.join_nexts.ensures.nexts
    c.join_nexts.ensures.agreed c.join_nexts.ensures.values c.join_nexts.ensures.kept)

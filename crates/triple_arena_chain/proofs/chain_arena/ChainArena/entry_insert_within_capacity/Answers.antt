use Rattle.std.proofs.Common.{rules, ◌≡◌, Some, refl}
use Rattle.triple_arena_chain.specs.Gaps.{IsGap}
use Rattle.triple_arena_chain.specs.Kinds.{gap_by}
use Rattle.triple_arena_chain.specs.Links.{ends_in, gap_among}
use Rattle.triple_arena_chain.proofs.KindLemmas.{asked_is_gap}
use Rattle.triple_arena_chain.proofs.chain_arena.ChainArena.entry_insert_within_capacity.Goals as goal

pub returns-in-Some-next_ptr : goal.returns-in-Some-next_ptr
returns-in-Some-next_ptr g c =
    let number = g.P.Inx.PtrInxCore.number in
    let old = c.args.self.now in
    let gap = gap_by number c.in-Some.gap in
    let is : gap_among g.P.PtrCore.index g.P.PtrCore.generation number old c.args.kind
    ≡ Some gap = search rules in
    let there : IsGap (ends_in old) gap =
    asked_is_gap g.P.PtrCore.index g.P.PtrCore.generation number old c.args.kind gap
    c.recall_chained.ensures is in
    let room = c.in-Some-next_ptr.ensures.variant.0 refl in (
      (refl, λ w. refl, tt),
      record {
        answer = record { failed = search rules; succeeds = search rules; full = search rules };
        entry = record {
          same_reference = search rules;
          chains = refl;
          ready = record {
            room = room;
            gap = there;
            has_index = c.in-Some-next_ptr.ensures.has_index;
            has_generation = c.in-Some-next_ptr.ensures.has_generation;
          };
          gap = is;
        };
        err = tt;
      },
    )

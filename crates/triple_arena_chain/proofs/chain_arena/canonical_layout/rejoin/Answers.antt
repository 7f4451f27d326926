use Rattle.std.proofs.Common.{◌≡◌, ◌+◌, None, option_map, sym, ap, subst, ◌∙◌, arith}
use Rattle.linked_lists.specs.LinkedLists.{next_at}
use Rattle.triple_arena_chain.specs.Links.{ends_in}
use Rattle.triple_arena_chain.specs.Notes.{up_to, before_past}
use Rattle.triple_arena_chain.proofs.PassLemmas.{live_ends}
use Rattle.triple_arena_chain.proofs.RejoinLemmas.{IsRejoined, rejoined_none, rejoined_more}
use Rattle.triple_arena_chain.proofs.RejoinLemmas.{rejoined_all, link_live, link_there, next_one}
use Rattle.triple_arena_chain.proofs.RejoinLemmas.{back_live}
use Rattle.triple_arena_chain.proofs.chain_arena.canonical_layout.rejoin.Given.{Over}
use Rattle.triple_arena_chain.proofs.chain_arena.canonical_layout.rejoin.Goals.{After-parted-back}
use Rattle.triple_arena_chain.proofs.chain_arena.canonical_layout.rejoin.Goals as goal

pub link-init : goal.link-init
link-init g c = record {
  rejoined = rejoined_none c.args.arena.now c.requires.formed;
  within = omega arith;
}

pub behind-i-requires-clause-fits : goal.behind-i-requires-clause-fits
behind-i-requires-clause-fits g c =
    let number = g.P.Inx.PtrInxCore.number in
    let more = c.link-test.true in
    let live = c.requires.rejoinable.live (c.link.count + 1) (omega arith) (omega (arith, more)) in
    let within = c.capacity.ensures.indexes (c.link.count + 1)
    (sym (live_ends c.args.arena.now (c.link.count + 1)) ∙ live) in
    let bounded = c.capacity.ensures.bounded in
    omega (arith, within, bounded)

pub set_prev-requires-clause-live : goal.set_prev-requires-clause-live
set_prev-requires-clause-live g c =
    let number = g.P.Inx.PtrInxCore.number in
    let r = c.link.invariant.rejoined in
    let more = c.link-test.true in
    link_live c.args.len c.link.count (number c.behind-i.result) _ c.args.arena.now
    c.link.arena c.requires.rejoinable r more c.behind-i.ensures

pub read_next-requires-clause-live : goal.read_next-requires-clause-live
read_next-requires-clause-live g c =
    let number = g.P.Inx.PtrInxCore.number in
    let r = c.link.invariant.rejoined in
    let more = c.link-test.true in
    link_there c.args.len c.link.count (option_map number c.link.before) c.args.arena.now
    c.link.arena
    c.set_prev.new.arena c.set_prev.new.arena (number c.behind-i.result) None c.requires.rejoinable
    r
    more c.behind-i.ensures
    c.set_prev.ensures

module _ (g : Over) (c : After-parted-back g) where
  -- where the link leads
  next_is : option_map g.P.Inx.PtrInxCore.number c.read_next.result
      ≡ next_at (ends_in c.args.arena.now) (c.link.count + 1)
  next_is =
      let number = g.P.Inx.PtrInxCore.number in
      c.read_next.ensures
      ∙ next_one c.args.len c.link.count (option_map number c.link.before) c.args.arena.now
      c.link.arena c.set_prev.new.arena c.set_prev.new.arena (number c.behind-i.result) None
      c.requires.rejoinable c.link.invariant.rejoined c.link-test.true c.behind-i.ensures
      c.set_prev.ensures (number c.behind-i.result)
      ∙ ap (next_at (ends_in c.args.arena.now)) c.behind-i.ensures

  back_is : option_map g.P.Inx.PtrInxCore.number c.parted-back.result.0
      ≡ up_to (c.link.count + 1) (next_at (ends_in c.args.arena.now) (c.link.count + 1))
  back_is = c.parted-back.ensures.back ∙ ap (up_to (c.link.count + 1)) next_is

pub set_prev-requires-in-link-clause-live : goal.set_prev-requires-in-link-clause-live
set_prev-requires-in-link-clause-live g c =
    let number = g.P.Inx.PtrInxCore.number in
    back_live c.args.len c.link.count (option_map number c.link.before) c.args.arena.now
    c.link.arena c.set_prev.new.arena c.set_prev.new.arena (number c.behind-i.result)
    (option_map number c.parted-back.result.0)
    c.requires.rejoinable c.link.invariant.rejoined c.link-test.true
    c.behind-i.ensures c.set_prev.ensures
    (back_is g (goal.at.set_prev-requires-in-link-clause-live g c).After-parted-back)

pub link-preserved : goal.link-preserved
link-preserved g c =
    let number = g.P.Inx.PtrInxCore.number in
    let more = c.link-test.true in
    let at = (goal.at.link-preserved g c).After-parted-back in
    record {
      rejoined =
          rejoined_more c.args.len c.link.count (option_map number c.link.before) c.args.arena.now
          c.link.arena c.set_prev.new.arena c.set_prev-in-link.new.arena (number c.behind-i.result)
          (option_map number c.parted-back.result.0)
          c.requires.rejoinable c.link.invariant.rejoined more
          c.behind-i.ensures c.set_prev.ensures (back_is g at) c.set_prev-in-link.ensures
          (option_map number c.parted-back.result.1)
          (c.parted-back.ensures.before
          ∙ ap (λ i. before_past (c.link.count + 1) i (option_map number c.read_next.result))
          c.behind-i.ensures
          ∙ ap (before_past (c.link.count + 1) (c.link.count + 1)) (next_is g at));
      within = omega (arith, more);
    }

pub returns-clause-nexts : goal.returns-clause-nexts
returns-clause-nexts g c = c.link.invariant.rejoined.nexts

pub returns-clause-agreed : goal.returns-clause-agreed
returns-clause-agreed g c =
    let number = g.P.Inx.PtrInxCore.number in
    let within = c.link.invariant.within in
    let past = c.link-test.false in
    let all : c.link.count ≡ c.args.len = omega (arith, within, past) in
    rejoined_all c.args.len (option_map number c.link.before) c.args.arena.now c.link.arena
    c.requires.rejoinable
    (subst (λ k. IsRejoined k (option_map number c.link.before) c.args.arena.now
    c.link.arena) all c.link.invariant.rejoined)

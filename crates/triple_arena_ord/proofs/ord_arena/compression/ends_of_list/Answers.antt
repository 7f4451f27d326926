use Rattle.std.proofs.Common.{◌≤◌, sym, subst}
use Rattle.triple_arena.specs.WalkLaws.{passed_by}
use Rattle.triple_arena_chain.specs.Links.{ends_in}
use Rattle.triple_arena_ord.proofs.ListEndLemmas.{noted_step, noted_whole, first_found, last_found}
use Rattle.triple_arena_ord.proofs.ord_arena.compression.ends_of_list.Goals as goal

pub loop-p-preserved : goal.loop-p-preserved
loop-p-preserved g c =
    let number = g.P.Inx.PtrInxCore.number in
    let before = c.loop-p.advancer in
    let after = c.advance.new.self in
    let i = g.P.PtrCore.index c.in-Some.p in
    let stamp = g.P.PtrCore.generation c.in-Some.p in
    let inv = c.loop-p.invariant in
    let step = c.in-Some.ensures.given in
    let next = passed_by before after i inv.rises step.1 in
    record {
      rises = next.rises;
      reaches = λ j some. subst (λ h. j ≤ h) (sym next.high) (inv.reaches j some);
      first =
          noted_step c.args.chains.now (λ v. v.0) before after i stamp
          (number c.inx-i.result) _ _ _ inv.first inv.rises step.0 next.low c.inx-i.ensures
          c.neighbors-sides.ensures c.noted-first.ensures;
      last =
          noted_step c.args.chains.now (λ v. v.1) before after i stamp
          (number c.inx-i.result) _ _ _ inv.last inv.rises step.0 next.low c.inx-i.ensures
          c.neighbors-sides.ensures c.noted-last.ensures;
    }

pub returns-clause-first : goal.returns-clause-first
returns-clause-first g c w linear all =
    let inv = c.loop-p.invariant in
    first_found (ends_in c.args.chains.now) w _
    (noted_whole c.args.chains.now (λ v. v.0) c.loop-p.advancer _ inv.first inv.reaches
    c.in_default.ensures.given.0) linear all

pub returns-clause-last : goal.returns-clause-last
returns-clause-last g c w linear all =
    let inv = c.loop-p.invariant in
    last_found (ends_in c.args.chains.now) w _
    (noted_whole c.args.chains.now (λ v. v.1) c.loop-p.advancer _ inv.last inv.reaches
    c.in_default.ensures.given.0) linear all

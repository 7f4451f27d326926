use Rattle.std.proofs.Common.{rules, ◌≡◌, Some}
use Rattle.linked_lists.specs.LinkedLists.{linked}
use Rattle.triple_arena_chain.specs.Kinds.{at_bridge, gap_by}
use Rattle.triple_arena_chain.specs.Links.{ends_in, ends_found, with_next_of, with_prev_of}
use Rattle.linked_lists.specs.JoinLaws.{is_appended}
use Rattle.triple_arena_chain.proofs.ConnectionLemmas.{connected, Relinked}
use Rattle.triple_arena_chain.proofs.chain_arena.chain_calls.ChainArenaChainArenaTrait.connect.Given.{Over}
use Rattle.triple_arena_chain.proofs.chain_arena.chain_calls.ChainArenaChainArenaTrait.connect.Goals as goal

done : (g : Over) (c : goal.After-follow g)
    → Relinked
    (linked (ends_in c.args.self.now) (g.P.PtrCore.index c.args.p)
    (g.P.PtrCore.index c.args.q)) c.args.self.now
    c.follow.new.arena
done g c =
    let number = g.P.Inx.PtrInxCore.number in
    let old = c.args.self.now in
    let p = g.P.PtrCore.index c.args.p in
    let q = g.P.PtrCore.index c.args.q in
    let gp = g.P.PtrCore.generation c.args.p in
    let gq = g.P.PtrCore.generation c.args.q in
    let gap = gap_by number c.in-Some.field-0 in
    let bridge : at_bridge p q (ends_found old p gp) (ends_found old q gq)
    ≡ Some gap = search rules in
    let made : c.follow.new.arena
    ≡ with_prev_of (with_next_of old (Some (number c.inx-i.result)) (Some (number c.inx-j.result)))
    (Some (number c.inx-j.result)) (Some (number c.inx-i.result)) =
    search rules in
    connected old c.follow.new.arena (number c.inx-i.result) (number c.inx-j.result) p gp q gq gap
    c.recall_chained.ensures c.inx-i.ensures c.inx-j.ensures bridge made

pub invariant_of-self : goal.invariant_of-self
invariant_of-self g c = (done g c).chained

pub returns-clause-relinked : goal.returns-clause-relinked
returns-clause-relinked g c = (done g c).relinked

pub returns-clause-lists : goal.returns-clause-lists
returns-clause-lists g c =
    let number = g.P.Inx.PtrInxCore.number in
    let d = done g c in
    is_appended (ends_in c.args.self.now) (ends_in c.follow.new.arena)
    (g.P.PtrCore.index c.args.p) (g.P.PtrCore.index c.args.q) d.chained.agreed
    d.relinked.ends

pub returns-clause-formed : goal.returns-clause-formed
returns-clause-formed g c = (done g c).chained

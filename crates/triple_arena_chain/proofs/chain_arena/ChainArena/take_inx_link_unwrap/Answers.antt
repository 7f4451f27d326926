use Rattle.std.proofs.Common.{rules, ◌≡◌, subst}
use Rattle.triple_arena_chain.specs.Links.{bridged_over, IsChained}
use Rattle.triple_arena_chain.proofs.RemovalLemmas.{neighbors_live, live_bridged, taken_live}
use Rattle.triple_arena_chain.proofs.RemovalLemmas.{TakenLive}
use Rattle.triple_arena_chain.proofs.chain_arena.ChainArena.take_inx_link_unwrap.Given.{Over}
use Rattle.triple_arena_chain.proofs.chain_arena.ChainArena.take_inx_link_unwrap.Goals as goal

pub follow-requires-clause-before : goal.follow-requires-clause-before
follow-requires-clause-before g c =
    let number = g.P.Inx.PtrInxCore.number in
    let live = (neighbors_live c.args.self.now (number c.args.i) c.get_inx_unwrap.result.now
    (subst IsChained c.self.view_is c.self.invariant) (search rules)).0 in
    search rules

pub follow-requires-clause-after : goal.follow-requires-clause-after
follow-requires-clause-after g c =
    let number = g.P.Inx.PtrInxCore.number in
    let live = (neighbors_live c.args.self.now (number c.args.i) c.get_inx_unwrap.result.now
    (subst IsChained c.self.view_is c.self.invariant) (search rules)).1 in
    search rules

pub take_inx_unwrap-requires : goal.take_inx_unwrap-requires
take_inx_unwrap-requires g c =
    let number = g.P.Inx.PtrInxCore.number in
    live_bridged c.args.self.now c.follow.new.arena (number c.args.i)
    c.get_inx_unwrap.result.now (search rules) (search rules)

done : (g : Over) (c : goal.After-take_inx_unwrap g)
    → TakenLive g.P.Gen.PtrGenCore.last
    (g.P.Inx.PtrInxCore.number c.args.i)
    (g.P.Gen.PtrGenCore.number c.take_inx_unwrap.result.0.0) c.take_inx_unwrap.result.0.1
    c.args.self.now c.take_inx_unwrap.new.self
done g c =
    let number = g.P.Inx.PtrInxCore.number in
    let joined : c.follow.new.arena
    ≡ bridged_over c.args.self.now c.get_inx_unwrap.result.now = search rules in
    taken_live g.P.Gen.PtrGenCore.last c.args.self.now c.follow.new.arena
    c.take_inx_unwrap.new.self (number c.args.i)
    (g.P.Gen.PtrGenCore.number c.take_inx_unwrap.result.0.0) c.get_inx_unwrap.result.now
    c.take_inx_unwrap.result.0.1
    (subst IsChained c.self.view_is c.self.invariant) (search rules) joined
    c.take_inx_unwrap.ensures.value c.take_inx_unwrap.ensures.exact

pub invariant_of-self : goal.invariant_of-self
invariant_of-self g c = (done g c).chained

pub returns-clause-value : goal.returns-clause-value
returns-clause-value g c = (done g c).value

pub returns-clause-taken : goal.returns-clause-taken
returns-clause-taken g c = (done g c).taken

pub returns-clause-exact : goal.returns-clause-exact
returns-clause-exact g c = (done g c).exact

pub returns-clause-formed : goal.returns-clause-formed
returns-clause-formed g c = (done g c).chained
